-- Between two powers of 38 the number of digits is known (`between`): each test tells one power.
use native.Mathlib.Omega.{arith}
use Rattle.bsii_text_length.proofs.WordLaws.{between}
use Rattle.bsii_text_length.proofs.words.word_length.Goals as goal

pub returns-then-n-lt114415582592 : goal.returns-then-n-lt114415582592
returns-then-n-lt114415582592 c = between 6 c.args.n (omega arith) (omega arith)

pub returns-then-n-lt4347792138496 : goal.returns-then-n-lt4347792138496
returns-then-n-lt4347792138496 c = between 7 c.args.n (omega arith) (omega arith)

pub returns-then-n-lt165216101262848 : goal.returns-then-n-lt165216101262848
returns-then-n-lt165216101262848 c = between 8 c.args.n (omega arith) (omega arith)

pub returns-then-n-lt6278211847988224 : goal.returns-then-n-lt6278211847988224
returns-then-n-lt6278211847988224 c = between 9 c.args.n (omega arith) (omega arith)

pub returns-then-n-lt238572050223552512 : goal.returns-then-n-lt238572050223552512
returns-then-n-lt238572050223552512 c = between 10 c.args.n (omega arith) (omega arith)

pub returns-then-n-lt9065737908494995456 : goal.returns-then-n-lt9065737908494995456
returns-then-n-lt9065737908494995456 c = between 11 c.args.n (omega arith) (omega arith)

pub returns : goal.returns
returns c = between 12 c.args.n (omega arith) (omega arith)
