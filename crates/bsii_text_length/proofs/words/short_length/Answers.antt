use mathlib.Core.Path.{sym}
use native.Mathlib.Omega.{arith}
use Rattle.bsii_text_length.proofs.WordLaws.{count_none, between}
use Rattle.bsii_text_length.proofs.words.short_length.Goals as goal

pub returns-then-n-eq0 : goal.returns-then-n-eq0
returns-then-n-eq0 c = sym (count_none c.args.n (omega arith))

pub returns-then-n-lt38 : goal.returns-then-n-lt38
returns-then-n-lt38 c = between 0 c.args.n (omega arith) (omega arith)

pub returns-then-n-lt1444 : goal.returns-then-n-lt1444
returns-then-n-lt1444 c = between 1 c.args.n (omega arith) (omega arith)

pub returns-then-n-lt54872 : goal.returns-then-n-lt54872
returns-then-n-lt54872 c = between 2 c.args.n (omega arith) (omega arith)

pub returns-then-n-lt2085136 : goal.returns-then-n-lt2085136
returns-then-n-lt2085136 c = between 3 c.args.n (omega arith) (omega arith)

pub returns-then-n-lt79235168 : goal.returns-then-n-lt79235168
returns-then-n-lt79235168 c = between 4 c.args.n (omega arith) (omega arith)

pub returns : goal.returns
returns c = between 5 c.args.n (omega arith) (omega arith)
