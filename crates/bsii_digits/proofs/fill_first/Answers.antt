-- Below 10 the number is its one digit; from 10 on, below 100, it has two, the quotient and the rest by 10: these are all of `decimal n`.
use mathlib.Core.Path.{refl, ◌∙◌}
use native.Mathlib.Omega.{arith}
use Rattle.bsii_digits.proofs.DigitLaws.{decimal_one, decimal_pair, count_one, count_two}
use Rattle.bsii_digits.proofs.fill_first.Goals as goal

pub overflow_sub-out : goal.overflow_sub-out
overflow_sub-out c = omega (arith, count_one c.args.n (omega arith))

pub bounds-out-end : goal.bounds-out-end
bounds-out-end c = omega (arith, count_one c.args.n (omega arith))

pub returns-then-n-lt10 : goal.returns-then-n-lt10
returns-then-n-lt10 c = rw (decimal_one c.args.n (omega arith), c.decimal_digit.ensures) refl

pub overflow_sub-end : goal.overflow_sub-end
overflow_sub-end c = omega (arith, count_two c.args.n (omega arith) (omega arith))

pub fill_pair-requires : goal.fill_pair-requires
fill_pair-requires c = omega (arith, count_two c.args.n (omega arith) (omega arith))

pub returns : goal.returns
returns c =
    let n = c.args.n in
    c.fill_pair.ensures ∙ rw (c.decimal_digit-2.ensures, c.decimal_digit-3.ensures, decimal_pair n (omega arith) (omega arith)) refl
