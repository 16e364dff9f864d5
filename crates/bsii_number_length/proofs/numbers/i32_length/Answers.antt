-- Below 2^31 the two's complement is the number itself; from there on it stands for 2^32 less, so 2^32 - n is its size behind a minus.
use mathlib.Core.Path.{refl}
use Rattle.bsii_digits.proofs.Counts.{at_most_twenty}
use Rattle.bsii_number_length.proofs.LengthLaws.{positive_length, negative_length}
use native.Mathlib.Omega.{arith}
use Rattle.bsii_number_length.proofs.numbers.i32_length.Goals as goal

pub returns-then-n-lt2147483648 : goal.returns-then-n-lt2147483648
returns-then-n-lt2147483648 c = positive_length 0x8000_0000 c.args.n c.decimal_count.ensures (omega arith) (omega arith)

pub overflow_add-result : goal.overflow_add-result
overflow_add-result c = omega (arith, c.decimal_count-else-n-lt2147483648.ensures, at_most_twenty c.wrapping_neg.result (omega arith))

pub returns-else-n-lt2147483648 : goal.returns-else-n-lt2147483648
returns-else-n-lt2147483648 c =
    let size = c.wrapping_neg.result in
    negative_length 0x8000_0000 0xffff_ffff c.args.n size c.decimal_count-else-n-lt2147483648.ensures refl (omega arith) (omega arith) (omega (arith, c.wrapping_neg.ensures)) (omega arith)
