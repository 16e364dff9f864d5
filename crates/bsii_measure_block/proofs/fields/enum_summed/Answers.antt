-- The number is read as the value reader reads it, and enum_string finds the string that the definition finds: with one the field has its line, with none the
-- first offset stays. A string's text is at most four times as long as the string, and the value has four bytes, so the sum fits.
use mathlib.Core.Path.{sym}
use native.Mathlib.Omega.{arith}
use Rattle.bsii_string.proofs.Passed.{passed_on}
use Rattle.bsii_measure_block.proofs.FieldLaws.{enum_fault, enum_absent, enum_fits, enum_text, part_short}
use Rattle.bsii_measure_block.proofs.fields.enum_summed.Goals as goal

pub returns-in_err-n : goal.returns-in_err-n
returns-in_err-n c = rw (passed_on c.from_residual.ensures.1) (enum_fault c.args.d c.requires.2 (sym c.in_err-n.ensures))

pub returns-in_default : goal.returns-in_default
returns-in_default c = rw c.with_missing.ensures (enum_absent c.args.d c.requires.2 (sym c.in_ok-n.ensures) c.requires.0 c.in_default.ensures)

pub string_length-requires : goal.string_length-requires
string_length-requires c = part_short c.args.s.now c.in-Some.text.start c.in-Some.text.next c.requires.0.short

pub overflow_add-line-2 : goal.overflow_add-line-2
overflow_add-line-2 c =
    let w = enum_fits c.args.d c.requires.2 (sym c.in_ok-n.ensures) c.requires.0 c.in-Some.ensures c.requires.1 c.string_length.ensures in
    omega (arith, c.requires.0.short, w)

pub overflow_add-result : goal.overflow_add-result
overflow_add-result c =
    let w = enum_fits c.args.d c.requires.2 (sym c.in_ok-n.ensures) c.requires.0 c.in-Some.ensures c.requires.1 c.string_length.ensures in
    omega (arith, c.requires.0.fits, c.requires.0.inside, c.requires.0.short, w)

pub returns : goal.returns
returns c = enum_text c.args.d c.requires.2 (sym c.in_ok-n.ensures) c.requires.0 c.in-Some.ensures c.requires.1 c.string_length.ensures
