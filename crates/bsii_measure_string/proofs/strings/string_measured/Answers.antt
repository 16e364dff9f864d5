use mathlib.Core.Path.{ap, ◌∙◌}
use native.Mathlib.Omega.{arith}
use lib.ListN.{length}
use Rattle.bsii_format.specs.Text.{string_text}
use Rattle.bsii_string.proofs.Passed.{passed_on}
use Rattle.bsii_measure_string.specs.Measured.{measured}
use Rattle.bsii_measure_string.proofs.StringMeasures.{string_fault, string_place, string_part}
use Rattle.bsii_measure_string.proofs.strings.string_measured.Goals as goal

pub returns-in_err-next : goal.returns-in_err-next
returns-in_err-next c = let a = c.args in rw (passed_on c.from_residual.ensures.1) (string_fault a.s.now a.at c.in_err-next.ensures)

pub overflow_add-at : goal.overflow_add-at
overflow_add-at c = let a = c.args in omega (arith, string_place a.s.now a.at c.in_ok-next.ensures)

pub part_measured-requires : goal.part_measured-requires
part_measured-requires c =
    let a = c.args in
    let p = string_place a.s.now a.at c.in_ok-next.ensures in
    (omega arith, p.0, p.1)

pub returns : goal.returns
returns c =
    let a = c.args in
    c.part_measured.ensures ∙ ap (measured (λ t. length (string_text t))) (string_part a.s.now a.at c.in_ok-next.ensures)
