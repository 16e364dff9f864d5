-- An accepted string ends at at + 4 + its length, so its bytes start behind the u32, and what is left up to the end is their number: both
-- subtractions fit for the same reason.
use mathlib.Core.Path.{sym, ◌∙◌}
use native.Mathlib.Omega.{arith}
use lib.ListN.{drop}
use Rattle.bsii_format.specs.Strings.{str_parser}
use Rattle.bsii_format.specs.Types.{string}
use Rattle.bsii_format.specs.Values.{str, element_parser}
use Rattle.bsii_string.proofs.Ends.{mapped}
use Rattle.bsii_string.proofs.Passed.{passed_on}
use Rattle.bsii_element.proofs.Call.{string_next, string_decoded, decoded_fault}
use Rattle.bsii_element.proofs.elements.text.Goals as goal

pub overflow_add-result : goal.overflow_add-result
overflow_add-result c =
    let a = c.args in
    omega (arith, string_next a.s.now a.at c.in_ok-next.ensures)

pub overflow_sub-result : goal.overflow_sub-result
overflow_sub-result c =
    let a = c.args in
    omega (arith, string_next a.s.now a.at c.in_ok-next.ensures)

pub overflow_sub-result-2 : goal.overflow_sub-result-2
overflow_sub-result-2 c =
    let a = c.args in
    omega (arith, string_next a.s.now a.at c.in_ok-next.ensures)

pub returns : goal.returns
returns c =
    let a = c.args in
    string_decoded a.s.now a.at c.in_ok-next.ensures

pub returns-in_err-next : goal.returns-in_err-next
unfolding element_parser
returns-in_err-next c =
    let a = c.args in
    rw (passed_on c.from_residual.ensures.1) (decoded_fault a.at (element_parser string a.at (drop a.at a.s.now)) (c.in_err-next.ensures ∙ sym (mapped str str_parser a.at (drop a.at a.s.now))))
