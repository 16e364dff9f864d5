-- element_parser of an id is id_parser with its value wrapped, which moves no end and no fault; an id ends no earlier than it starts, so the size fits.
use mathlib.Core.Path.{sym, ◌∙◌}
use lib.ListN.{drop}
use Rattle.bsii_format.specs.Reader.{◌<$>◌}
use Rattle.bsii_format.specs.Strings.{id_parser}
use Rattle.bsii_format.specs.Values.{ident, element_parser}
use Rattle.bsii_string.proofs.Ends.{mapped}
use Rattle.bsii_string.proofs.Passed.{passed_on}
use Rattle.bsii_element.proofs.Call.{id_next, id_decoded, decoded_fault}
use Rattle.bsii_element.proofs.elements.id.Goals as goal

pub overflow_sub-result : goal.overflow_sub-result
overflow_sub-result c =
    let a = c.args in
    id_next a.s.now a.at c.in_ok-next.ensures

pub returns : goal.returns
returns c =
    let a = c.args in
    id_decoded a.s.now a.at c.in_ok-next.ensures

pub returns-in_err-next : goal.returns-in_err-next
unfolding element_parser
returns-in_err-next c =
    let a = c.args in
    rw (passed_on c.from_residual.ensures.1) (decoded_fault a.at ((ident <$> id_parser) a.at (drop a.at a.s.now)) (c.in_err-next.ensures ∙ sym (mapped ident id_parser a.at (drop a.at a.s.now))))
