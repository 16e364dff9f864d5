use mathlib.Core.Path.{sym, ap}
use lib.ListN.{drop}
use Rattle.bsii_format.specs.Strings.{encoded_str_parser}
use Rattle.bsii_format.specs.Values.{word, element_parser}
use Rattle.bsii_format.specs.Calls.{datum_of}
use Rattle.bsii_format.proofs.Readers.{map_fault}
use Rattle.bsii_format.proofs.Positions.{map_value}
use Rattle.bsii_string.proofs.Passed.{passed_on}
use Rattle.bsii_element.specs.Decoded.{decoded}
use Rattle.bsii_element.proofs.elements.word.Goals as goal

pub returns : goal.returns
unfolding element_parser decoded datum_of
returns c =
    let a = c.args in
    sym (ap (decoded a.at) (map_value word encoded_str_parser (sym c.in_ok-low.ensures)))

pub returns-in_err-low : goal.returns-in_err-low
unfolding element_parser decoded
returns-in_err-low c =
    let a = c.args in
    rw (passed_on c.from_residual.ensures.1) (sym (ap (decoded a.at) (map_fault word encoded_str_parser a.at (drop a.at a.s.now) (sym c.in_err-low.ensures))))
