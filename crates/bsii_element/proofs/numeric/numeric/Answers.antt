-- Numbers that were accepted lie inside the file, so the rest of the file starts with them, and reading them there gives the numbers that the
-- parser gave; a fault is the parser's own.
use mathlib.Core.Path.{ap, ◌∙◌}
use native.Mathlib.Omega.{arith}
use lib.ListN.{drop}
use Rattle.bsii_format.specs.Replies.{gives}
use Rattle.bsii_format.specs.Types.{numbers}
use Rattle.bsii_format.specs.Values.{element_parser}
use Rattle.bsii_string.proofs.Passed.{passed_on}
use Rattle.bsii_value.specs.Kinds.{numeric_is}
use Rattle.bsii_element.proofs.Call.{numbers_inside, numbers_decoded, decoded_fault}
use Rattle.bsii_element.proofs.numeric.numeric.Goals as goal

pub slice_bounds-numeric_of-count : goal.slice_bounds-numeric_of-count
slice_bounds-numeric_of-count c =
    let a = c.args in
    numbers_inside (numeric_is a.n) a.s.now a.at c.in_ok-numeric_end.ensures

pub slice_bounds-numeric_of-start : goal.slice_bounds-numeric_of-start
slice_bounds-numeric_of-start c =
    let a = c.args in
    omega (arith, numbers_inside (numeric_is a.n) a.s.now a.at c.in_ok-numeric_end.ensures)

pub returns : goal.returns
returns c =
    let a = c.args in
    ap gives c.numeric_of.ensures ∙ numbers_decoded (numeric_is a.n) a.s.now a.at c.in_ok-numeric_end.ensures

pub returns-in_err-numeric_end : goal.returns-in_err-numeric_end
returns-in_err-numeric_end c =
    let a = c.args in
    rw (passed_on c.from_residual.ensures.1) (decoded_fault a.at (element_parser (numbers (numeric_is a.n)) a.at (drop a.at a.s.now)) c.in_err-numeric_end.ensures)
