-- The walk is lent an empty window: it measures, and leaves the table fit for one more.
use Rattle.bsii_format.specs.Text.{value_text}
use Rattle.bsii_format.specs.BlockText.{every_block}
use Rattle.bsii_string.proofs.Passed.{passed_on}
use Rattle.bsii_forecast.proofs.LengthLaws.{again_refused, again_length}
use Rattle.bsii_forecast.proofs.length.length_again.Goals as goal

pub returns-in_err-end : goal.returns-in_err-end
returns-in_err-end c = rw (passed_on c.from_residual.ensures.1) (again_refused value_text every_block c.in_err-end.ensures)

pub returns : goal.returns
returns c = again_length value_text every_block c.in_ok-end.ensures c.saturating_sub.ensures
