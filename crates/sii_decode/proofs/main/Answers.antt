-- `print_into` answers a size within the output (`Starts` says so), so the prefix that is printed exists; the arrays have the lengths that it requires.
use mathlib.Core.Path.{sym}
use lib.Seq.{length-take-le}
use Rattle.sii_decode.proofs.main.Goals as goal

pub slice_bounds-write_all-end : goal.slice_bounds-write_all-end
slice_bounds-write_all-end c = sym (length-take-le _ _ c.print_into-size.ensures.inside)
