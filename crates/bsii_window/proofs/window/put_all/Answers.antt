-- The law of the place that `overlap_of` answered: past the end nothing is stored and the position is capped, and inside, a store of all is what is written.
use native.Mathlib.Omega.{arith}
use mathlib.Core.Path.{refl}
use Rattle.bsii_window.proofs.Laws.{past, inside_sum}
use Rattle.bsii_window.proofs.window.put_all.Goals as goal

pub returns-in-Past : goal.returns-in-Past
returns-in-Past c = past c.in-Past.is c.overlap_of.ensures refl c.further.ensures (omega arith)

pub returns-in-Inside : goal.returns-in-Inside
returns-in-Inside c = inside_sum c.in-Inside.is c.overlap_of.ensures refl c.store.ensures (omega arith)
