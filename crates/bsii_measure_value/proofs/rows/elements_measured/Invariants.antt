use Rattle.bsii_value.specs.Kinds.{kind_is}
use Rattle.bsii_measure_value.proofs.ElementMeasures.{Adding}
use Rattle.bsii_measure_value.proofs.rows.elements_measured.Given as goal

abbrev pub invariant-loop-i : goal.invariant-loop-i
invariant-loop-i l = Adding l.s l.start l.count (kind_is l.kind) l.name l.at l.long l.i
