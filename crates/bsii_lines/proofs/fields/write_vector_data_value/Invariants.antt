-- The lines of the elements that are passed are written, and those of the rest follow: so it is at the start, and each element keeps it.
use Rattle.bsii_value.specs.Kinds.{kind_is}
use Rattle.bsii_lines.proofs.ArrayLaws.{Going}
use Rattle.bsii_lines.proofs.fields.write_vector_data_value.Given as goal

abbrev pub invariant-loop-i : goal.invariant-loop-i
invariant-loop-i l = Going l.s l.start (kind_is l.kind) l.d l.count l.initial.out l.to l.at l.here l.i l.out
