use mathlib.Core.Path.{◌≡◌}
use Prim.Native.Nat.{◌+◌, ◌-◌, ◌*◌}
use Rattle.bsii_format.specs.Types.{width, arity, numbers}
use Rattle.bsii_value.specs.Kinds.{numeric_is}
use Rattle.bsii_measure_value.proofs.ElementMeasures.{Adding}
use Rattle.bsii_measure_value.proofs.numeric.rows_length.Given as goal

abbrev pub invariant-loop-i : goal.invariant-loop-i
invariant-loop-i l =
    Adding l.s l.start l.count (numbers (numeric_is l.kind)) l.name l.at l.long l.i
    × (l.at + (l.count - l.i) * (arity (numeric_is l.kind) * width (numeric_is l.kind)) ≡ l.start + l.count * (arity (numeric_is l.kind) * width (numeric_is l.kind)))
