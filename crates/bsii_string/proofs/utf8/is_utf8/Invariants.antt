-- `utf8::is_utf8`: Invariant: the bytes that are left, from this state, decide for all.
use mathlib.Core.Path.{◌≡◌}
use lib.ListN.{drop}
use Rattle.bsii_format.specs.Utf8.{steps, complete, utf8}
use Rattle.bsii_string.specs.States.{to_come}
use Rattle.bsii_string.proofs.utf8.is_utf8.Given as goal

abbrev pub invariant-loop-byte : goal.invariant-loop-byte
invariant-loop-byte l = complete (steps (to_come l.state) (drop l.byte-index l.byte-items)) ≡ utf8 l.part
