-- What is written of the fields from here on is written of all of them: so it is at the start, and each turn keeps it.
use mathlib.Core.Path.{◌≡◌}
use Prim.Native.Nat.{ℕ, ◌-◌}
use mathlib.Core.List.{List}
use lib.ListN.{length}
use Rattle.bsii_format.specs.Text.{value_text}
use Rattle.bsii_write_block.specs.Blocks.{FieldsFrom, FieldsWritten}
use Rattle.std.specs.Prelude.{Result as Outcome}
use Rattle.bsii_string.specs.declared.answers.Refusal.{Refusal}
use Rattle.bsii_write_value.specs.declared.values.Lines.{Lines}
use Rattle.bsii_write_block.proofs.blocks.write_fields.Given as goal

abbrev pub invariant-loop-next : goal.invariant-loop-next
invariant-loop-next l =
    ((r : Outcome Lines Refusal) (new : List ℕ) → FieldsFrom value_text l.version l.s l.p l.out r new → FieldsWritten value_text l.version l.s l.start l.fields l.last_fields l.initial.out l.to r new)
    × (length l.out ≡ length l.initial.out)

abbrev pub decreases-loop-next : goal.decreases-loop-next
decreases-loop-next l = length l.s - l.p.field
