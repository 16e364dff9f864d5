use Rattle.std.proofs.Common.{◌+◌, ◌*◌, ◌≤◌}
use Rattle.bsii_window.specs.Stored.{Stored}
use Rattle.bsii_float_text.proofs.TextLaws.{front}
use Rattle.bsii_float_text.proofs.store_floats.Given as goal

abbrev pub invariant-loop-i : goal.invariant-loop-i
invariant-loop-i g l = Stored l.initial.out l.to (front g.row.N l.i l.v.items l.nan.items) l.next l.out × (l.next ≤ l.to + 23 * l.i)
