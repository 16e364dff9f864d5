use Rattle.std.proofs.Common.{◌≡◌, ◌≤◌, ◌+◌, ◌*◌, ℕ, length, take}
use Rattle.std.specs.List.{sum_by}
use Rattle.bsii_format.specs.Floats.{float_text}
use Rattle.bsii_number_length.proofs.floats.floats_length.Given as goal

abbrev pub invariant-loop-n : goal.invariant-loop-n
invariant-loop-n g l = (l.length ≡ 2 * g.row.N + sum_by (λ (k : ℕ). length (float_text k)) (take l.n-index l.fn.v.items)) × (l.length ≤ 2 * g.row.N + 21 * l.n-index)
