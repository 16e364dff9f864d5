-- Where a part of a record lies.
use Rattle.std.specs.Prelude.{ℕ, ◌+◌, ◌≤◌, List, length}
use Rattle.replay.specs.declared.list.Part.{Part}

-- behind its length and inside the record
abbrev pub Inside : List ℕ → ℕ → Part → Type 0
Inside s at p = (at + 4 ≤ p.start) × (p.start ≤ p.end) × (p.end ≤ length s)
