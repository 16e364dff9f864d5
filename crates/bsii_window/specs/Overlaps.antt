-- What `overlap_of` answers: enough to store a text without a test for each byte, or to store nothing of it.
use Rattle.std.specs.Prelude.{ℕ, ◌+◌, ◌≤◌, ◌≡◌}
use Rattle.bsii_window.specs.declared.window.Overlap.{Overlap}
use Rattle.bsii_window.specs.declared.window.Overlap.TheVariants as place

abbrev pub OverlapOf : ℕ → ℕ → ℕ → Overlap → Type 0
OverlapOf room at count (place.Inside start) = (at ≡ start + 0x8000_0000_0000_0000) × (start + count ≤ room)
OverlapOf room at count place.Past = room + 0x8000_0000_0000_0000 ≤ at
OverlapOf room at count place.Across = Unit {0}
