-- What the code's records mean.
use Rattle.std.specs.Prelude.{◌≡◌, ℕ, ◌≤◌, ◌<◌, List, [], ◌∷◌, ◌++◌, length, Some, None, Option as Answer}
use Rattle.std.proofs.Math.Option.{Option, none, some}
use Rattle.bsii_derived.specs.Index as index
use Rattle.bsii_derived.specs.Index.{agreeing}
use Rattle.bsii_index_record.specs.declared.IndexRecord.{IndexRecord}

-- a number has a byte at least, and at most four: so it fits the machine's
abbrev pub Width : ℕ → Type 0
Width w = (0 < w) × (w ≤ 4)

abbrev pub record_is : IndexRecord → index.IndexRecord
record_is r = record { offset = r.offset; size = r.size; prototype = r.prototype; fields = r.fields }

abbrev pub found_is : Answer IndexRecord → Option index.IndexRecord
found_is (Some r) = some (record_is r)
found_is None = none

-- of the records l, `agreed` stand at the front of the bytes i, and r of these with one more
pub record Agrees (i : List ℕ) (w agreed number : ℕ) (e : IndexRecord) (r : ℕ) : Type 0 where
  pub next : (l : List index.IndexRecord) → agreed ≡ agreeing w l i → number ≡ length l → r ≡ agreeing w (l ++ (record_is e ∷ [])) i
