-- What follows from the promises, from the statements alone: each part by itself, so that a promise that says less is not enough for it.
use mathlib.Core.Path.{◌≡◌, ◌∙◌, sym}
use Prim.Native.Nat.{ℕ, ◌*◌, ◌^◌, ◌≤◌, ◌<◌}
use mathlib.Core.Option.{some}
use mathlib.Core.List.{List}
use lib.ListN.{length, get_elem?}
use Rattle.bsii_format.specs.Replies.{Fault, gives, refuses}
use Rattle.bsii_format.specs.Reader.{ok}
use Rattle.bsii_format.specs.File.{BsiiFile, parse}
use Rattle.bsii_format.specs.Calls.{blocks_of, Reading, reading_call, FieldAnswer, field_call}
use Rattle.bsii_derived.specs.Index.{IndexRecord, index_bytes, index_of}
use Rattle.bsii_derived.specs.IndexCalls.{check_index_call, index_field_call, defines_once_call}
use Rattle.bsii_derived.specs.IndexClaims.{OnePerBlock, ChecksExactly, NumbersHeld, AnswersAsWalk, AtOwnWidth}

-- a record for each block, also where there is none
pub a_record_each : OnePerBlock → (w words : ℕ) (s : List ℕ) (f : BsiiFile) (at : ℕ) (r : List ℕ) → parse words s ≡ ok f at r
    → length (index_bytes w (index_of f)) ≡ length (blocks_of f) * (4 * w)
a_record_each claim w words s f at r e = claim w words s f at r e

-- what fits is what is written, and what is written fits
pub only_the_written : ChecksExactly → (w words : ℕ) (s i : List ℕ) → check_index_call w words s i ≡ gives tt
    → (f : BsiiFile) × (at : ℕ) × (r : List ℕ) × (parse words s ≡ ok f at r) × (i ≡ index_bytes w (index_of f))
only_the_written claim w words s i e = (claim w words s i).0 e

pub the_written_fits : ChecksExactly → (w words : ℕ) (s i : List ℕ) (f : BsiiFile) (at : ℕ) (r : List ℕ) → parse words s ≡ ok f at r → i ≡ index_bytes w (index_of f)
    → check_index_call w words s i ≡ gives tt
the_written_fits claim w words s i f at r e z = (claim w words s i).1 (f, at, r, e, z)

-- each of a record's four numbers
module _ (claim : NumbersHeld) (w words : ℕ) (s : List ℕ) (held : length s ≤ 256 ^ w) (f : BsiiFile) (at : ℕ) (r : List ℕ) (read : parse words s ≡ ok f at r) (k : ℕ) (e : IndexRecord)
    (there : get_elem? (index_of f) k ≡ some e) where
  pub offset_held : e.offset < 256 ^ w
  offset_held = (claim w s held words f at r read k e there).offset

  pub size_held : e.size < 256 ^ w
  size_held = (claim w s held words f at r read k e there).size

  pub prototype_held : e.prototype < 256 ^ w
  prototype_held = (claim w s held words f at r read k e there).prototype

  pub fields_held : e.fields < 256 ^ w
  fields_held = (claim w s held words f at r read k e there).fields

-- found and refused alike, with any table that has room
module _ (claim : AnswersAsWalk) (w words : ℕ) (s i : List ℕ) (held : length s ≤ 256 ^ w) (fits : check_index_call w words s i ≡ gives tt) (once : defines_once_call words s ≡ gives 1)
    (a : Reading) (read : reading_call words s ≡ gives a) (words' : ℕ) (room : 3 * a.prototypes ≤ words') (k : ℕ) (name : List ℕ) where
  pub found_alike : (v : FieldAnswer) → field_call words' s k name ≡ gives v → index_field_call w s i k name ≡ gives v
  found_alike v e = claim w s held words i fits once a read words' room k name ∙ e

  pub refused_alike : (x : Fault) → field_call words' s k name ≡ refuses x → index_field_call w s i k name ≡ refuses x
  refused_alike x e = claim w s held words i fits once a read words' room k name ∙ e

  pub found_back : (v : FieldAnswer) → index_field_call w s i k name ≡ gives v → field_call words' s k name ≡ gives v
  found_back v e = sym (claim w s held words i fits once a read words' room k name) ∙ e

-- with three bytes, whatever the file
pub three_hold : AtOwnWidth → (words : ℕ) (s : List ℕ) (f : BsiiFile) (at : ℕ) (r : List ℕ) → parse words s ≡ ok f at r → (k : ℕ) (e : IndexRecord) → get_elem? (index_of f) k ≡ some e
    → (e.offset < 16_777_216) × (e.size < 16_777_216) × (e.prototype < 16_777_216) × (e.fields < 16_777_216)
three_hold claim words s f at r read k e there = let x = claim.held s words f at r read k e there in (x.offset, x.size, x.prototype, x.fields)

pub looked_up_alike : AtOwnWidth → (words : ℕ) (s i : List ℕ) → check_index_call 3 words s i ≡ gives tt → defines_once_call words s ≡ gives 1
    → (a : Reading) → reading_call words s ≡ gives a → (words' : ℕ) → 3 * a.prototypes ≤ words' → (k : ℕ) (name : List ℕ) → index_field_call 3 s i k name ≡ field_call words' s k name
looked_up_alike claim words s i fits once a read words' room k name = claim.looks s words i fits once a read words' room k name
