-- Laws A and B for a whole file: what is read is well-formed and its bytes are the file's; what is well-formed is read.
use mathlib.Core.Path.{◌≡◌, refl, sym, ap, ◌∙◌, subst}
use Prim.Native.Nat.{ℕ, ◌+◌, ◌/◌, ◌≤◌}
use native.Mathlib.Nat.{zero-add}
use native.Mathlib.Omega.{arith}
use mathlib.Core.Bool.{cond}
use mathlib.Core.List.{List, [], ◌++◌, append_assoc}
use lib.ListN.{length, length-append}
use lib.Dec.{T, leb, leb→le, le→leb}
use Rattle.bsii_format.specs.Replies.{Fault, input_long}
use Rattle.bsii_format.specs.Reader.{Result, ok, fault, ◌>>=◌, ◌<$>◌, after, Consumed, consumed}
use Rattle.bsii_format.specs.Prototypes.{Prototype}
use Rattle.bsii_format.specs.File.{Head, ending, head_parser, distinct_ids, Records, records_from, records_parser, header_parser, BsiiFile, bsii_file, bsii_parser, length_limit, parse, records_bytes, file_bytes, define_all}
use Rattle.bsii_format.proofs.Readers.{Fits, after_ok, cond_ok, is_true, is_false, bind_fits, map_fits, map_ok, ok_at, consumed_fits, consumed_took, well_formed_fits}
use Rattle.bsii_format.proofs.Parsers.{header_exact}
use Rattle.bsii_format.proofs.Records.{GoodRecords, records_fits, records_good, GoodWhole}

pub record GoodFile (rooms : ℕ) (f : BsiiFile) : Type 0 where
  pub header : Fits ℕ header_parser f.header.value f.header.raw
  pub records : GoodRecords f.header.value [] f.records
  pub roomed : distinct_ids (define_all f.records []) ≤ rooms
  pub last : Fits Head head_parser ending f.end

-- B: a well-formed file is read, whatever follows its end record
pub file_fits : (rooms : ℕ) (f : BsiiFile) → GoodFile rooms f → Fits BsiiFile (bsii_parser rooms) f (file_bytes f)
unfolding bsii_parser bsii_file file_bytes
file_fits rooms f g =
    bind_fits (λ h. bsii_file h <$> records_parser h.value rooms) (consumed_fits g.header)
    (map_fits (bsii_file f.header) (records_fits rooms g.records g.roomed g.last))

-- A: what is read is well-formed, and the bytes are its bytes and a rest
pub record FileTaken (rooms : ℕ) (f : BsiiFile) (s : List ℕ) (at : ℕ) (r : List ℕ) : Type 0 where
  pub good : GoodFile rooms f
  pub front : s ≡ file_bytes f ++ r
  pub place : at ≡ length (file_bytes f)

pub file_good : (rooms : ℕ) (s : List ℕ) (f : BsiiFile) (at : ℕ) (r : List ℕ) → bsii_parser rooms 0 s ≡ ok f at r → FileTaken rooms f s at r
unfolding bsii_parser bsii_file file_bytes ◌>>=◌ records_parser distinct_ids
file_good rooms s f at r e =
    let w = after_ok (consumed header_parser 0 s) (λ h. bsii_file h <$> records_parser h.value rooms) e in
    let x = consumed_took header_exact 0 s w.0 w.1 w.2 w.3 in
    let m = map_ok (bsii_file w.0) (records_parser w.0.value rooms) w.1 w.2 w.4 in
    let l = records_good w.0.value rooms (length w.2) [] w.1 w.2 m.0 at r m.2 in
    subst (λ f. FileTaken rooms f s at r) m.1 (record {
      good = record { header = x.fit; records = l.good; roomed = l.roomed (omega arith); last = l.last };
      front = x.front ∙ ap (λ (k : List ℕ). w.0.raw ++ k) l.front ∙ simp append_assoc;
      place = rw length-append (omega (arith, l.place, x.place));
    })

-- ---- the same with the length limit and the table's words

pub parse_short : (words : ℕ) (s : List ℕ) → length s ≤ length_limit → parse words s ≡ bsii_parser (words / 3) 0 s
unfolding parse
parse_short words s h = rw (is_true (leb (length s) length_limit) (le→leb (length s) length_limit h))

pub parse_ok : (words : ℕ) (s : List ℕ) {f : BsiiFile} {at : ℕ} {r : List ℕ} → parse words s ≡ ok f at r
    → (length s ≤ length_limit) × (bsii_parser (words / 3) 0 s ≡ ok f at r)
unfolding parse
parse_ok words s e =
    let w = cond_ok (leb (length s) length_limit) (bsii_parser (words / 3) 0 s) _ e in
    (leb→le (length s) length_limit w.0, w.1)

pub parse_fits : (words : ℕ) (f : BsiiFile) (r : List ℕ) → GoodFile (words / 3) f → length (file_bytes f ++ r) ≤ length_limit
    → parse words (file_bytes f ++ r) ≡ ok f (length (file_bytes f)) r
parse_fits words f r g h = parse_short words (file_bytes f ++ r) h ∙ (file_fits (words / 3) f g).reads 0 r ∙ ap (λ n. ok f n r) (zero-add (length (file_bytes f)))
