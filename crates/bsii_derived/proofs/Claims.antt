-- The promises: the file's parts stand at the index's offsets, so the look-up reads there what the walk has read.
use mathlib.Core.Path.{◌≡◌, refl, sym, ap, ◌∙◌, subst}
use Prim.Native.Nat.{ℕ, zero, suc, ◌+◌, ◌*◌, ◌/◌, ◌^◌, ◌≤◌, ◌<◌}
use native.Mathlib.Nat.{le-div_iff_mul-le}
use native.Mathlib.Omega.{arith}
use mathlib.Core.Bool.{Bool, true, false, cond}
use mathlib.Core.Option.{Option, none, some, map}
use mathlib.Core.List.{List, [], ◌∷◌, ◌++◌, append_assoc}
use lib.ListN.{length, take, drop, get_elem?, length-append}
use lib.Seq.{drop-append_seam}
use lib.Dec.{T, leb, le→leb, lit≤}
use Rattle.bsii_format.specs.Ascii.{ascii}
use Rattle.bsii_format.specs.Replies.{Reply, gives, refused, refusal, invalid_header, misfit}
use Rattle.bsii_format.specs.Reader.{Result, ok, fault, ◌>>=◌, after, same, tag}
use Rattle.bsii_format.specs.Numbers.{le_u32}
use Rattle.bsii_format.specs.Prototypes.{Prototype}
use Rattle.bsii_format.specs.Blocks.{DataBlock, find_by}
use Rattle.bsii_format.specs.File.{block, record_bytes, records_bytes, header_parser, BsiiFile, length_limit, parse, file_bytes, distinct_ids, prototypes_of}
use Rattle.bsii_format.specs.BlockText.{or_refuse}
use Rattle.bsii_format.specs.Calls.{of_file, or_absent, Placed, placed_records, blocks_of, Reading, reading_of, reading_call, field_under, field_in, field_answer, field_of, field_call}
use Rattle.bsii_format.proofs.Readers.{ok_val, ok_move, after_ok, cond_ok, is_true, takes, same→eq, same_refl}
use Rattle.bsii_format.proofs.File.{FileTaken, file_good, parse_ok, parse_fits}
use Rattle.bsii_format.proofs.Records.{head_takes}
use Rattle.bsii_format.proofs.ReplyLaws.{refuses≢gives, gives_inj}
use Rattle.bsii_derived.specs.Index.{index_width, IndexRecord, index_record, index_of, index_bytes_of, record_at}
use Rattle.bsii_derived.specs.IndexCalls.{checked, check_index_call, prototype_at, block_at, answering, field_by, index_field_call, once, defines_once_call}
use Rattle.bsii_derived.specs.IndexClaims.{OnePerBlock, ChecksExactly, Held, NumbersHeld, AnswersAsWalk, AtOwnWidth}
use Rattle.bsii_derived.proofs.Bytes.{none≢some, some_is, index_length_law, record_there, record_missing}
use Rattle.bsii_derived.proofs.Defined.{prototype_fits, block_fits}
use Rattle.bsii_derived.proofs.Once.{found_id}
use Rattle.bsii_derived.proofs.Entries.{Stands, BlockIn, Entry, neither, both, entry_at, entry_held}

-- ---- a file that is read

pub record Read (f : BsiiFile) (s r : List ℕ) : Type 0 where
  pub short : length s ≤ length_limit
  pub rooms : ℕ
  pub at : ℕ
  pub taken : FileTaken rooms f s at r

pub was_read : (words : ℕ) (s : List ℕ) {f : BsiiFile} {at : ℕ} {r : List ℕ} → parse words s ≡ ok f at r → Read f s r
was_read words s {f} {at} {r} e = let x = parse_ok words s e in record { short = x.0; rooms = words / 3; at = at; taken = file_good (words / 3) s f at r x.1 }

module _ {f : BsiiFile} {s r : List ℕ} (d : Read f s r) where
  -- with any table that has room
  pub reads_again : (words' : ℕ) → distinct_ids (prototypes_of f.records) ≤ words' / 3 → parse words' s ≡ ok f (length (file_bytes f)) r
  unfolding prototypes_of
  reads_again words' h =
      let g = d.taken.good in
      ap (parse words') d.taken.front
      ∙ parse_fits words' f r (record { header = g.header; records = g.records; roomed = h; last = g.last }) (subst (λ z. length z ≤ length_limit) d.taken.front d.short)

  records_stand : Stands s (length f.header.raw) (records_bytes f.records)
  unfolding file_bytes
  records_stand = (
    f.end ++ r,
    ap (drop (length f.header.raw)) (d.taken.front ∙ append_assoc f.header.raw (records_bytes f.records ++ f.end) r)
        ∙ drop-append_seam f.header.raw ((records_bytes f.records ++ f.end) ++ r) ∙ append_assoc (records_bytes f.records) f.end r,
  )

  pub entry : (k : ℕ) → Entry f.header.value s (prototypes_of f.records) (get_elem? (index_of f) k) (get_elem? (blocks_of f) k)
  unfolding index_of blocks_of placed_records prototypes_of find_by header_parser ◌>>=◌ after tag same
  entry k = entry_at (length f.header.raw) [] d.taken.good.records records_stand (takes header_parser d.taken.good.header refl) (λ n p e. none≢some e) refl k

  -- the version stands at 4
  version_at : (n : ℕ) × (t : List ℕ) × (le_u32 4 (drop 4 s) ≡ ok f.header.value n t)
  unfolding file_bytes header_parser ◌>>=◌ tag
  version_at =
      let t : List ℕ = (records_bytes f.records ++ f.end) ++ r in
      let h = ap (header_parser 0) (d.taken.front ∙ append_assoc f.header.raw (records_bytes f.records ++ f.end) r) ∙ d.taken.good.header.reads 0 t in
      let x = after_ok (tag (ascii "BSII") invalid_header 0 s) (λ u. le_u32) h in
      let y = cond_ok (same (take 4 s) (ascii "BSII")) (ok tt 4 (drop 4 s)) (refused invalid_header 0) x.3 in
      (0 + length f.header.raw, t, ok_move (λ u i w. le_u32 i w ≡ ok f.header.value (0 + length f.header.raw) t) (sym y.1) x.4)

-- ---- one record for each block

module _ {version : ℕ} {s : List ℕ} {last : List Prototype} where
  not_more : {P : Type 0} {o : Option IndexRecord} {b : Option (Placed DataBlock)} {y : Placed DataBlock} → Entry version s last o b → o ≡ none → b ≡ some y → P
  not_more neither e g = none≢some g
  not_more (both b p i) e g = none≢some (sym e)

  not_fewer : {P : Type 0} {o : Option IndexRecord} {b : Option (Placed DataBlock)} {x : IndexRecord} → Entry version s last o b → o ≡ some x → b ≡ none → P
  not_fewer neither e g = none≢some e
  not_fewer (both b p i) e g = none≢some (sym g)

  same_length : (l : List IndexRecord) (m : List (Placed DataBlock)) → ((k : ℕ) → Entry version s last (get_elem? l k) (get_elem? m k)) → length l ≡ length m
  same_length [] [] h = refl
  same_length [] (y ∷ m) h = not_more (h 0) refl refl
  same_length (x ∷ l) [] h = not_fewer (h 0) refl refl
  same_length (x ∷ l) (y ∷ m) h = ap suc (same_length l m (λ k. h (suc k)))

pub index_blocks : {f : BsiiFile} {s r : List ℕ} → Read f s r → length (index_of f) ≡ length (blocks_of f)
index_blocks {f} d = same_length (index_of f) (blocks_of f) (entry d)

pub one_per_block : OnePerBlock
one_per_block w words s f at r e = index_length_law w (index_of f) ∙ ap (λ n. n * (4 * w)) (index_blocks (was_read words s e))

-- ---- check

misfit≢fits : {P : Type 0} (b : Bool) (x : ℕ) → ◌≡◌ {A = Reply (Unit {0})} (cond b (gives tt) (refusal misfit x)) (gives tt) → (T b → P) → P
misfit≢fits true x e p = p tt
misfit≢fits false x e p = refuses≢gives e

pub checks_exactly : ChecksExactly
unfolding check_index_call checked of_file
checks_exactly w words s i = ((λ e. there (parse words s) refl e), (λ (f, at, r, e, z). back f at r e z))
  where
    there : (q : Result BsiiFile) → parse words s ≡ q → of_file (λ f at. checked w (index_of f) i) q ≡ gives tt
        → (f : BsiiFile) × (at : ℕ) × (r : List ℕ) × (parse words s ≡ ok f at r) × (i ≡ index_bytes_of w f)
    there (ok f at r) h e = misfit≢fits (same (index_bytes_of w f) i) _ e (λ t. (f, at, r, h, sym (same→eq (index_bytes_of w f) i t)))
    there (fault x) h e = refuses≢gives e

    back : (f : BsiiFile) (at : ℕ) (r : List ℕ) → parse words s ≡ ok f at r → i ≡ index_bytes_of w f → check_index_call w words s i ≡ gives tt
    back f at r e z = rw (e, z, is_true (same (index_bytes_of w f) (index_bytes_of w f)) (same_refl (index_bytes_of w f))) refl

-- ---- the numbers

held_some : {version : ℕ} {s : List ℕ} {last : List Prototype} (w : ℕ) → length s ≤ 256 ^ w → {o : Option IndexRecord} {b : Option (Placed DataBlock)} {e : IndexRecord}
    → Entry version s last o b → o ≡ some e → Held w e
held_some w h neither z = none≢some z
held_some w h (both b p i) z = subst (Held w) (some_is z) (entry_held w h b p i)

pub numbers_held : NumbersHeld
numbers_held w s h words f at r e k x z = held_some w h (entry (was_read words s e) k) z

-- ---- look up

module _ {f : BsiiFile} {s r : List ℕ} (d : Read f s r) where
  -- no file is read that has less than two bytes
  some_bytes : (w : ℕ) → length s ≤ 256 ^ w → 0 < w
  unfolding file_bytes header_parser ◌>>=◌ after tag same
  some_bytes zero h =
      let x = takes header_parser d.taken.good.header refl in
      let y = head_takes d.taken.good.last in
      let e = rw (length-append, length-append, length-append) at (ap length d.taken.front) in
      absurd (omega (arith, h, x, y, e))
  some_bytes (suc w) h = omega arith

  -- at a record of the file's index the prototype and the block are read that stand there
  looked : (name : List ℕ) (b : Placed DataBlock) (p : Placed Prototype) → BlockIn f.header.value s (prototypes_of f.records) b p
      → field_by s name (some (index_record b.offset b.it p)) ≡ or_absent (map field_answer (field_under name b (some p.it)))
  unfolding field_by answering index_record
  looked name b p i =
      let v = version_at d in
      let x = ap (prototype_at b.offset p.offset) i.defined.bytes.1 ∙ (prototype_fits b.offset p.it i.defined.good).reads p.offset i.defined.bytes.0 in
      let y = ap (block_at f.header.value i.good.by b.offset) i.bytes.1 ∙ (block_fits b.it i.good (found_id b.it.prototype_id i.env i.good.found)).reads b.offset i.bytes.0 in
      let z = subst (λ q. block_at f.header.value q b.offset (drop b.offset s) ≡ ok b.it (b.offset + length (record_bytes (block b.it))) i.bytes.0) i.under y in
      rw (v.2, x, z) refl

  by_entry : (w : ℕ) → length s ≤ 256 ^ w → once (prototypes_of f.records) ≡ true → (k : ℕ) (name : List ℕ) → field_by s name (record_at w (index_bytes_of w f) k) ≡ or_absent (field_of k name f)
  unfolding field_by field_of field_in or_refuse
  by_entry w h o k name = go refl refl (entry d k)
    where
      go : {x : Option IndexRecord} {y : Option (Placed DataBlock)} → get_elem? (index_of f) k ≡ x → get_elem? (blocks_of f) k ≡ y → Entry f.header.value s (prototypes_of f.records) x y
          → field_by s name (record_at w (index_bytes_of w f) k) ≡ or_absent (map field_answer (field_in name (prototypes_of f.records) (get_elem? (blocks_of f) k)))
      go e g neither = rw (record_missing w (index_of f) k (some_bytes w h) e, g) refl
      go e g (both b p i) =
          ap (field_by s name) (record_there w (index_of f) k e (entry_held w h b p i)) ∙ looked name b p i
          ∙ rw (g, i.lasting o) refl

pub looks_as_walk : {f : BsiiFile} {s r : List ℕ} → Read f s r → (w : ℕ) → length s ≤ 256 ^ w → once (prototypes_of f.records) ≡ true → (k : ℕ) (name : List ℕ)
    → index_field_call w s (index_bytes_of w f) k name ≡ or_absent (field_of k name f)
unfolding index_field_call
looks_as_walk {s = s} d w h o k name = rw (is_true (leb (length s) length_limit) (le→leb (length s) length_limit d.short)) (by_entry d w h o k name)

-- an index that fits is the one of the file
pub fits_file : (w words : ℕ) (s i : List ℕ) → check_index_call w words s i ≡ gives tt → {f : BsiiFile} {at : ℕ} {r : List ℕ} → parse words s ≡ ok f at r → i ≡ index_bytes_of w f
fits_file w words s i e q = let x = (checks_exactly w words s i).0 e in x.4 ∙ ap (index_bytes_of w) (ok_val (sym x.3 ∙ q))

pub answers_as_walk : AnswersAsWalk
unfolding field_call defines_once_call reading_call reading_of of_file
answers_as_walk w s h words i e o a g words' m k name = go ((checks_exactly w words s i).0 e)
  where
    once_is : (b : Bool) → ◌≡◌ {A = Reply ℕ} (gives (cond b 1 0)) (gives 1) → b ≡ true
    once_is true z = refl
    once_is false z = absurd (let y : ◌≡◌ {A = ℕ} 0 1 = gives_inj z in omega arith)

    div_room : {n : ℕ} → 3 * n ≤ words' → n ≤ words' / 3
    div_room {n} l = (le-div_iff_mul-le {k = 3} (omega arith)).1 (omega (arith, l))

    go : (f : BsiiFile) × (at : ℕ) × (r : List ℕ) × (parse words s ≡ ok f at r) × (i ≡ index_bytes_of w f) → index_field_call w s i k name ≡ field_call words' s k name
    go (f, at, r, q, z) =
        let d = was_read words s q in
        let c : a ≡ reading_of f at = sym (gives_inj (sym (ap (of_file (λ f at. gives (reading_of f at))) q) ∙ g)) in
        let t = once_is (once (prototypes_of f.records)) (sym (ap (of_file (λ f at. gives (cond (once (prototypes_of f.records)) 1 0))) q) ∙ o) in
        let room : distinct_ids (prototypes_of f.records) ≤ words' / 3 = div_room (subst (λ (y : Reading). 3 * y.prototypes ≤ words') c m) in
        ap (λ y. index_field_call w s y k name) z ∙ looks_as_walk d w h t k name ∙ sym (ap (of_file (λ f at. or_absent (field_of k name f))) (reads_again d words' room))

-- ---- at the calls' own width

own_held : (words : ℕ) (s : List ℕ) {f : BsiiFile} {at : ℕ} {r : List ℕ} → parse words s ≡ ok f at r → length s ≤ 256 ^ index_width
own_held words s e = let h : length_limit ≤ 256 ^ index_width = lit≤ tt in omega (arith, (was_read words s e).short, h)

pub at_own_width : AtOwnWidth
at_own_width = record {
  held = λ s words f at r e. numbers_held index_width s (own_held words s e) words f at r e;
  looks = λ s words i e. let x = (checks_exactly index_width words s i).0 e in answers_as_walk index_width s (own_held words s x.3) words i e;
}
