-- The whole file: its header in front of the records, and the reading call's answer.
use mathlib.Core.Path.{◌≡◌, refl, sym, ap, ap₂, ◌∙◌, subst}
use Prim.Native.Nat.{ℕ, suc, ◌+◌, ◌/◌, ◌≤◌, ◌<◌}
use native.Mathlib.Omega.{arith}
use mathlib.Core.List.{List, [], ◌∷◌}
use lib.ListN.{length, take, drop}
use lib.Seq.{length-take-le}
use lib.Dec.{T, leb, leb→le}
use Rattle.bsii_format.specs.Ascii.{ascii}
use Rattle.bsii_format.specs.Replies.{Fault, gives, invalid_header, input_long}
use Rattle.bsii_format.specs.Reader.{ok, fault, fault_at, after, ◌>>=◌, success, ◌<$>◌, Consumed, with, consumed, same, tag}
use Rattle.bsii_format.specs.File.{Record, prototype, block, record_bytes, Records, records_from, records_parser, header_parser, BsiiFile, bsii_file, bsii_parser, length_limit, parse, define_all, prototypes_of, distinct_ids}
use Rattle.bsii_format.specs.Calls.{placed, placed_records, cons_block, blocks_in, blocks_of, prototypes_in, of_file, Reading as ReadingOf, reading_of, reading_call}
use Rattle.bsii_format.proofs.Readers.{is_false, ok_at, after_ok, cond_ok, map_ok, consumed_took}
use Rattle.bsii_format.proofs.Parsers.{header_exact}
use Rattle.bsii_format.proofs.Positions.{moved, moved_on}
use Rattle.bsii_format.proofs.File.{parse_short, parse_ok}
use Rattle.bsii_derived.specs.Index.{index_of, agreeing}
use Rattle.bsii_prototype.proofs.Names.{number_front}
use Rattle.bsii_string.specs.Answers.{fault_is, refused_at}
use Rattle.bsii_string.specs.declared.answers.Refusal.{Refusal}
use Rattle.bsii_parse.specs.Walks.{block_count, records_at, Growing, totals_of, index_at, compared_as, Compares, walked, stopped, ComparesFile, compared, uncompared, read, unread, ReadTree, ReadFile}
use Rattle.bsii_tree.specs.Table.{Linked}
use Rattle.bsii_order.specs.Ordered.{Ordered}
use Rattle.bsii_parse.specs.Answers.{reading_is}
use Rattle.bsii_parse.specs.declared.walk.Totals.{Totals}
use Rattle.bsii_parse.specs.declared.walk.Compared.{Compared}
use Rattle.bsii_parse.specs.declared.reading.Reading.{Reading}
use Rattle.bsii_parse.proofs.Tables.{bare_all, kept_ordered}
use Rattle.std.specs.Prelude.{Ok, Err, Result as Outcome}

-- ---- in front of the records

pub long_refused : (words : ℕ) (s : List ℕ) → length_limit < length s → parse words s ≡ fault_at input_long 0
unfolding parse
long_refused words s h =
    let l : T (leb (length s) length_limit) → ⊥ = λ k. let z : length s ≤ length_limit = leb→le (length s) length_limit k in omega arith in
    rw (is_false (leb (length s) length_limit) l)

pub file_long : (s t i : List ℕ) (w : ℕ) → length_limit < length s → ComparesFile s t i w (Err (refused_at input_long 0)) t
file_long s t i w h = uncompared (long_refused (length t) s h) refl

header_empty : header_parser 0 [] ≡ fault_at invalid_header 0
unfolding header_parser ◌>>=◌ after tag same
header_empty = refl

module _ (s t : List ℕ) (short : length s ≤ length_limit) where
  pub header_refused : {f : Fault} → header_parser 0 s ≡ fault f → parse (length t) s ≡ fault f
  unfolding bsii_parser ◌>>=◌ after consumed
  header_refused e = parse_short (length t) s short ∙ rw e

  pub header_fault : (i : List ℕ) (w : ℕ) {f : Refusal} → header_parser 0 s ≡ fault (fault_is f) → ComparesFile s t i w (Err f) t
  header_fault i w e = uncompared (header_refused e) refl

  module _ {v : ℕ} (h : header_parser 0 s ≡ ok v 8 (drop 8 s)) where
    unfoldable pub header : Consumed ℕ
    header = with v (take 8 s)

    parse_is : parse (length t) s ≡ after (records_at v (length t / 3) [] 8 s) (λ l. success (bsii_file header l))
    unfolding bsii_parser ◌>>=◌ ◌<$>◌ after consumed records_parser header
    parse_is = parse_short (length t) s short ∙ rw h

    pub header_long : 8 ≤ length s
    header_long = (moved_on header_exact header_empty s 0 h).1

    pub records_refused : {f : Fault} → records_at v (length t / 3) [] 8 s ≡ fault f → parse (length t) s ≡ fault f
    unfolding after
    records_refused e = parse_is ∙ rw e

    pub records_read : (q : Records) {n : ℕ} → records_at v (length t / 3) [] 8 s ≡ ok q n (drop n s) → parse (length t) s ≡ ok (bsii_file header q) n (drop n s)
    unfolding after success
    records_read q e = parse_is ∙ rw e

    -- the walk from the first record on is the file
    pub file_walked : (i : List ℕ) (w : ℕ) {r : Outcome Compared Refusal} {t' : List ℕ} → Compares v s 8 t i w r t' → ComparesFile s t i w r t'
    unfolding bsii_file header placed_records index_of
    file_walked i w {t' = t'} (walked q {rows = rows} {n = n} e k l) =
        let start : 8 ≡ length (take 8 s) = sym (length-take-le 8 s header_long) in
        subst (λ x. ComparesFile s t i w (compared_as (totals_of v rows q.records n) (agreeing w x i)) t') (sym (ap (λ m. index_at m q.records) start))
        (compared (bsii_file header q) (records_read q e) (subst (λ m. Growing s t' rows (prototypes_in (placed (λ r. length (record_bytes r)) m q.records) [])) start k) l)
    file_walked i w (stopped e l) = uncompared (records_refused e) l

-- ---- the parts of a file that was read

-- the header has 8 bytes
header_size : (s : List ℕ) {v n : ℕ} {r : List ℕ} → header_parser 0 s ≡ ok v n r → n ≡ 8
unfolding header_parser ◌>>=◌ tag
header_size s e =
    let w = after_ok (tag (ascii "BSII") invalid_header 0 s) _ e in
    let c = cond_ok (same (take 4 s) (ascii "BSII")) _ _ w.3 in
    let i : w.1 ≡ 4 = sym (ok_at c.1) in
    (number_front 4 w.1 w.2 w.4).1.next ∙ ap (λ (k : ℕ). k + 4) i

pub record FileParts (words : ℕ) (s : List ℕ) (f : BsiiFile) (n : ℕ) : Type 0 where
  pub short : length s ≤ length_limit
  pub header : length f.header.raw ≡ 8
  pub inside : 8 ≤ length s
  pub reads : records_at f.header.value (words / 3) [] 8 s ≡ ok (record { records = f.records; end = f.end }) n (drop n s)

pub file_parts : (words : ℕ) (s : List ℕ) {f : BsiiFile} {n : ℕ} → parse words s ≡ ok f n (drop n s) → FileParts words s f n
unfolding bsii_parser ◌>>=◌ bsii_file records_parser
file_parts words s {f} {n} e =
    let k = parse_ok words s e in
    let w = after_ok (consumed header_parser 0 s) (λ h. bsii_file h <$> records_parser h.value (words / 3)) k.1 in
    let x = consumed_took header_exact 0 s w.0 w.1 w.2 w.3 in
    let h : header_parser 0 s ≡ ok w.0.value w.1 w.2 =
    ap (header_parser 0) x.front ∙ x.fit.reads 0 w.2 ∙ ap (λ (i : ℕ). ok w.0.value i w.2) (sym x.place) in
    let i : w.1 ≡ 8 = header_size s h in
    let y = moved header_exact s 0 h in
    let m = map_ok (bsii_file w.0) (records_parser w.0.value (words / 3)) w.1 w.2 w.4 in
    let r : w.2 ≡ drop 8 s = y.rest ∙ ap (λ (j : ℕ). drop j s) i in
    let z : length s ≡ length s = refl in
    subst (λ (f : BsiiFile). FileParts words s f n) m.1
    (record {
      short = k.0;
      header = omega (arith, x.place, i);
      inside = omega (arith, i, y.inside (omega arith));
      reads = ap₂ (λ (j : ℕ) (l : List ℕ). records_from w.0.value (words / 3) (length l) [] j l) (sym i) (sym r) ∙ m.2;
    })

-- ---- the answer

pub blocks_counted : (size : Record → ℕ) (at : ℕ) (l : List Record) → length (blocks_in (placed size at l)) ≡ block_count l
unfolding blocks_in placed cons_block block_count
blocks_counted size at [] = refl
blocks_counted size at (prototype p ∷ l) = blocks_counted size (at + size (prototype p)) l
blocks_counted size at (block b ∷ l) = ap suc (blocks_counted size (at + size (block b)) l)

-- what the reading call makes of the walk's totals
abbrev pub reported : Totals → Reading
reported t = record { prototypes = t.rows; blocks = t.blocks; next = t.next }

abbrev reported_of : Outcome Totals Refusal → Outcome Reading Refusal
reported_of (Ok t) = Ok (reported t)
reported_of (Err f) = Err f

answer_of : {s t : List ℕ} {r : Outcome Totals Refusal} {t' : List ℕ} → ReadTree s t r t' → reading_is (reported_of r) ≡ reading_call (length t) s
unfolding reading_call of_file reading_of blocks_of placed_records prototypes_of
answer_of (read f {rows = rows} {n = n} e k l) =
    let rows_are : rows ≡ distinct_ids (define_all f.records []) =
    k.holds.count ∙ ap distinct_ids (bare_all (λ r. length (record_bytes r)) (length f.header.raw) f.records []) in
    let blocksAre = blocks_counted (λ r. length (record_bytes r)) (length f.header.raw) f.records in
    rw e (ap₂ (λ (a b : ℕ). gives (made a b)) rows_are (sym blocksAre))
  where
    made : ℕ → ℕ → ReadingOf
    made a b = record { prototypes = a; blocks = b; next = n }
answer_of (unread e l) = rw e

module _ {s t t' : List ℕ} where
  pub read_answer : {a : Totals} → ReadTree s t (Ok a) t' → reading_is (Ok (reported a)) ≡ reading_call (length t) s
  read_answer r = answer_of r

  pub unread_answer : {f : Refusal} → ReadTree s t (Err f) t' → reading_is (Err f) ≡ reading_call (length t) s
  unread_answer r = answer_of r

-- the table keeps its length, so that it is cleared whole
pub read_size : {s t : List ℕ} {r : Outcome Totals Refusal} {t' : List ℕ} → ReadTree s t r t' → length t' ≡ length t
read_size (read f e k l) = l
read_size (unread e l) = l

-- ---- without an index

module _ {s t i : List ℕ} {w : ℕ} where
  read_of : {r : Outcome Compared Refusal} {t' : List ℕ} → ComparesFile s t i w r t' → {c : Compared} → r ≡ Ok c → ReadTree s t (Ok c.totals) t'
  read_of {t' = t'} (compared f {rows = rows} {n = n} e k l) {c} z =
      let x : record { totals = totals_of f.header.value rows f.records n; agreed = agreeing w (index_of f) i } ≡ c = cc in
      subst (λ (b : Compared). ReadTree s t (Ok b.totals) t') x (read f e k l)
  read_of (uncompared e l) z = cc

  unread_of : {r : Outcome Compared Refusal} {t' : List ℕ} → ComparesFile s t i w r t' → {f : Refusal} → r ≡ Err f → ReadTree s t (Err f) t'
  unread_of (compared f e k l) z = cc
  unread_of {t' = t'} (uncompared {f = x} e l) {f} z = let y : x ≡ f = cc in subst (λ g. ReadTree s t (Err g) t') y (unread e l)

  pub tree_read : {c : Compared} {t' : List ℕ} → ComparesFile s t i w (Ok c) t' → ReadTree s t (Ok c.totals) t'
  tree_read r = read_of r refl

  pub tree_unread : {f : Refusal} {t' : List ℕ} → ComparesFile s t i w (Err f) t' → ReadTree s t (Err f) t'
  tree_unread r = unread_of r refl

-- ---- in the order of the ids

module _ {s t : List ℕ} where
  linked_of : {r : Outcome Totals Refusal} {t' : List ℕ} {w : Totals} → r ≡ Ok w → ReadTree s t r t' → Linked s t' w.rows
  linked_of {t' = t'} {w = w} z (read f {rows = rows} e k l) = let q : rows ≡ w.rows = cc in subst (Linked s t') q k.holds.valid
  linked_of z (unread e l) = cc

  ordered_of : {r : Outcome Totals Refusal} {t' t'' : List ℕ} {w : Totals} → r ≡ Ok w → ReadTree s t r t' → Ordered s t' w.rows t'' → ReadFile s t (Ok w) t''
  ordered_of {t' = t'} {t'' = t''} {w = w} z (read f {rows = rows} e k l) o =
      let q : w.rows ≡ rows = cc in
      subst (λ r. ReadFile s t r t'') z (read f e (kept_ordered k (subst (λ n. Ordered s t' n t'') q o)) (o.size ∙ l))
  ordered_of z (unread e l) o = cc

  stopped_of : {r : Outcome Totals Refusal} {t' : List ℕ} {f : Refusal} → r ≡ Err f → ReadTree s t r t' → ReadFile s t (Err f) t'
  stopped_of z (read f e k l) = cc
  stopped_of {t' = t'} z (unread e l) = subst (λ r. ReadFile s t r t') z (unread e l)

  pub tree_linked : {w : Totals} {t' : List ℕ} → ReadTree s t (Ok w) t' → Linked s t' w.rows
  tree_linked r = linked_of refl r

  pub tree_ordered : {w : Totals} {t' t'' : List ℕ} → ReadTree s t (Ok w) t' → Ordered s t' w.rows t'' → ReadFile s t (Ok w) t''
  tree_ordered r o = ordered_of refl r o

  pub tree_stopped : {f : Refusal} {t' : List ℕ} → ReadTree s t (Err f) t' → ReadFile s t (Err f) t'
  tree_stopped r = stopped_of refl r
