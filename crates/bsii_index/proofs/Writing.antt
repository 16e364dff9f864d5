-- An index while it is written: its records so far stand at the front of the space, and the rest of the space is as it was.
use mathlib.Core.Path.{◌≡◌, refl, sym, ap, ◌∙◌, subst}
use Prim.Native.Nat.{ℕ, suc, ◌+◌, ◌*◌, ◌/◌, ◌≤◌, ◌<◌}
use native.Mathlib.Nat.{zero-mul, suc-mul, mul-le-mul_right}
use native.Mathlib.Omega.{arith}
use mathlib.Core.Bool.{true}
use mathlib.Core.List.{List, [], ◌∷◌, ◌++◌, append-nil, append_assoc}
use lib.ListN.{length, take, drop, length-append, length-drop}
use lib.Seq.{take_at, drop-append-add, drop-drop}
use lib.Dec.{leb, leb→le, le→leb}
use Rattle.bsii_format.specs.Replies.{gives, output_short}
use Rattle.bsii_format.specs.Reader.{ok}
use Rattle.bsii_format.specs.File.{Records, BsiiFile, parse}
use Rattle.bsii_format.specs.Calls.{placed, placed_records, of_file, write_answer}
use Rattle.bsii_format.proofs.Readers.{fault≢ok, ok_val, is_true, is_false}
use Rattle.bsii_string.specs.Answers.{refused_at}
use Rattle.bsii_string.specs.declared.answers.Refusal.{Refusal}
use Rattle.bsii_derived.specs.Index.{index_from, index_of, index_record_bytes, index_bytes}
use Rattle.bsii_derived.specs.IndexCalls.{write_index_call}
use Rattle.bsii_derived.proofs.Bytes.{record_length, index_length_law}
use Rattle.bsii_derived.proofs.Walk.{index_append, bytes_append}
use Rattle.bsii_parse.specs.Walks.{records_at, index_at, StepMeets, Stepped, totals_of, read, unread, ReadTree}
use Rattle.bsii_parse.specs.declared.walk.Progress.{Progress}
use Rattle.bsii_parse.specs.declared.walk.Under.{Under}
use Rattle.bsii_parse.specs.declared.walk.ReadStep.{ReadStep}
use Rattle.bsii_parse.specs.declared.walk.ReadStep.TheVariants.{Prototype as WentPrototype, Block as WentBlock, End}
use Rattle.bsii_parse.specs.declared.walk.Totals.{Totals}
use Rattle.bsii_parse.proofs.Along.{defs_from, Along, along_start, along_none, along_prototype, along_block, along_all, along_refused, along_accepted, along_within}
use Rattle.bsii_parse.proofs.Passed.{entry_of, past_prototype, past_block}
use Rattle.bsii_parse.proofs.Whole.{file_parts}
use Rattle.bsii_index_record.specs.Records.{Width, record_is}
use Rattle.bsii_index_record.specs.declared.IndexRecord.{IndexRecord}
use Rattle.bsii_index.specs.Answers.{length_is}
use Rattle.bsii_index.specs.Indexes.{Writable, RecordsWritten, Readable, ReadWritten}
use Rattle.bsii_string.specs.declared.answers.Unwritten.{Unwritten}
use Rattle.std.specs.Prelude.{Ok, Err, Result as Outcome}
use Rattle.bsii_index.proofs.Counting.{blocks_indexed, blocks_limited}

-- ---- the walk

pub record Writing (version : ℕ) (s : List ℕ) (start : ℕ) (t₀ space₀ : List ℕ) (w : ℕ) (p : Progress) (t space : List ℕ) (to : ℕ) : Type 0 where
  pub along : Along version s start t₀ p t
  pub place : to ≡ length (index_at start along.so) * (4 * w)
  pub written : space ≡ index_bytes w (index_at start along.so) ++ drop to space₀
  pub size : length space ≡ length space₀

pub writing_start : {version : ℕ} (s : List ℕ) (start : ℕ) (t space : List ℕ) (w : ℕ) → start ≤ length s
    → Writing version s start t space w (record { at = start; rows = 0; blocks = 0; prototypes = 0 }) t space 0
unfolding index_bytes index_from placed
writing_start {version} s start t space w h =
    let e = along_none version s start t h in
    record {
      along = along_start s start t h;
      place = sym (zero-mul (4 * w)) ∙ ap (λ l. length (index_at start l) * (4 * w)) (sym e);
      written = ap (λ l. index_bytes w (index_at start l) ++ space) (sym e);
      size = refl;
    }

-- one record more, in the space behind those that stand there
put : (w : ℕ) (l b d : List ℕ) (to : ℕ) → length l ≡ to → length b ≡ 4 * w → take to (l ++ drop to d) ++ (b ++ drop (to + 4 * w) (l ++ drop to d)) ≡ (l ++ b) ++ drop (to + 4 * w) d
put w l b d to e k =
    let x : drop (to + 4 * w) (l ++ drop to d) ≡ drop (to + 4 * w) d =
    ap (λ n. drop (n + 4 * w) (l ++ drop to d)) (sym e) ∙ drop-append-add l (drop to d) (4 * w) ∙ drop-drop (4 * w) to d in
    ap (λ z. z ++ (b ++ drop (to + 4 * w) (l ++ drop to d))) (take_at l (drop to d) to e) ∙ ap (λ z. l ++ (b ++ z)) x ∙ sym (append_assoc l b (drop (to + 4 * w) d))

module _ {version : ℕ} {s : List ℕ} {start : ℕ} {t₀ space₀ : List ℕ} {w : ℕ} (v : Writable version s start t₀ space₀ w)
    {p : Progress} {t space : List ℕ} {to : ℕ} (c : Writing version s start t₀ space₀ w p t space to) where
  meets : {r : Outcome ReadStep Refusal} {t' : List ℕ} → Stepped version s p t true r t' → StepMeets version s p t (defs_from start c.along.so) r t'
  meets k = k.steps (defs_from start c.along.so) c.along.kept (along_accepted c.along v.reads)

  pub writing_refused : {P : Type 0} {f : Refusal} {t' : List ℕ} → Stepped version s p t true (Err f) t' → P
  writing_refused k = fault≢ok (sym (along_refused c.along (meets k)).0 ∙ v.reads)

  module _ {r : ReadStep} {t' : List ℕ} (k : Stepped version s p t true (Ok r) t') where
    pub writing_meets : StepMeets version s p t (defs_from start c.along.so) (Ok r) t'
    writing_meets = meets k

    pub writing_prototype : {q : Progress} → r ≡ WentPrototype q → Writing version s start t₀ space₀ w q t' space to
    writing_prototype z =
        let f = along_prototype c.along writing_meets z in
        let x = (past_prototype c.along f z).0 in
        record {
          along = f.along;
          place = c.place ∙ ap (λ l. length l * (4 * w)) (sym x);
          written = c.written ∙ ap (λ l. index_bytes w l ++ drop to space₀) (sym x);
          size = c.size;
        }

    -- the whole index has room, so this record has
    pub writing_room : {q : Progress} {u : Under} → r ≡ WentBlock q u → to + 4 * w ≤ length space₀
    writing_room z =
        let f = along_block c.along writing_meets z in
        let x = (past_block c.along f z).0 in
        let y = along_within f.along v.reads in
        let l = index_at start c.along.so in
        let more : length (index_at start v.records.records) ≡ length (index_at start f.along.so) + _ =
        ap (λ k. length (index_at start k)) y.1 ∙ ap length (index_append start f.along.so y.0 []) ∙ length-append (index_at start f.along.so) _ in
        let one : length (index_at start f.along.so) ≡ suc (length l) = ap length x ∙ rw length-append (omega arith) in
        let few : suc (length l) ≤ length (index_at start v.records.records) = omega (arith, more, one) in
        omega (arith, mul-le-mul_right (4 * w) few, v.room, suc-mul (length l) (4 * w), c.place)

    pub writing_block : {q : Progress} {u : Under} {e : IndexRecord} {space' : List ℕ} → r ≡ WentBlock q u → e ≡ entry_of p.at q.at u
        → space' ≡ take to space ++ (index_record_bytes w (record_is e) ++ drop (to + 4 * w) space) → Writing version s start t₀ space₀ w q t' space' (to + 4 * w)
    unfolding index_bytes
    writing_block {e = e} {space'} z y g =
        let f = along_block c.along writing_meets z in
        let l = index_at start c.along.so in
        let b = index_record_bytes w (record_is e) in
        let all : index_at start f.along.so ≡ l ++ (record_is e ∷ []) = (past_block c.along f z).0 ∙ ap (λ x. l ++ (record_is x ∷ [])) (sym y) in
        let bytes : index_bytes w (index_at start f.along.so) ≡ index_bytes w l ++ b =
        ap (index_bytes w) all ∙ bytes_append w l (record_is e ∷ []) ∙ ap (λ x. index_bytes w l ++ x) (append-nil b) in
        let long : length (index_bytes w l) ≡ to = index_length_law w l ∙ sym c.place in
        let is : space' ≡ (index_bytes w l ++ b) ++ drop (to + 4 * w) space₀ =
        g ∙ ap (λ x. take to x ++ (b ++ drop (to + 4 * w) x)) c.written ∙ put w (index_bytes w l) b space₀ to long (record_length w (record_is e)) in
        let n : length (index_at start f.along.so) ≡ suc (length l) = ap length all ∙ rw length-append (omega arith) in
        record {
          along = f.along;
          place = omega (arith, c.place, suc-mul (length l) (4 * w), ap (λ x. x * (4 * w)) n);
          written = is ∙ ap (λ x. x ++ drop (to + 4 * w) space₀) (sym bytes);
          size = ap length is ∙ rw (length-append, length-append, length-drop) (omega (arith, long, record_length w (record_is e), writing_room z));
        }

    pub writing_end : {n : ℕ} → r ≡ End n → RecordsWritten version s start t₀ space₀ w t' space
    writing_end z =
        let x = along_all c.along writing_meets z in
        record {
          written = λ q k e.
              let so : c.along.so ≡ q.records = ap (λ (y : Records). y.records) (ok_val (sym x.all ∙ e)) in
              c.written ∙ ap (λ n. index_bytes w (index_at start c.along.so) ++ drop n space₀) c.place
              ∙ ap (λ l. index_bytes w (index_at start l) ++ drop (length (index_at start l) * (4 * w)) space₀) so;
          size = x.size;
        }

-- ---- the answer for a file that was read

module _ {version : ℕ} {s t : List ℕ} {w blocks : ℕ} (d : Readable version s t w blocks) where
  -- what is written
  long : (q : Records) (n : ℕ) → records_at version (length t / 3) [] 8 s ≡ ok q n (drop n s) → length (index_bytes w (index_at 8 q.records)) ≡ blocks * (4 * w)
  long q n e =
      let l : d.records.records ≡ q.records = ap (λ (y : Records). y.records) (ok_val (sym d.reads ∙ e)) in
      index_length_law w (index_at 8 q.records) ∙ ap (λ k. k * (4 * w)) (ap (λ k. length (index_at 8 k)) (sym l) ∙ sym d.counted)

  pub readable_short : (space : List ℕ) → length space < blocks * (4 * w) → ReadWritten version s t space w (Err (record { refusal = refused_at output_short 0; needed = blocks * (4 * w) })) t space
  unfolding write_answer
  readable_short space h = record {
    answers = λ q n e.
        let k = long q n e in
        rw (is_false (leb (length (index_bytes w (index_at 8 q.records))) (length space)) (λ x. let y = leb→le _ (length space) x in omega (arith, k, y, h)), k) refl;
    size = refl;
  }

  pub readable_room : (space : List ℕ) → blocks * (4 * w) ≤ length space → Writable version s 8 t space w
  readable_room space h = record {
    short = d.short;
    inside = d.inside;
    width = d.width;
    records = d.records;
    n = d.n;
    reads = d.reads;
    room = omega (arith, h, ap (λ k. k * (4 * w)) d.counted);
  }

  pub readable_written : (space : List ℕ) → blocks * (4 * w) ≤ length space → {t' space' : List ℕ} → RecordsWritten version s 8 t space w t' space'
      → ReadWritten version s t space w (Ok (blocks * (4 * w))) t' space'
  unfolding write_answer
  readable_written space h {space' = space'} x = record {
    answers = λ q n e.
        let k = long q n e in
        let l : length (index_at 8 q.records) * (4 * w) ≡ blocks * (4 * w) = sym (index_length_law w (index_at 8 q.records)) ∙ k in
        let y : space' ≡ index_bytes w (index_at 8 q.records) ++ drop (blocks * (4 * w)) space =
        x.written q n e ∙ ap (λ m. index_bytes w (index_at 8 q.records) ++ drop m space) l in
        rw (is_true (leb (length (index_bytes w (index_at 8 q.records))) (length space)) (le→leb _ (length space) (omega (arith, k, h))), k, y) refl;
    size = x.size;
  }

-- ---- the whole file

index_at_law : (words : ℕ) (s : List ℕ) {f : BsiiFile} {n : ℕ} → parse words s ≡ ok f n (drop n s) → index_of f ≡ index_at 8 f.records
unfolding index_of placed_records
index_at_law words s {f} e = ap (λ m. index_at m f.records) (file_parts words s e).header

module _ {s t : List ℕ} where
  readable_of : {w : ℕ} → Width w → {r : Outcome Totals Refusal} {t' : List ℕ} → ReadTree s t r t' → {a : Totals} → r ≡ Ok a → Readable a.version s t' w a.blocks
  readable_of {w} h {t' = t'} (read f {rows = rows} {n = n} e k l) {a} z =
      let x = file_parts (length t) s e in
      let y : totals_of f.header.value rows f.records n ≡ a = cc in
      subst (λ (b : Totals). Readable b.version s t' w b.blocks) y
      (record {
        short = x.short;
        inside = x.inside;
        width = h;
        records = record { records = f.records; end = f.end };
        n = n;
        reads = ap (λ m. records_at f.header.value (m / 3) [] 8 s) l ∙ x.reads;
        counted = blocks_indexed (length t) s e ∙ ap length (index_at_law (length t) s e);
        few = blocks_limited (length t) s e;
      })
  readable_of h (unread e l) z = cc

  pub tree_readable : {w : ℕ} → Width w → {a : Totals} {t' : List ℕ} → ReadTree s t (Ok a) t' → Readable a.version s t' w a.blocks
  tree_readable h r = readable_of h r refl

  written_of : {r : Outcome Totals Refusal} {t' : List ℕ} → ReadTree s t r t' → {a : Totals} → r ≡ Ok a → {w : ℕ} {space t'' space' : List ℕ} {k : Outcome ℕ Unwritten}
      → ReadWritten a.version s t' space w k t'' space' → length_is k space' ≡ write_index_call w (length t) s space
  unfolding write_index_call of_file
  written_of {t' = t'} (read f {rows = rows} {n = n} e k l) {a} z {w} {space} y =
      let x = file_parts (length t) s e in
      let v : f.header.value ≡ a.version = cc in
      y.answers (record { records = f.records; end = f.end }) n (ap (λ m. records_at m (length t' / 3) [] 8 s) (sym v) ∙ ap (λ m. records_at f.header.value (m / 3) [] 8 s) l ∙ x.reads)
      ∙ ap (λ i. write_answer length space (gives (index_bytes w i))) (sym (index_at_law (length t) s e)) ∙ rw e refl
  written_of (unread e l) z y = cc

  pub tree_written : {a : Totals} {t' : List ℕ} → ReadTree s t (Ok a) t' → {w : ℕ} {space t'' space' : List ℕ} {k : Outcome ℕ Unwritten}
      → ReadWritten a.version s t' space w k t'' space' → length_is k space' ≡ write_index_call w (length t) s space
  tree_written r y = written_of r refl y

  refused_of : {r : Outcome Totals Refusal} {t' : List ℕ} → ReadTree s t r t' → {f : Refusal} → r ≡ Err f → (w : ℕ) (space : List ℕ)
      → length_is (Err (record { refusal = f; needed = 0 })) space ≡ write_index_call w (length t) s space
  unfolding write_index_call of_file write_answer
  refused_of (read f e k l) z w space = cc
  refused_of (unread {f = x} e l) {f} z w space = let y : f ≡ x = cc in rw e (ap (λ g. length_is (Err (record { refusal = g; needed = 0 })) space) y)

  pub tree_refused : {f : Refusal} {t' : List ℕ} → ReadTree s t (Err f) t' → (w : ℕ) (space : List ℕ)
      → length_is (Err (record { refusal = f; needed = 0 })) space ≡ write_index_call w (length t) s space
  tree_refused r = refused_of r refl
