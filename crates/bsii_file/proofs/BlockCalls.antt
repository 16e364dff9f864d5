-- A block by its number, and by its number under a prototype name.
use mathlib.Core.Path.{◌≡◌, refl, sym, ap, ◌∙◌, subst}
use Prim.Native.Nat.{ℕ, zero, suc, ◌+◌, ◌-◌, ◌≤◌}
use native.Mathlib.Omega.{arith}
use mathlib.Core.Bool.{Bool, true, false, cond}
use mathlib.Core.Option.{Option, none, some, map}
use mathlib.Core.List.{List, [], ◌∷◌}
use lib.ListN.{length, drop, get_elem?}
use lib.Dec.{leb, eqb}
use Rattle.bsii_format.specs.Replies.{gives, refuses, absent, bad_mark}
use Rattle.bsii_format.specs.Reader.{Result, ok, verify, success, ◌>>=◌}
use Rattle.bsii_format.specs.Numbers.{le_u8, le_u32}
use Rattle.bsii_format.specs.Strings.{str_parser}
use Rattle.bsii_format.specs.Prototypes.{Prototype}
use Rattle.bsii_format.specs.Blocks.{DataBlock, get_prototype}
use Rattle.bsii_format.specs.File.{Head, carrying, mark_parser, head_parser, BsiiFile, parse, prototypes_of}
use Rattle.bsii_format.specs.Calls.{Placed, BlockAnswer, block_answer, of_file, blocks_of, block_call, is_named, numbers_named, blocks_by_prototype_name, named_block_call, or_absent}
use Rattle.bsii_format.specs.BlockText.{or_refuse}
use Rattle.bsii_format.proofs.Readers.{after_ok, ok_val}
use Rattle.bsii_format.proofs.Positions.{moved}
use Rattle.bsii_string.specs.Answers.{fault_is, refused_at, end_of}
use Rattle.bsii_string.specs.NumbersAt.{number_at}
use Rattle.bsii_string.specs.declared.answers.Refusal.{Refusal}
use Rattle.bsii_string.proofs.Ends.{next≢fault, next_same}
use Rattle.bsii_string.proofs.NumbersAt.{number_is_law}
use Rattle.bsii_prototype.proofs.Entries.{next_is}
use Rattle.bsii_skip.specs.Unchecked.{unchecked_id}
use Rattle.bsii_skip.specs.Exact.{unchecked_id_exact}
use Rattle.bsii_skip.proofs.Values.{id_same}
use Rattle.bsii_parse.specs.Walks.{ReadFile}
use Rattle.bsii_parse.specs.declared.walk.Totals.{Totals}
use Rattle.bsii_walk.specs.Seek.{Numbered, pass_over, seek_in, BlockIs, Sought, sought, missed, Seeks}
use Rattle.bsii_walk.specs.declared.records.Block.{Block}
use Rattle.bsii_walk.specs.declared.seek.Found.{Found}
use Rattle.bsii_file.specs.Answers.{block_is, number_is}
use Rattle.bsii_file.specs.Lookups.{BlockAnswered, SoughtIn, there, nowhere, unread}
use Rattle.bsii_file.specs.declared.blocks.BlockHead.{BlockHead}
use Rattle.bsii_file.proofs.Lookups.{WasRead, was_refused}
use Rattle.std.specs.Prelude.{Ok, Err, Result as Outcome, Some, None, Option as Answer}
use Rattle.bsii_file.proofs.Rereading.{walk_first, blocks_are}

-- ---- the search is the definitions' own

pub seek_any : (last : List Prototype) (j k : ℕ) (l : List (Placed DataBlock)) → map (λ (x : Numbered). x.of) (seek_in last None j k l) ≡ get_elem? l k
unfolding seek_in pass_over
seek_any last j k [] = refl
seek_any last j zero (b ∷ l) = refl
seek_any last j (suc k) (b ∷ l) = seek_any last (suc j) k l

pub seek_named : (last : List Prototype) (name : List ℕ) (j k : ℕ) (l : List (Placed DataBlock))
    → map (λ (x : Numbered). x.number) (seek_in last (Some name) j k l) ≡ get_elem? (numbers_named last name j l) k
unfolding seek_in pass_over numbers_named
seek_named last name j k [] = refl
seek_named last name j k (b ∷ l) = go (is_named name (get_prototype b.it.prototype_id last)) k (λ m. seek_named last name (suc j) m l)
  where
    go : (w : Bool) (k : ℕ) → ((m : ℕ) → map (λ (x : Numbered). x.number) (seek_in last (Some name) (suc j) m l) ≡ get_elem? (numbers_named last name (suc j) l) m)
        → map (λ (x : Numbered). x.number)
        (cond w (pass_over k (some (record { number = j; of = b })) (λ m. seek_in last (Some name) (suc j) m l)) (seek_in last (Some name) (suc j) k l))
        ≡ get_elem? (cond w (j ∷ numbers_named last name (suc j) l) (numbers_named last name (suc j) l)) k
    go true zero h = refl
    go true (suc k) h = h k
    go false k h = h k

-- ---- what it found

module _ {s t : List ℕ} {a : Totals} {t' : List ℕ} (w : WasRead s t a t') {wanted : Answer (List ℕ)} {k : ℕ} where
  here : {r : Answer Found} → Seeks a.version s 8 t' a.rows wanted k r
      → Sought a.version s (prototypes_of w.file.records) (seek_in (prototypes_of w.file.records) wanted 0 k (blocks_of w.file)) r
  here {r} h = subst (λ l. Sought a.version s (prototypes_of w.file.records) (seek_in (prototypes_of w.file.records) wanted 0 k l) r) (blocks_are w) (h.seeks _ _ _ (walk_first w))

  there_of : {r : Answer Found} → Sought a.version s (prototypes_of w.file.records) (seek_in (prototypes_of w.file.records) wanted 0 k (blocks_of w.file)) r
      → {b : Found} → r ≡ Some b → SoughtIn (length t) s wanted k (Ok (a.version, b))
  there_of (sought {f = g} x i e) {b} z =
      let y : g ≡ b = cc in
      subst (λ (b : Found). SoughtIn (length t) s wanted k (Ok (a.version, b))) y (there w.file x w.parsed i e)
  there_of (missed e) z = cc

  nowhere_of : {r : Answer Found} → Sought a.version s (prototypes_of w.file.records) (seek_in (prototypes_of w.file.records) wanted 0 k (blocks_of w.file)) r
      → r ≡ None → SoughtIn (length t) s wanted k (Err (refused_at absent 0))
  nowhere_of (sought x i e) z = cc
  nowhere_of (missed e) z = nowhere w.file w.parsed e

  pub sought_there : {b : Found} → Seeks a.version s 8 t' a.rows wanted k (Some b) → SoughtIn (length t) s wanted k (Ok (a.version, b))
  sought_there h = there_of (here h) refl

  pub sought_nowhere : Seeks a.version s 8 t' a.rows wanted k None → SoughtIn (length t) s wanted k (Err (refused_at absent 0))
  sought_nowhere h = nowhere_of (here h) refl

pub sought_unread : {s t t' : List ℕ} {wanted : Answer (List ℕ)} {k : ℕ} {f : Refusal} → ReadFile s t (Err f) t' → SoughtIn (length t) s wanted k (Err f)
sought_unread h = unread (was_refused h)

-- ---- the parts of a block that was found

-- also where nobody knows that an id stands there
pub id_later : (s : List ℕ) (next : ℕ) {m : ℕ} → Ok m ≡ end_of (unchecked_id next (drop next s)) → next ≤ m
id_later s next e = let r = next_is (unchecked_id next (drop next s)) e in (moved unchecked_id_exact s next r.2).later

-- a block's record number is its prototype id
head_number : (s : List ℕ) (at : ℕ) {k n : ℕ} {r : List ℕ} → head_parser at (drop at s) ≡ ok (carrying k) n r → number_at 4 s at ≡ k
unfolding head_parser mark_parser ◌>>=◌ success
head_number s at {k} {n} {r} e = let q = after_ok (le_u32 at (drop at s)) _ e in number_is_law 4 s at q.3 ∙ go (eqb q.0 0) q.0 q.1 q.2 q.4
  where
    other : {P : Type 0} {h : Head} {i : ℕ} {t : List ℕ} → (h ≡ carrying k → P) → ◌≡◌ {A = Result Head} (ok h i t) (ok (carrying k) n r) → P
    other f h = f (ok_val h)

    marked : {P : Type 0} (m i : ℕ) (t : List ℕ) → mark_parser m i t ≡ ok (carrying k) n r → P
    marked zero i t h = other (λ z. let y : ◌≡◌ {A = ℕ} 0 1 = cc in absurd (omega arith)) h
    marked (suc m) i t h =
        let p = after_ok (le_u32 i t) _ h in
        let o = after_ok (str_parser p.1 p.2) _ p.4 in
        other (λ z. let y : ◌≡◌ {A = ℕ} 0 1 = cc in absurd (omega arith)) o.4

    go : (b : Bool) (v i : ℕ) (t : List ℕ) → cond b (verify (λ m. leb m 1) bad_mark le_u8 >>= mark_parser) (success (carrying v)) i t ≡ ok (carrying k) n r → v ≡ k
    go true v i t h = let p = after_ok (verify (λ m. leb m 1) bad_mark le_u8 i t) mark_parser h in marked p.0 p.1 p.2 p.4
    go false v i t h = let z = ok_val h in cc

module _ {s : List ℕ} {b : Block} where
  id_ends : {q : Outcome ℕ Refusal} → q ≡ end_of (unchecked_id b.id (drop b.id s)) → {version : ℕ} (last : List Prototype) (x : Placed DataBlock) → BlockIs version s last b x
      → q ≡ Ok (b.id + length x.it.id.raw)
  id_ends e last x i = e ∙ id_same b.id (drop b.id s) i.id

  pub answered_fault : {f : Refusal} → Err f ≡ end_of (unchecked_id b.id (drop b.id s)) → (v : Outcome BlockHead Refusal) → BlockAnswered s b v
  answered_fault e v = record { answers = λ version last x i. next≢fault (sym (id_ends e last x i)) }

  pub answered : {m : ℕ} → Ok m ≡ end_of (unchecked_id b.id (drop b.id s)) → {k : ℕ} → k ≡ number_at 4 s b.at
      → BlockAnswered s b (Ok (record { prototype_id = k; id = b.id; id_size = m - b.id }))
  unfolding block_answer
  answered {m} e {k} z = record {
    answers = λ version last x i.
        let j : m ≡ b.id + length x.it.id.raw = next_same (id_ends e last x i) in
        let l : m - b.id ≡ length x.it.id.raw = omega (arith, j) in
        ap gives (made (z ∙ head_number s b.at i.head) i.id_place l);
  }
    where
      made : {a a' c c' d d' : ℕ} → a ≡ a' → c ≡ c' → d ≡ d'
          → ◌≡◌ {A = BlockAnswer} (record { prototype_id = a; id = record { offset = c; size = d } }) (record { prototype_id = a'; id = record { offset = c'; size = d' } })
      made i j k = cc

-- ---- the calls, by what was sought

pub record IsThere (words : ℕ) (s : List ℕ) (wanted : Answer (List ℕ)) (k version : ℕ) (b : Found) : Type 0 where
  pub file : BsiiFile
  pub next : ℕ
  pub behind : List ℕ
  pub parsed : parse words s ≡ ok file next behind
  pub block : Placed DataBlock
  pub parts : BlockIs version s (prototypes_of file.records) b.block block
  pub found : seek_in (prototypes_of file.records) wanted 0 k (blocks_of file) ≡ some (record { number = b.number; of = block })

module _ {words : ℕ} {s : List ℕ} {wanted : Answer (List ℕ)} {k : ℕ} where
  is_there_of : {r : Outcome (ℕ × Found) Refusal} → SoughtIn words s wanted k r → {p : ℕ × Found} → r ≡ Ok p → IsThere words s wanted k p.0 p.1
  is_there_of (there f {n} {u} {version} {b} x e i z) {p} y =
      let q : ◌≡◌ {A = ℕ × Found} (version, b) p = cc in
      subst (λ (p : ℕ × Found). IsThere words s wanted k p.0 p.1) q (record { file = f; next = n; behind = u; parsed = e; block = x; parts = i; found = z })
  is_there_of (nowhere f e z) y = cc
  is_there_of (unread e) y = cc

  pub is_there : {p : ℕ × Found} → SoughtIn words s wanted k (Ok p) → IsThere words s wanted k p.0 p.1
  is_there h = is_there_of h refl

  -- a call's answer is its own function of the file
  module _ {A : Type 0} (answer : BsiiFile → Option A) where
    pub there_answers : {version : ℕ} {b : Found} (h : IsThere words s wanted k version b) → or_absent (answer h.file) ≡ of_file (λ f at. or_absent (answer f)) (parse words s)
    unfolding of_file
    there_answers h = sym (ap (of_file (λ f at. or_absent (answer f))) h.parsed)

    -- which has none where there is no such block
    module _ (none_there : (f : BsiiFile) → seek_in (prototypes_of f.records) wanted 0 k (blocks_of f) ≡ none → answer f ≡ none) where
      sought_refused_of : {r : Outcome (ℕ × Found) Refusal} → SoughtIn words s wanted k r → {x : Refusal} → r ≡ Err x
          → refuses (fault_is x) ≡ of_file (λ f at. or_absent (answer f)) (parse words s)
      unfolding of_file or_refuse
      sought_refused_of (there f x e i z) y = cc
      sought_refused_of (nowhere f e z) {x} y =
          let q : refused_at absent 0 ≡ x = cc in
          sym (ap (of_file (λ f at. or_absent (answer f))) e ∙ ap or_absent (none_there f z) ∙ ap (λ (x : Refusal). refuses (fault_is x)) q)
      sought_refused_of (unread {f = g} e) {x} y =
          let q : g ≡ x = cc in
          sym (ap (of_file (λ f at. or_absent (answer f))) e ∙ ap (λ (x : Refusal). refuses (fault_is x)) q)

      pub sought_refused : {x : Refusal} → SoughtIn words s wanted k (Err x) → refuses (fault_is x) ≡ of_file (λ f at. or_absent (answer f)) (parse words s)
      sought_refused h = sought_refused_of h refl

-- ---- a block by its number

-- the search for any is the k-th of the blocks
pub any_is : (f : BsiiFile) (k : ℕ) {o : Option Numbered} → seek_in (prototypes_of f.records) None 0 k (blocks_of f) ≡ o → map (λ (y : Numbered). y.of) o ≡ get_elem? (blocks_of f) k
any_is f k e = ap (map (λ (y : Numbered). y.of)) (sym e) ∙ seek_any (prototypes_of f.records) 0 k (blocks_of f)

module _ {words : ℕ} {s : List ℕ} {k : ℕ} where
  pub block_refused : {x : Refusal} → SoughtIn words s None k (Err x) → block_is (Err x) ≡ block_call words s k
  unfolding block_call
  block_refused h = sought_refused (λ f. map block_answer (get_elem? (blocks_of f) k)) (λ f z. ap (map block_answer) (sym (any_is f k z))) h

  pub block_answers : {p : ℕ × Found} → SoughtIn words s None k (Ok p) → {v : Outcome BlockHead Refusal} → BlockAnswered s p.1.block v → block_is v ≡ block_call words s k
  unfolding block_call or_refuse
  block_answers h v =
      let x = is_there h in
      v.answers _ _ x.block x.parts ∙ ap (λ o. or_absent (map block_answer o)) (any_is x.file k x.found)
      ∙ there_answers (λ f. map block_answer (get_elem? (blocks_of f) k)) x

-- ---- and by its number among those under a name

named_is : (f : BsiiFile) (name : List ℕ) (k : ℕ) {o : Option Numbered} → seek_in (prototypes_of f.records) (Some name) 0 k (blocks_of f) ≡ o
    → map (λ (y : Numbered). y.number) o ≡ get_elem? (blocks_by_prototype_name name f) k
unfolding blocks_by_prototype_name
named_is f name k e = ap (map (λ (y : Numbered). y.number)) (sym e) ∙ seek_named (prototypes_of f.records) name 0 k (blocks_of f)

module _ {words : ℕ} {s name : List ℕ} {k : ℕ} where
  pub number_refused : {x : Refusal} → SoughtIn words s (Some name) k (Err x) → number_is (Err x) ≡ named_block_call words s name k
  unfolding named_block_call
  number_refused h = sought_refused (λ f. get_elem? (blocks_by_prototype_name name f) k) (λ f z. sym (named_is f name k z)) h

  pub number_answers : {p : ℕ × Found} → SoughtIn words s (Some name) k (Ok p) → number_is (Ok p.1.number) ≡ named_block_call words s name k
  unfolding named_block_call or_refuse
  number_answers h =
      let x = is_there h in
      ap or_absent (named_is x.file name k x.found) ∙ there_answers (λ f. get_elem? (blocks_by_prototype_name name f) k) x
