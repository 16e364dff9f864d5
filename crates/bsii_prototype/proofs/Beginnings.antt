-- The header of a file and the heads of records, part by part.
use mathlib.Core.Path.{◌≡◌, refl, sym, ap, ap₂, ◌∙◌}
use Prim.Native.Nat.{ℕ, zero, suc, ◌≤◌, ◌<◌}
use native.Mathlib.Omega.{arith}
use mathlib.Core.Bool.{Bool, true, false, cond, not, ◌&&◌}
use mathlib.Core.List.{List, [], ◌∷◌}
use lib.ListN.{take, drop}
use lib.Dec.{leb, eqb}
use lib.Pointwise.{pointwise}
use mathlib.Core.Logic.{⊎_elim}
use borrow.Author.Tests.{eqb-true, eqb-false, eq-eqb, ne_eqb, le-leb, lt-leb}
use Rattle.bsii_format.proofs.Lists.{bool_cases}
use Rattle.bsii_format.specs.Ascii.{ascii}
use Rattle.bsii_format.specs.Replies.{Fault, invalid_header, bad_mark}
use Rattle.bsii_format.specs.Reader.{Result, ok, fault, fault_at, after, ◌>>=◌, success, bytes, verify, same, tag}
use Rattle.bsii_format.specs.Numbers.{number, le_u8}
use Rattle.bsii_format.specs.Strings.{str_parser}
use Rattle.bsii_format.specs.File.{Head, ending, defining, carrying, mark_parser, head_parser, header_parser}
use Rattle.bsii_format.proofs.Readers.{bytes_exact, after_ok, cond_ok, ok_at, ok_rest}
use Rattle.bsii_format.proofs.Positions.{bind_ok, bind_fault, verify_ok, verify_not, verify_fault}
use Rattle.bsii_format.proofs.Follows.{again}
use Rattle.bsii_string.specs.Answers.{unchecked_str, end_of}
use Rattle.bsii_string.specs.declared.answers.Refusal.{Refusal}
use Rattle.bsii_string.proofs.Ends.{next_ok, fault_at_law}
use Rattle.bsii_string.proofs.Unchecked.{str_follows}
use Rattle.bsii_prototype.specs.Entries.{marked_parser, unchecked_head}
use Rattle.bsii_prototype.proofs.Names.{Front, bytes_front, number_front, bytes_join}
use Rattle.std.specs.Prelude.{Ok, Err}

-- ---- equal bytes

pub is_not : (b c : Bool) → not b ≡ c → b ≡ not c
is_not true c e = ap not e
is_not false c e = ap not e

flip : (x y : ℕ) → eqb x y ≡ eqb y x
flip x y =
    ⊎_elim (λ t. t ∙ sym (eq-eqb y x (sym (eqb-true x y t)))) (λ f. f ∙ sym (ne_eqb y x (λ e. eqb-false x y f (sym e)))) (bool_cases (eqb x y))

-- the library's comparison, element by element, is the format's
pub same_pointwise : (c s : List ℕ) → pointwise eqb c s ≡ same s c
unfolding same
same_pointwise [] [] = refl
same_pointwise [] (y ∷ s) = refl
same_pointwise (x ∷ c) [] = refl
same_pointwise (x ∷ c) (y ∷ s) = ap₂ (λ (a b : Bool). a && b) (flip x y) (same_pointwise c s)

-- ---- the header

pub header_not : (s : List ℕ) → same (take 4 s) (ascii "BSII") ≡ false → header_parser 0 s ≡ fault_at invalid_header 0
unfolding header_parser ◌>>=◌ after tag
header_not s h = rw h

module _ (s : List ℕ) (h : same (take 4 s) (ascii "BSII") ≡ true) where
  pub header_rest : header_parser 0 s ≡ number 4 4 (drop 4 s)
  unfolding header_parser ◌>>=◌ after tag
  header_rest = rw h

  pub header_version : {v n : ℕ} → number 4 4 (drop 4 s) ≡ ok v n (drop n s) → header_parser 0 s ≡ ok v 8 (drop 8 s)
  header_version {v} {n} e =
      let p : n ≡ 8 = omega (arith, (number_front 4 4 (drop 4 s) e).1.next) in
      header_rest ∙ e ∙ ap (λ (i : ℕ). ok v i (drop i s)) p

-- ---- heads

module _ (at : ℕ) (s : List ℕ) where
  pub defining_short : {x : Fault} → number 4 at s ≡ fault x → mark_parser 1 at s ≡ fault x
  unfolding mark_parser
  defining_short e = bind_fault (number 4) _ e

  module _ {k n : ℕ} {r : List ℕ} (e : number 4 at s ≡ ok k n r) where
    pub defining_cut : {x : Fault} → str_parser n r ≡ fault x → mark_parser 1 at s ≡ fault x
    unfolding mark_parser
    defining_cut h = bind_ok (number 4) _ e ∙ bind_fault str_parser _ h

    pub defining_whole : {v : List ℕ} {m : ℕ} {q : List ℕ} → str_parser n r ≡ ok v m q → mark_parser 1 at s ≡ ok (defining k v) m q
    unfolding mark_parser success
    defining_whole h = bind_ok (number 4) _ e ∙ bind_ok str_parser _ h

  pub marked_short : {x : Fault} → number 1 at s ≡ fault x → marked_parser at s ≡ fault x
  unfolding marked_parser
  marked_short e = bind_fault (verify (λ m. leb m 1) bad_mark le_u8) mark_parser (verify_fault (λ m. leb m 1) bad_mark le_u8 e)

  module _ {m n : ℕ} {r : List ℕ} (e : number 1 at s ≡ ok m n r) where
    pub marked : m ≤ 1 → marked_parser at s ≡ mark_parser m n r
    unfolding marked_parser
    marked h = bind_ok (verify (λ m. leb m 1) bad_mark le_u8) mark_parser (verify_ok (λ m. leb m 1) bad_mark le_u8 e (le-leb m 1 h))

    pub marked_bad : 1 < m → marked_parser at s ≡ fault_at bad_mark at
    unfolding marked_parser
    marked_bad h = bind_fault (verify (λ m. leb m 1) bad_mark le_u8) mark_parser (verify_not (λ m. leb m 1) bad_mark le_u8 e (lt-leb m 1 h))

  pub head_short : {x : Fault} → number 4 at s ≡ fault x → head_parser at s ≡ fault x
  unfolding head_parser
  head_short e = bind_fault (number 4) _ e

  module _ {k n : ℕ} {r : List ℕ} (e : number 4 at s ≡ ok k n r) where
    head_rest : head_parser at s ≡ cond (eqb k 0) marked_parser (success (carrying k)) n r
    unfolding head_parser marked_parser
    head_rest = bind_ok (number 4) (λ k. cond (eqb k 0) marked_parser (success (carrying k))) e

    pub head_marked : k ≡ 0 → head_parser at s ≡ marked_parser n r
    head_marked h = head_rest ∙ ap (λ (b : Bool). cond b marked_parser (success (carrying k)) n r) (eq-eqb k 0 h)

    pub head_block : (k ≡ 0 → ⊥) → head_parser at s ≡ ok (carrying k) n r
    unfolding success
    head_block h = head_rest ∙ ap (λ (b : Bool). cond b marked_parser (success (carrying k)) n r) (ne_eqb k 0 h)

-- ---- a prototype's head that was accepted is read the same without the check

carrying≢ : {P : Type 0} {k : ℕ} {n i j : ℕ} {v r q : List ℕ} → ◌≡◌ {A = Result Head} (ok (carrying k) i r) (ok (defining n v) j q) → P
carrying≢ e = let z : ◌≡◌ {A = ℕ} 0 1 = cc in let f : ⊥ = omega arith in absurd f

ending≢ : {P : Type 0} {n i j : ℕ} {v r q : List ℕ} → ◌≡◌ {A = Result Head} (ok ending i r) (ok (defining n v) j q) → P
ending≢ e = let z : ◌≡◌ {A = ℕ} 0 1 = cc in let f : ⊥ = omega arith in absurd f

module _ (at : ℕ) (s : List ℕ) {id : ℕ} {name : List ℕ} {next : ℕ} {rest : List ℕ} where
  past_mark : {c d : List ℕ} {i j : ℕ} {t u : List ℕ} → Front 4 at s c i t → Front 1 i t d j u → (m : ℕ) → mark_parser m j u ≡ ok (defining id name) next rest
      → unchecked_head at s ≡ ok name next rest
  unfolding mark_parser success ◌>>=◌ unchecked_head
  past_mark f g zero e = ending≢ e
  past_mark {j = j} {u = u} f g (suc m) e =
      let p = after_ok (number 4 j u) _ e in
      let q = after_ok (str_parser p.1 p.2) _ p.4 in
      let five = bytes_front 5 at s (bytes_join 4 1 at s f g) in
      let nine = bytes_join 5 4 at s five (number_front 4 j u p.3).1 in
      let v : q.0 ≡ name = cc in
      bind_ok (bytes 9) (λ h. unchecked_str) nine ∙ again str_follows p.1 p.2 q.3 ∙ ap₂ (λ (i : ℕ) (l : List ℕ). ok q.0 i l) (ok_at q.4) (ok_rest q.4) ∙ ap (λ (l : List ℕ). ok l next rest) v

  past_zero : {k i : ℕ} {t : List ℕ} → number 4 at s ≡ ok k i t → (b : Bool) → cond b marked_parser (success (carrying k)) i t ≡ ok (defining id name) next rest
      → unchecked_head at s ≡ ok name next rest
  unfolding success marked_parser ◌>>=◌ verify
  past_zero e false h = carrying≢ h
  past_zero {i = i} {t = t} e true h =
      let p = after_ok (verify (λ m. leb m 1) bad_mark le_u8 i t) mark_parser h in
      let q = after_ok (number 1 i t) _ p.3 in
      let w = cond_ok (leb q.0 1) (ok q.0 q.1 q.2) _ q.4 in
      past_mark (number_front 4 at s e).1 (number_front 1 i t (q.3 ∙ w.1)).1 p.0 p.4

  pub head_past : head_parser at s ≡ ok (defining id name) next rest → unchecked_head at s ≡ ok name next rest
  unfolding head_parser ◌>>=◌ marked_parser
  head_past e = let q = after_ok (number 4 at s) (λ k. cond (eqb k 0) marked_parser (success (carrying k))) e in past_zero q.3 (eqb q.0 0) q.4

-- where a prototype's head was accepted, `fields_at` answers the place behind it
pub head_next : (at : ℕ) (s : List ℕ) {id : ℕ} {name : List ℕ} {next : ℕ} {rest : List ℕ} → head_parser at s ≡ ok (defining id name) next rest → end_of (unchecked_head at s) ≡ Ok next
unfolding end_of
head_next at s e = ap end_of (head_past at s e)

-- ---- the second walk

module _ (s : List ℕ) (at : ℕ) where
  pub past_short : {f : Refusal} → Err f ≡ end_of (bytes 9 at (drop at s)) → Err f ≡ end_of (unchecked_head at (drop at s))
  unfolding unchecked_head end_of
  past_short e = sym (ap end_of (bind_fault (bytes 9) (λ h. unchecked_str) (fault_at_law (bytes 9 at (drop at s)) e)))

  pub past_string : {next : ℕ} → Ok next ≡ end_of (bytes 9 at (drop at s)) → unchecked_head at (drop at s) ≡ unchecked_str next (drop next s)
  unfolding unchecked_head
  past_string e = let r = next_ok (bytes_exact 9) s at e in bind_ok (bytes 9) (λ h. unchecked_str) r.1
