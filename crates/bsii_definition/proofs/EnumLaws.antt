-- Enum lists that were accepted: the string of a number is that of its last pair.
use mathlib.Core.Path.{◌≡◌, refl, sym, ap, ap₂, ◌∙◌, subst}
use mathlib.Core.Logic.{⊎_elim}
use Prim.Native.Nat.{ℕ, zero, suc, ◌+◌, ◌-◌, ◌≤◌, ◌<◌}
use native.Mathlib.Omega.{arith}
use mathlib.Core.Bool.{Bool, true, false, cond}
use mathlib.Core.Option.{Option, none, some}
use mathlib.Core.List.{List, [], ◌∷◌}
use lib.Dec.{eqb}
use lib.ListN.{length, take, drop}
use Rattle.bsii_format.specs.Replies.{Fault as Reason}
use Rattle.bsii_format.specs.Reader.{Result, ok, fault, Reader, ◌>>=◌, success, repeat}
use Rattle.bsii_format.specs.Numbers.{little_endian, number}
use Rattle.bsii_format.specs.Strings.{str_parser}
use Rattle.bsii_format.specs.Prototypes.{EnumValue, enum_value_parser, enum_values_parser}
use Rattle.bsii_format.specs.Text.{first_some, enum_string}
use Rattle.bsii_format.proofs.Readers.{after_ok, fault≢ok, ok_val, ok_at, ok_rest}
use Rattle.bsii_format.proofs.Parsers.{enum_value_exact}
use Rattle.bsii_format.proofs.Lists.{lt_or_le}
use Rattle.bsii_format.proofs.Positions.{moved, bind_fault, bind_ok, number_at_law, number_short}
use Rattle.bsii_string.specs.Answers.{end_of, unchecked_str}
use Rattle.bsii_string.specs.declared.answers.Refusal.{Refusal}
use Rattle.bsii_string.specs.declared.answers.Text.{Text}
use Rattle.bsii_string.proofs.Ends.{next≢fault, next_same}
use Rattle.bsii_string.proofs.Texts.{str_past_next, unchecked_cut, unchecked_whole}
use Rattle.bsii_prototype.specs.Entries.{enum_values_with}
use Rattle.bsii_prototype.proofs.Unchecked.{checked_enum_value, checked_enum_values}
use Rattle.bsii_prototype.proofs.Names.{named}
use Rattle.bsii_prototype.specs.Strings.{checked, unchecked}
use Rattle.bsii_prototype.proofs.Entries.{next_is, list_none, list_short, list_more}
use Rattle.bsii_definition.specs.Enums.{string_is, StringInside, PairAt, LastPair, StringOf}
use Rattle.bsii_definition.specs.declared.enums.EnumPair.{EnumPair}
use Rattle.std.specs.Prelude.{Ok, Err, Some, None, Option as Answer}
use borrow.Author.Tests.{eq-eqb, ne_eqb}

-- ---- one pair

-- a pair by its parts
abbrev pub pair : ℕ → ℕ → ℕ → Answer EnumPair
pair k start next = Some (record { number = k; string = record { start = start; next = next } })

module _ (s : List ℕ) (at : ℕ) where
  module _ {k i : ℕ} (e : number 4 at (drop at s) ≡ ok k i (drop i s)) where
    pub no_string : {f : Refusal} → Err f ≡ end_of (unchecked_str i (drop i s)) → PairAt s at None
    unfolding enum_value_parser ◌>>=◌
    no_string g = record {
      is = λ p n t f.
          let q = after_ok (str_parser i (drop i s)) _ (sym (bind_ok (number 4) _ e) ∙ f) in
          next≢fault (sym (g ∙ str_past_next (drop i s) i q.3));
      inside = tt;
    }

    pub a_pair : {end : ℕ} → Ok end ≡ end_of (unchecked_str i (drop i s)) → PairAt s at (pair k (i + 4) end)
    unfolding enum_value_parser ◌>>=◌ success
    a_pair {end} g = record {
      is = λ p n t f.
          let q = after_ok (str_parser i (drop i s)) _ (sym (bind_ok (number 4) _ e) ∙ f) in
          let z : end ≡ q.1 = next_same (g ∙ str_past_next (drop i s) i q.3) in
          let w = named checked s i q.3 in
          let same = ok_val q.4 in
          (ap (λ (v : EnumValue). v.number) same, ap (λ (m : ℕ). take (m - (i + 4)) (drop (i + 4) s)) z ∙ sym w.place ∙ ap (λ (v : EnumValue). v.string) same, z ∙ ok_at q.4);
      inside =
          let q = next_is (unchecked_str i (drop i s)) g in
          let w = named unchecked s i q.2 in
          (omega (arith, w.end), w.inside);
    }

-- by the bytes that are left
module _ (s : List ℕ) (at : ℕ) where
  pub pair_short : length s < at + 8 → PairAt s at None
  unfolding enum_value_parser ◌>>=◌
  pair_short h = record { is = λ p n t f. ⊎_elim (none p n t f) (some_left p n t f) (lt_or_le (length s) (at + 4)); inside = tt }
    where
      none : (p : EnumValue) (n : ℕ) (t : List ℕ) → enum_value_parser at (drop at s) ≡ ok p n t → length s < at + 4 → ⊥
      none p n t f l = fault≢ok (sym (bind_fault (number 4) _ (number_short 4 s at (omega arith))) ∙ f)

      some_left : (p : EnumValue) (n : ℕ) (t : List ℕ) → enum_value_parser at (drop at s) ≡ ok p n t → at + 4 ≤ length s → ⊥
      some_left p n t f l =
          let q = after_ok (str_parser (at + 4) (drop (at + 4) s)) _ (sym (bind_ok (number 4) _ (number_at_law 4 s at (omega arith))) ∙ f) in
          let w = named checked s (at + 4) q.3 in
          omega (arith, w.end, w.inside)

  module _ (room : at + 8 ≤ length s) {k n : ℕ} (p : k ≡ little_endian (take 4 (drop at s))) (q : n ≡ little_endian (take 4 (drop (at + 4) s))) where
    numbered : number 4 at (drop at s) ≡ ok k (at + 4) (drop (at + 4) s)
    numbered = number_at_law 4 s at (omega arith) ∙ ap (λ (m : ℕ). ok m (at + 4) (drop (at + 4) s)) (sym p)

    sized : number 4 (at + 4) (drop (at + 4) s) ≡ ok n (at + 8) (drop (at + 8) s)
    sized =
        let z : at + 4 + 4 ≡ at + 8 = omega arith in
        number_at_law 4 s (at + 4) (omega arith) ∙ ap (λ (m : ℕ). ok m (at + 4 + 4) (drop (at + 4 + 4) s)) (sym q) ∙ ap (λ (i : ℕ). ok n i (drop i s)) z

    pub pair_cut : length s < at + 8 + n → PairAt s at None
    unfolding end_of
    pair_cut h = no_string s at numbered (sym (ap end_of (unchecked_cut s (at + 4) n (at + 8) sized (omega arith))))

    pub pair_whole : at + 8 + n ≤ length s → PairAt s at (pair k (at + 8) (at + 8 + n))
    unfolding end_of
    pair_whole h =
        let z : at + 4 + 4 ≡ at + 8 = omega arith in
        subst (λ (i : ℕ). PairAt s at (pair k i (at + 8 + n))) z (a_pair s at numbered (sym (ap end_of (unchecked_whole s (at + 4) n (at + 8) sized (omega arith)))))

-- ---- the walk along the list

first_assoc : {A : Type 0} (a b c : Option A) → first_some (first_some a b) c ≡ first_some a (first_some b c)
unfolding first_some
first_assoc none b c = refl
first_assoc (some a) b c = refl

first_none : {A : Type 0} (a : Option A) → first_some a none ≡ a
unfolding first_some
first_none none = refl
first_none (some a) = refl

first_cond : (s : List ℕ) (b : Bool) (found : Answer Text) (t : Text) (v : List ℕ) → take (t.next - t.start) (drop t.start s) ≡ v
    → string_is s (cond b (Some t) found) ≡ first_some (cond b (some v) none) (string_is s found)
unfolding first_some
first_cond s true found t v e = ap some e
first_cond s false found t v e = refl

inside_cond : (s : List ℕ) (b : Bool) (found : Answer Text) (t : Text) → (t.start ≤ t.next) × (t.next ≤ length s) → StringInside s found → StringInside s (cond b (Some t) found)
inside_cond s true found t h k = h
inside_cond s false found t h k = k

-- Of the pairs of the whole list, read from `start` on, those from `at` on are left, and the last pair of the number in front of them is found.
pub record Rest (s : List ℕ) (wanted at left : ℕ) (found : Answer Text) (l : List EnumValue) (n : ℕ) (t : List ℕ) : Type 0 where
  pub pairs : List EnumValue
  pub read : repeat left enum_value_parser at (drop at s) ≡ ok pairs n t
  pub same : first_some (enum_string wanted pairs) (string_is s found) ≡ enum_string wanted l

pub record Searching (s : List ℕ) (start count wanted : ℕ) (found : Answer Text) (at left : ℕ) : Type 0 where
  pub rest : (l : List EnumValue) (n : ℕ) (t : List ℕ) → repeat count enum_value_parser start (drop start s) ≡ ok l n t → Rest s wanted at left found l n t
  pub inside : StringInside s found

pub search_start : (s : List ℕ) (start count wanted : ℕ) → Searching s start count wanted None start count
search_start s start count wanted = record {
  rest = λ l n t e. record { pairs = l; read = e; same = first_none (enum_string wanted l) };
  inside = tt;
}

module _ (s : List ℕ) (start count wanted : ℕ) (found : Answer Text) (at left : ℕ) (k : Searching s start count wanted found at left) where
  pub search_done : left ≤ 0 → LastPair s start count wanted found
  unfolding repeat success enum_string first_some
  search_done h = record {
    is = λ l n t e.
        let x = k.rest l n t e in
        let none_left : x.pairs ≡ [] = sym (ok_val (ap (λ (m : ℕ). repeat m enum_value_parser at (drop at s)) (let z : 0 ≡ left = omega arith in z) ∙ x.read)) in
        ap (λ (q : List EnumValue). first_some (enum_string wanted q) (string_is s found)) (sym none_left) ∙ x.same;
    inside = k.inside;
  }

  -- the first of the pairs that are left, and the others
  turn : {l : List EnumValue} {n : ℕ} {t : List ℕ} → 0 < left → repeat left enum_value_parser at (drop at s) ≡ ok l n t
      → (p : EnumValue) × (i : ℕ) × (q : List EnumValue) × (enum_value_parser at (drop at s) ≡ ok p i (drop i s)) × (repeat (left - 1) enum_value_parser i (drop i s) ≡ ok q n t) × (l ≡ p ∷ q)
  unfolding repeat ◌>>=◌ success
  turn {l} {n} {t} h e = go left (omega arith) e
    where
      go : (m : ℕ) → 0 < m → repeat m enum_value_parser at (drop at s) ≡ ok l n t
          → (p : EnumValue) × (i : ℕ) × (q : List EnumValue) × (enum_value_parser at (drop at s) ≡ ok p i (drop i s)) × (repeat (m - 1) enum_value_parser i (drop i s) ≡ ok q n t) × (l ≡ p ∷ q)
      go zero h e = absurd (omega arith)
      go (suc m) h e =
          let q = after_ok (enum_value_parser at (drop at s)) _ e in
          let w = after_ok (repeat m enum_value_parser q.1 q.2) _ q.4 in
          let r = (moved enum_value_exact s at q.3).rest in
          let one : m ≡ suc m - 1 = omega arith in (
            q.0,
            q.1,
            w.0,
            q.3 ∙ ap (ok q.0 q.1) r,
            ap (λ (j : ℕ). repeat j enum_value_parser q.1 (drop q.1 s)) (sym one) ∙ ap (repeat m enum_value_parser q.1) (sym r) ∙ w.3 ∙ ap₂ (λ (j : ℕ) (v : List ℕ). ok w.0 j v) (ok_at w.4) (ok_rest w.4),
            sym (ok_val w.4),
          )

  pub search_broken : 0 < left → PairAt s at None → LastPair s start count wanted None
  search_broken h p = record {
    is = λ l n t e.
        let x = k.rest l n t e in
        let y = turn h x.read in
        absurd (p.is y.0 y.1 (drop y.1 s) y.3);
    inside = tt;
  }

  module _ (h : 0 < left) {r : EnumPair} (p : PairAt s at (Some r)) where
    -- the last pair of a number wins
    search_on : Searching s start count wanted (cond (eqb wanted r.number) (Some r.string) found) r.string.next (left - 1)
    unfolding enum_string
    search_on = record {
      rest = λ l n t e.
          let x = k.rest l n t e in
          let y = turn h x.read in
          let z = p.is y.0 y.1 (drop y.1 s) y.3 in
          record {
            pairs = y.2;
            read = ap (λ (j : ℕ). repeat (left - 1) enum_value_parser j (drop j s)) z.2 ∙ y.4;
            same =
                ap (λ (o : ℕ). first_some (enum_string wanted y.2) (string_is s (cond (eqb wanted o) (Some r.string) found))) z.0
                ∙ ap (first_some (enum_string wanted y.2)) (first_cond s (eqb wanted y.0.number) found r.string y.0.string z.1)
                ∙ sym (first_assoc (enum_string wanted y.2) (cond (eqb wanted y.0.number) (some y.0.string) none) (string_is s found))
                ∙ ap (λ (q : List EnumValue). first_some (enum_string wanted q) (string_is s found)) (sym y.5)
                ∙ x.same;
          };
      inside = inside_cond s (eqb wanted r.number) found r.string p.inside k.inside;
    }

    with_number : (b : Bool) → eqb wanted r.number ≡ b → Searching s start count wanted (cond b (Some r.string) found) r.string.next (left - 1)
    with_number b e = subst (λ (b : Bool). Searching s start count wanted (cond b (Some r.string) found) r.string.next (left - 1)) e search_on

    pub search_here : wanted ≡ r.number → Searching s start count wanted (Some r.string) r.string.next (left - 1)
    search_here e = with_number true (eq-eqb wanted r.number e)

    pub search_past : (wanted ≡ r.number → ⊥) → Searching s start count wanted found r.string.next (left - 1)
    search_past e = with_number false (ne_eqb wanted r.number e)

-- ---- the list behind a name

module _ (s : List ℕ) (at type_id wanted : ℕ) where
  -- the reader of lists, with its strings checked
  list_with : {q : Result (List EnumValue)} → enum_values_parser type_id at (drop at s) ≡ q → enum_values_with str_parser type_id at (drop at s) ≡ q
  list_with e = ap (λ (R : Reader (List EnumValue)). R at (drop at s)) (sym (checked_enum_values type_id)) ∙ e

  pub no_list : (type_id ≡ 0x37 → ⊥) → StringOf s at type_id wanted None
  unfolding enum_string
  no_list h = record {
    is = λ l n t e. ap (enum_string wanted) (ok_val (sym (list_none str_parser at (drop at s) type_id h) ∙ list_with e));
    inside = tt;
  }

  module _ (h : type_id ≡ 0x37) where
    pub no_count : {x : Reason} → number 4 at (drop at s) ≡ fault x → StringOf s at type_id wanted None
    no_count e = record { is = λ l n t f. fault≢ok (sym (list_short str_parser at (drop at s) type_id h e) ∙ list_with f); inside = tt }

    pub a_list : {count i : ℕ} {r : Answer Text} → number 4 at (drop at s) ≡ ok count i (drop i s) → LastPair s i count wanted r → StringOf s at type_id wanted r
    a_list {count} {i} e p = record {
      is = λ l n t f. p.is l n t (ap (λ (R : Reader EnumValue). repeat count R i (drop i s)) checked_enum_value ∙ sym (list_more str_parser at (drop at s) type_id h e) ∙ list_with f);
      inside = p.inside;
    }
