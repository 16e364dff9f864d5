-- An entry of a list of definitions, part by part, for any reader of strings.
use mathlib.Core.Path.{◌≡◌, refl, sym, ap, ◌∙◌}
use Prim.Native.Nat.{ℕ, ◌+◌, ◌≤◌}
use native.Mathlib.Omega.{arith}
use mathlib.Core.Bool.{Bool, cond}
use mathlib.Core.Option.{Option, none, some}
use mathlib.Core.List.{List, []}
use lib.ListN.{length, drop}
use lib.Dec.{eqb}
use borrow.Author.Tests.{eq-eqb, ne_eqb}
use Rattle.bsii_format.specs.Replies.{Fault as Refused}
use Rattle.bsii_format.specs.Reader.{Result, ok, fault, short_at, Reader, after, ◌>>=◌, success, ◌<$>◌, bytes, repeat}
use Rattle.bsii_format.specs.Numbers.{number}
use Rattle.bsii_format.specs.Prototypes.{EnumValue, ValuePrototype}
use Rattle.bsii_format.proofs.Readers.{Exact, bind_exact, success_exact, cond_exact, repeat_exact}
use Rattle.bsii_format.proofs.Parsers.{number_exact}
use Rattle.bsii_format.proofs.Positions.{bind_ok, bind_fault, ended_map}
use Rattle.bsii_string.specs.Answers.{fault_is, refusal_is, end_of}
use Rattle.bsii_string.proofs.Ends.{alike, next≢fault, fault_at_law}
use Rattle.bsii_string.specs.declared.answers.Refusal.{Refusal}
use Rattle.bsii_prototype.specs.Strings.{Text, pair_exact}
use Rattle.bsii_prototype.proofs.Names.{named, number_front}
use Rattle.bsii_prototype.specs.Entries.{enum_value_with, enum_values_with, definition_with, entry_with}
use Rattle.bsii_prototype.specs.Answers.{entry_of}
use Rattle.bsii_prototype.specs.declared.answers.Entry.{Entry}
use Rattle.bsii_prototype.specs.declared.answers.Entry.TheVariants.{Field, Last}
use Rattle.std.specs.Prelude.{Ok, Err, Result as Outcome}

-- ---- from an answer back to the result

pub next_is : {A : Type 0} (q : Result A) {n : ℕ} → Ok n ≡ end_of q → (v : A) × (r : List ℕ) × (q ≡ ok v n r)
unfolding end_of
next_is (ok a i r) {n} e = let j : n ≡ i = cc in (a, r, ap (λ (k : ℕ). ok a k r) (sym j))
next_is (fault f) e = next≢fault e

pub field≢last : {P : Type 0} {t a b n m : ℕ} → ◌≡◌ {A = Outcome Entry Refusal} (Ok (Field t a b n)) (Ok (Last m)) → P
field≢last e = let z : ◌≡◌ {A = ℕ} 0 1 = cc in let f : ⊥ = omega arith in absurd f

pub field≢bad : {P : Type 0} {t a b n : ℕ} {f : Refusal} → ◌≡◌ {A = Outcome Entry Refusal} (Ok (Field t a b n)) (Err f) → P
field≢bad e = let z : ◌≡◌ {A = ℕ} 0 1 = cc in let f : ⊥ = omega arith in absurd f

pub last≢bad : {P : Type 0} {m : ℕ} {f : Refusal} → ◌≡◌ {A = Outcome Entry Refusal} (Ok (Last m)) (Err f) → P
last≢bad e = let z : ◌≡◌ {A = ℕ} 0 1 = cc in let f : ⊥ = omega arith in absurd f

pub record FieldIs (name : ℕ) (q : Result (Option ValuePrototype)) (t a b n : ℕ) : Type 0 where
  pub definition : ValuePrototype
  pub after : List ℕ
  pub read : q ≡ ok (some definition) n after
  pub typed : t ≡ definition.type_id
  pub start : a ≡ name
  pub end : b ≡ name + length definition.name

pub field_is_law : (name : ℕ) (q : Result (Option ValuePrototype)) {t a b n : ℕ} → Ok (Field t a b n) ≡ entry_of name q → FieldIs name q t a b n
unfolding entry_of
field_is_law name (ok none i r) e = field≢last e
field_is_law name (ok (some d) i r) {t} {a} {b} {n} e =
    let j : n ≡ i = cc in
    record { definition = d; after = r; read = ap (λ (k : ℕ). ok (some d) k r) (sym j); typed = cc; start = cc; end = cc }
field_is_law name (fault f) e = field≢bad e

pub last_is_law : (name : ℕ) (q : Result (Option ValuePrototype)) {n : ℕ} → Ok (Last n) ≡ entry_of name q → (r : List ℕ) × (q ≡ ok none n r)
unfolding entry_of
last_is_law name (ok none i r) {n} e = let j : n ≡ i = cc in (r, ap (λ (k : ℕ). ok none k r) (sym j))
last_is_law name (ok (some d) i r) e = field≢last (sym e)
last_is_law name (fault f) e = last≢bad e

pub bad_is : (name : ℕ) (q : Result (Option ValuePrototype)) {f : Refusal} → Err f ≡ entry_of name q → q ≡ fault (fault_is f)
unfolding entry_of
bad_is name (ok none i r) e = last≢bad (sym e)
bad_is name (ok (some d) i r) e = field≢bad (sym e)
bad_is name (fault x) {f} e = let a : refusal_is x ≡ f = cc in ap (λ (f : Refusal). fault (fault_is f)) a

-- ---- the parts of an entry

module _ (S : Reader (List ℕ)) (at : ℕ) (s : List ℕ) where
  pub pair_short : {x : Refused} → number 4 at s ≡ fault x → enum_value_with S at s ≡ fault x
  unfolding enum_value_with
  pair_short e = bind_fault (number 4) _ e

  -- a pair ends where its string does
  pub pair_more : {k n : ℕ} {r : List ℕ} → number 4 at s ≡ ok k n r → end_of (enum_value_with S at s) ≡ end_of (S n r)
  unfolding enum_value_with ◌<$>◌
  pair_more {k} {n} {r} e =
      let f : List ℕ → EnumValue = λ l. record { number = k; string = l } in
      ap end_of (bind_ok (number 4) _ e) ∙ alike ((f <$> S) n r) (S n r) (ended_map f S n r)

  pub list_none : (t : ℕ) → (t ≡ 0x37 → ⊥) → enum_values_with S t at s ≡ ok [] at s
  unfolding enum_values_with success
  list_none t h = rw (ne_eqb t 0x37 h)

  module _ (t : ℕ) (h : t ≡ 0x37) where
    list_reads : enum_values_with S t at s ≡ (number 4 >>= (λ n. repeat n (enum_value_with S))) at s
    unfolding enum_values_with
    list_reads = rw (eq-eqb t 0x37 h)

    pub list_short : {x : Refused} → number 4 at s ≡ fault x → enum_values_with S t at s ≡ fault x
    list_short e = list_reads ∙ bind_fault (number 4) (λ n. repeat n (enum_value_with S)) e

    pub list_more : {k n : ℕ} {r : List ℕ} → number 4 at s ≡ ok k n r → enum_values_with S t at s ≡ repeat k (enum_value_with S) n r
    list_more e = list_reads ∙ bind_ok (number 4) (λ n. repeat n (enum_value_with S)) e

  pub definition_cut : (t : ℕ) {x : Refused} → S at s ≡ fault x → definition_with S t at s ≡ fault x
  unfolding definition_with
  definition_cut t e = bind_fault S _ e

  module _ (t : ℕ) {v : List ℕ} {n : ℕ} {r : List ℕ} (e : S at s ≡ ok v n r) where
    pub definition_bad : {x : Refused} → enum_values_with S t n r ≡ fault x → definition_with S t at s ≡ fault x
    unfolding definition_with
    definition_bad h = bind_ok S _ e ∙ bind_fault (enum_values_with S t) _ h

    pub definition_whole : {l : List EnumValue} {m : ℕ} {q : List ℕ} → enum_values_with S t n r ≡ ok l m q
        → definition_with S t at s ≡ ok (some (record { type_id = t; name = v; enum_values = l })) m q
    unfolding definition_with success
    definition_whole h = bind_ok S _ e ∙ bind_ok (enum_values_with S t) _ h

  pub entry_short : {x : Refused} → number 4 at s ≡ fault x → entry_with S at s ≡ fault x
  unfolding entry_with
  entry_short e = bind_fault (number 4) _ e

  module _ {t n : ℕ} {r : List ℕ} (e : number 4 at s ≡ ok t n r) where
    entry_reads : entry_with S at s ≡ cond (eqb t 0) (success none) (definition_with S t) n r
    unfolding entry_with
    entry_reads = bind_ok (number 4) (λ t. cond (eqb t 0) (success none) (definition_with S t)) e

    pub entry_last : t ≡ 0 → entry_with S at s ≡ ok none n r
    unfolding success
    entry_last h = entry_reads ∙ ap (λ (b : Bool). cond b (success none) (definition_with S t) n r) (eq-eqb t 0 h)

    pub entry_more : (t ≡ 0 → ⊥) → entry_with S at s ≡ definition_with S t n r
    entry_more h = entry_reads ∙ ap (λ (b : Bool). cond b (success none) (definition_with S t) n r) (ne_eqb t 0 h)

-- with no byte left the type runs out
pub entry_none : (S : Reader (List ℕ)) (at : ℕ) → entry_with S at [] ≡ short_at at 4
unfolding entry_with ◌>>=◌ after number ◌<$>◌ bytes
entry_none S at = refl

module _ {S : Reader (List ℕ)} (x : Exact (List ℕ) S) where
  pub list_exact : (t : ℕ) → Exact (List EnumValue) (enum_values_with S t)
  unfolding enum_values_with
  list_exact t = cond_exact (eqb t 0x37) (bind_exact _ (number_exact 4) (λ n. repeat_exact n (pair_exact x))) (success_exact [])

  pub definition_exact : (t : ℕ) → Exact (Option ValuePrototype) (definition_with S t)
  unfolding definition_with
  definition_exact t = bind_exact _ x (λ n. bind_exact _ (list_exact t) (λ l. success_exact _))

  pub entry_exact : Exact (Option ValuePrototype) (entry_with S)
  unfolding entry_with
  entry_exact = bind_exact _ (number_exact 4) (λ t. cond_exact (eqb t 0) (success_exact none) (definition_exact t))

-- ---- the answers of the code

module _ {S : Reader (List ℕ)} (x : Text S) (s : List ℕ) (at t : ℕ) where
  pub name_bad : {f : Refusal} → Err f ≡ end_of (S at (drop at s)) → Err f ≡ entry_of (at + 4) (definition_with S t at (drop at s))
  unfolding entry_of
  name_bad e = sym (ap (entry_of (at + 4)) (definition_cut S at (drop at s) t (fault_at_law (S at (drop at s)) e)))

  module _ {m : ℕ} (e : Ok m ≡ end_of (S at (drop at s))) where
    string : (v : List ℕ) × (S at (drop at s) ≡ ok v m (drop m s))
    string = let q = next_is (S at (drop at s)) e in (q.0, q.2 ∙ ap (λ (l : List ℕ). ok q.0 m l) (named x s at q.2).rest)

    pub name_fits : at + 4 ≤ length s
    name_fits = let n = named x s at string.1 in omega (arith, n.end, n.inside)

    pub list_bad : {f : Refusal} → Err f ≡ end_of (enum_values_with S t m (drop m s)) → Err f ≡ entry_of (at + 4) (definition_with S t at (drop at s))
    unfolding entry_of
    list_bad h = sym (ap (entry_of (at + 4)) (definition_bad S at (drop at s) t string.1 (fault_at_law (enum_values_with S t m (drop m s)) h)))

    pub field_whole : {n : ℕ} → Ok n ≡ end_of (enum_values_with S t m (drop m s)) → Ok (Field t (at + 4) m n) ≡ entry_of (at + 4) (definition_with S t at (drop at s))
    unfolding entry_of
    field_whole {n} h =
        let q = next_is (enum_values_with S t m (drop m s)) h in
        ap (λ (i : ℕ). Ok (Field t (at + 4) i n)) (named x s at string.1).end
        ∙ sym (ap (entry_of (at + 4)) (definition_whole S at (drop at s) t string.1 q.2))

-- behind its type an entry that is not the last one is a definition
pub definition_entry : (S : Reader (List ℕ)) (s : List ℕ) (at : ℕ) {t n : ℕ} → number 4 at (drop at s) ≡ ok t n (drop n s) → (t ≡ 0 → ⊥)
    → entry_of (n + 4) (definition_with S t n (drop n s)) ≡ entry_of (at + 8) (entry_with S at (drop at s))
definition_entry S s at {t} {n} e h =
    let p : n + 4 ≡ at + 8 = omega (arith, (number_front 4 at (drop at s) e).1.next) in
    ap (λ (k : ℕ). entry_of k (definition_with S t n (drop n s))) p ∙ ap (entry_of (at + 8)) (sym (entry_more S at (drop at s) e h))
