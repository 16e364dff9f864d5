-- The name of a prototype that stands at an offset.
use mathlib.Core.Path.{◌≡◌, sym, ap, ◌∙◌, subst}
use Prim.Native.Nat.{ℕ, ◌+◌, ◌-◌, ◌≤◌}
use native.Mathlib.Omega.{arith}
use mathlib.Core.Bool.{Bool}
use mathlib.Core.List.{List}
use lib.ListN.{length, drop, take}
use lib.Dec.{eqb}
use Rattle.bsii_format.specs.Reader.{ok, bytes, ◌>>=◌, same}
use Rattle.bsii_format.specs.Prototypes.{Prototype}
use Rattle.bsii_format.proofs.Readers.{after_ok, bytes_exact}
use Rattle.bsii_format.proofs.Positions.{moved}
use Rattle.bsii_string.specs.Answers.{end_of, unchecked_str}
use Rattle.bsii_string.specs.declared.answers.Refusal.{Refusal}
use Rattle.bsii_string.proofs.Ends.{next≢fault, next_same}
use Rattle.bsii_prototype.specs.Entries.{unchecked_head}
use Rattle.bsii_prototype.proofs.Beginnings.{same_pointwise, head_past}
use Rattle.bsii_prototype.proofs.Entries.{next_is}
use Rattle.bsii_prototype.specs.Strings.{unchecked}
use Rattle.bsii_prototype.proofs.Names.{bytes_front, named}
use Rattle.bsii_block.specs.Blocks.{DefinedAt}
use Rattle.bsii_walk.specs.Again.{NameIs}
use lib.Pointwise.{pointwise}
use Rattle.std.specs.Prelude.{Ok, Err, Result as Outcome}

-- the name's bytes in a prototype's head, read without checks
pub record HeadName (s : List ℕ) (o : ℕ) (v : List ℕ) (n : ℕ) : Type 0 where
  pub place : v ≡ take (n - (o + 13)) (drop (o + 13) s)
  pub end : n ≡ o + 13 + length v
  pub inside : n ≤ length s

pub head_ends : (s : List ℕ) (o : ℕ) {v : List ℕ} {n : ℕ} {r : List ℕ} → unchecked_head o (drop o s) ≡ ok v n r → HeadName s o v n
unfolding unchecked_head ◌>>=◌
head_ends s o {v} {n} e =
    let q = after_ok (bytes 9 o (drop o s)) (λ h. unchecked_str) e in
    let f = bytes_front 9 o (drop o s) q.3 in
    let m = moved (bytes_exact 9) s o q.3 in
    let w = named unchecked s q.1 (ap (unchecked_str q.1) (sym m.rest) ∙ q.4) in
    let i : q.1 + 4 ≡ o + 13 = omega (arith, f.next) in
    record { place = w.place ∙ ap (λ (k : ℕ). take (n - k) (drop k s)) i; end = omega (arith, f.next, w.end); inside = w.inside }

-- ---- a name against the prototype at an offset

module _ (s : List ℕ) (o : ℕ) {h : Outcome ℕ Refusal} (e : h ≡ end_of (unchecked_head o (drop o s))) where
  -- the name's place is in the file, also where nobody knows that a prototype stands there
  pub name_inside : {n : ℕ} → h ≡ Ok n → (o + 13 ≤ n) × (n ≤ length s)
  name_inside z =
      let q = next_is (unchecked_head o (drop o s)) (sym z ∙ e) in
      let w = head_ends s o q.2 in
      (omega (arith, w.end), w.inside)

  pub standing : (p : Prototype) (x : DefinedAt s o p) → h ≡ Ok x.fields
  unfolding end_of
  standing p x = e ∙ ap end_of (head_past o (drop o s) x.head)

  module _ (name : List ℕ) where
    pub name_fault : {f : Refusal} → h ≡ Err f → (r : Bool) → NameIs s o name r
    name_fault z r = record { is = λ p x. next≢fault (sym (standing p x) ∙ z) }

    module _ {n : ℕ} (z : h ≡ Ok n) where
      here : (p : Prototype) → DefinedAt s o p → HeadName s o p.name n
      here p x = subst (HeadName s o p.name) (next_same (sym (standing p x) ∙ z)) (head_ends s o (head_past o (drop o s) x.head))

      pub name_same : {r : Bool} → r ≡ pointwise eqb (take (n - (o + 13)) (drop (o + 13) s)) name → NameIs s o name r
      name_same q = record { is = λ p x. q ∙ same_pointwise (take (n - (o + 13)) (drop (o + 13) s)) name ∙ ap (same name) (sym (here p x).place) }
