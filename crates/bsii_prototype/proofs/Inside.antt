-- A definition lies inside the file, also where nothing was accepted.
use mathlib.Core.Path.{◌≡◌, sym, ap, ◌∙◌}
use Prim.Native.Nat.{ℕ, ◌+◌, ◌≤◌, ◌<◌}
use native.Mathlib.Omega.{arith}
use mathlib.Core.Bool.{Bool, true, false, cond}
use mathlib.Core.Option.{Option, none, some}
use mathlib.Core.List.{List}
use lib.ListN.{length, drop}
use lib.Dec.{eqb}
use Rattle.bsii_format.specs.Reader.{Result, ok, ◌>>=◌, success}
use Rattle.bsii_format.specs.Numbers.{number}
use Rattle.bsii_format.specs.Prototypes.{ValuePrototype}
use Rattle.bsii_format.proofs.Readers.{after_ok, ok_val}
use Rattle.bsii_format.proofs.Parsers.{number_exact}
use Rattle.bsii_format.proofs.Positions.{moved, moved_on}
use Rattle.bsii_string.specs.Answers.{unchecked_str}
use Rattle.bsii_prototype.specs.Entries.{enum_values_with, definition_with, entry_with}
use Rattle.bsii_prototype.specs.Answers.{entry_of}
use Rattle.bsii_prototype.specs.declared.answers.Entry.TheVariants.{Field}
use Rattle.bsii_prototype.proofs.Names.{named, number_front}
use Rattle.bsii_prototype.specs.Strings.{unchecked}
use Rattle.bsii_prototype.proofs.Entries.{entry_none, entry_exact, field_is_law}
use Rattle.std.specs.Prelude.{Ok}

last≢some : {P : Type 0} {d : ValuePrototype} {i n : ℕ} {q r : List ℕ} → ◌≡◌ {A = Result (Option ValuePrototype)} (ok none i q) (ok (some d) n r) → P
last≢some e = let z : ◌≡◌ {A = ℕ} 0 1 = cc in let f : ⊥ = omega arith in absurd f

some_is : {a b : ValuePrototype} → ◌≡◌ {A = Option ValuePrototype} (some a) (some b) → a ≡ b
some_is e = cc

module _ (s : List ℕ) (at : ℕ) where
  definition_end : {t i : ℕ} {l : List ℕ} → number 4 at (drop at s) ≡ ok t i l → {d : ValuePrototype} {n : ℕ} {r : List ℕ}
      → definition_with unchecked_str t i l ≡ ok (some d) n r → at + 8 + length d.name ≤ length s
  unfolding definition_with ◌>>=◌ success
  definition_end {t} {i} {l} e {d} f =
      let p = after_ok (unchecked_str i l) _ f in
      let q = after_ok (enum_values_with unchecked_str t p.1 p.2) _ p.4 in
      let w = named unchecked s i (ap (unchecked_str i) (sym (moved (number_exact 4) s at e).rest) ∙ p.3) in
      let same : p.0 ≡ d.name = ap (λ (d : ValuePrototype). d.name) (some_is (ok_val q.4)) in
      omega (arith, (number_front 4 at (drop at s) e).1.next, w.end, w.inside, ap length same)

  entry_end : {d : ValuePrototype} {n : ℕ} {r : List ℕ} → entry_with unchecked_str at (drop at s) ≡ ok (some d) n r → at + 8 + length d.name ≤ length s
  unfolding entry_with ◌>>=◌ success
  entry_end {d} {n} {r} e =
      let q = after_ok (number 4 at (drop at s)) (λ t. cond (eqb t 0) (success none) (definition_with unchecked_str t)) e in
      go (eqb q.0 0) q.3 q.4
    where
      go : (b : Bool) {t i : ℕ} {l : List ℕ} → number 4 at (drop at s) ≡ ok t i l → cond b (success none) (definition_with unchecked_str t) i l ≡ ok (some d) n r
          → at + 8 + length d.name ≤ length s
      go true e f = last≢some f
      go false e f = definition_end e f

  -- an entry has bytes of its own, and the name lies from a to b
  pub field_inside : {t a b n : ℕ} → Ok (Field t a b n) ≡ entry_of (at + 8) (entry_with unchecked_str at (drop at s)) → (at < n) × (n ≤ length s) × (a ≤ b) × (b ≤ length s)
  field_inside e =
      let f = field_is_law (at + 8) (entry_with unchecked_str at (drop at s)) e in
      let m = moved_on (entry_exact unchecked.exact) (entry_none unchecked_str 0) s at f.read in
      (m.0, m.1, omega (arith, f.start, f.end), omega (arith, f.end, entry_end f.read))
