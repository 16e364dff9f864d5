-- For callers: what stands at a place that was found.
use mathlib.Core.Path.{◌≡◌, refl, sym, ap}
use Prim.Native.Nat.{ℕ, ◌-◌}
use mathlib.Core.Option.{Option, none, some, map}
use mathlib.Core.List.{List}
use lib.ListN.{length, take, drop}
use Rattle.bsii_format.specs.Blocks.{DataValue}
use Rattle.bsii_format.specs.Calls.{Placed, FieldAnswer, field_answer}
use Rattle.bsii_field.specs.Answers.{found, found_is}
use Rattle.std.specs.Prelude.{None}

pub record PlacedValue (s : List ℕ) (t at next : ℕ) (there : Option (Placed DataValue)) : Type 0 where
  pub value : DataValue
  pub placed : there ≡ some (record { offset = at; it = value })
  pub typed : value.type_id ≡ t
  pub size : length value.raw ≡ next - at
  pub bytes : take (next - at) (drop at s) ≡ value.raw

none≢some : {P : Type 0} {a : FieldAnswer} → ◌≡◌ {A = Option FieldAnswer} none (some a) → P
none≢some e = let f : ⊥ = cc in absurd f

some_is : {a b : FieldAnswer} → ◌≡◌ {A = Option FieldAnswer} (some a) (some b) → a ≡ b
some_is e = cc

pub standing : (s : List ℕ) (t at next : ℕ) (o : Option (Placed DataValue)) → found_is s (found t at next) ≡ map field_answer o → PlacedValue s t at next o
unfolding field_answer
standing s t at next none e = none≢some (sym e)
standing s t at next (some p) e =
    let f = some_is (sym e) in
    record {
      value = p.it;
      placed = ap (λ (i : ℕ). some (record { offset = i; it = p.it })) (ap (λ (a : FieldAnswer). a.part.offset) f);
      typed = ap (λ (a : FieldAnswer). a.type_id) f;
      size = ap (λ (a : FieldAnswer). a.part.size) f;
      bytes = sym (ap (λ (a : FieldAnswer). a.bytes) f);
    }

pub nothing : (s : List ℕ) (o : Option (Placed DataValue)) → found_is s None ≡ map field_answer o → o ≡ none
nothing s none e = refl
nothing s (some p) e = none≢some e
