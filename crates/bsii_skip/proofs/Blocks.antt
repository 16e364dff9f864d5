-- A block's values one by one: a walk over definitions and values in step.
use mathlib.Core.Path.{◌≡◌, sym, ap, ◌∙◌}
use Prim.Native.Nat.{ℕ}
use mathlib.Core.List.{List, [], ◌∷◌}
use lib.ListN.{drop}
use Rattle.bsii_format.specs.Reader.{ok, Consumed, success, ◌>>=◌}
use Rattle.bsii_format.specs.Prototypes.{ValuePrototype}
use Rattle.bsii_format.specs.Blocks.{DataValue, data_value, data_value_parser, data_values_parser}
use Rattle.bsii_format.proofs.Readers.{after_ok, ok_val, ok_at, ok_rest, at_value}
use Rattle.bsii_format.proofs.Parsers.{data_value_exact}
use Rattle.bsii_format.proofs.Positions.{moved}
use Rattle.bsii_format.proofs.Follows.{Follows, Any, map_follows, consumed_follows}
use Rattle.bsii_string.specs.Answers.{end_of}
use Rattle.std.specs.Prelude.{Ok}
use Rattle.bsii_skip.specs.Unchecked.{unchecked_value}
use Rattle.bsii_skip.proofs.Values.{next, value_follows}

pub data_value_follows : (version t : ℕ) → Follows Any (data_value_parser version t) (unchecked_value version t)
unfolding data_value_parser
data_value_follows version t = map_follows (consumed_follows (value_follows version t)) (data_value t)

pub data_value_same : (version t at : ℕ) (s : List ℕ) {v : DataValue} {n : ℕ} {r : List ℕ} → data_value_parser version t at s ≡ ok v n r → end_of (unchecked_value version t at s) ≡ Ok n
data_value_same version t = next (data_value_follows version t)

-- the values l of the definitions f ∷ fs, read at `at` of the file s: the first one, and the others behind it
pub record Turn (version : ℕ) (f : Consumed ValuePrototype) (fs : List (Consumed ValuePrototype)) (s : List ℕ) (at : ℕ) (l : List DataValue) (n : ℕ) (r : List ℕ) : Type 0 where
  pub value : DataValue
  pub values : List DataValue
  pub end : ℕ
  pub first : data_value_parser version f.value.type_id at (drop at s) ≡ ok value end (drop end s)
  pub others : data_values_parser version fs end (drop end s) ≡ ok values n r
  pub both : l ≡ value ∷ values
  -- so the walk that checks nothing ends there
  pub past : end_of (unchecked_value version f.value.type_id at (drop at s)) ≡ Ok end

pub turn : {version : ℕ} (f : Consumed ValuePrototype) (fs : List (Consumed ValuePrototype)) (s : List ℕ) (at : ℕ) {l : List DataValue} {n : ℕ} {r : List ℕ}
    → data_values_parser version (f ∷ fs) at (drop at s) ≡ ok l n r → Turn version f fs s at l n r
unfolding data_values_parser ◌>>=◌ success
turn {version} f fs s at {l} {n} {r} e =
    let t = f.value.type_id in
    let q = after_ok (data_value_parser version t at (drop at s)) _ e in
    let p = after_ok (data_values_parser version fs q.1 q.2) _ q.4 in
    let rest : q.2 ≡ drop q.1 s = (moved (data_value_exact version t) s at q.3).rest in
    let first : data_value_parser version t at (drop at s) ≡ ok q.0 q.1 (drop q.1 s) = q.3 ∙ ap (ok q.0 q.1) rest in
    record {
      value = q.0;
      values = p.0;
      end = q.1;
      first = first;
      others = ap (data_values_parser version fs q.1) (sym rest) ∙ p.3 ∙ at_value p.0 p.4;
      both = sym (ok_val p.4);
      past = data_value_same version t at (drop at s) first;
    }

-- no definition is left
pub done : (version : ℕ) {at : ℕ} {s : List ℕ} {l : List DataValue} {n : ℕ} {r : List ℕ} → data_values_parser version [] at s ≡ ok l n r
    → (l ≡ []) × (n ≡ at) × (r ≡ s)
unfolding data_values_parser success
done version e = (sym (ok_val e), sym (ok_at e), sym (ok_rest e))
