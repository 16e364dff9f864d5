-- A block by the format's readers, and one that was accepted, by those that check nothing.
use mathlib.Core.Path.{◌≡◌, refl, sym, ap, ◌∙◌}
use Prim.Native.Nat.{ℕ}
use mathlib.Core.Bool.{true, false}
use mathlib.Core.List.{List, [], ◌∷◌}
use lib.ListN.{length, drop}
use Rattle.bsii_format.specs.Reader.{success, ◌<$>◌, Consumed, consumed}
use Rattle.bsii_format.specs.Strings.{id_parser}
use Rattle.bsii_format.specs.Values.{value_parser}
use Rattle.bsii_format.specs.Prototypes.{ValuePrototype}
use Rattle.bsii_format.specs.Blocks.{data_value, data_value_parser, data_values_parser}
use Rattle.bsii_format.proofs.Positions.{ended, ended_bind, ended_map, ended_consumed}
use Rattle.bsii_format.proofs.Follows.{Follows, Any, success_follows, map_follows, bind_follows}
use Rattle.bsii_string.specs.Answers.{end_of}
use Rattle.bsii_string.specs.declared.answers.Refusal.{Refusal}
use Rattle.bsii_string.proofs.Ends.{alike}
use Rattle.bsii_prototype.specs.declared.answers.Counted.{Counted}
use Rattle.bsii_skip.specs.Unchecked.{unchecked_id, unchecked_value}
use Rattle.bsii_skip.proofs.Values.{next, id_follows}
use Rattle.bsii_skip.proofs.Blocks.{data_value_follows}
use Rattle.bsii_block.specs.Blocks.{counted_end, values_with, ValuesWith, ValuesEnd, DefinedWith, DefinedEnd, BlockSkipped, KnownEnd}
use Rattle.std.specs.Prelude.{Result as Outcome}

-- ---- the format's readers, which keep the values

values_ended : (version : ℕ) (fs : List (Consumed ValuePrototype)) (at : ℕ) (s : List ℕ) → ended (values_with (value_parser version) fs at s) ≡ ended (data_values_parser version fs at s)
unfolding values_with data_values_parser data_value_parser ◌<$>◌ success ended
values_ended version [] at s = refl
values_ended version (f ∷ fs) at s =
    sym (ended_bind (data_value_parser version f.value.type_id) (value_parser version f.value.type_id) _ (λ v. values_with (value_parser version) fs) at s
    (ended_map (data_value f.value.type_id) (consumed (value_parser version f.value.type_id)) at s
    ∙ ended_consumed (value_parser version f.value.type_id) at s)
    (λ a b i r. ended_map (λ l. a ∷ l) (data_values_parser version fs) i r ∙ sym (values_ended version fs i r)))

pub values_checked : {version : ℕ} {s : List ℕ} {fields start : ℕ} {r : Outcome Counted Refusal} → ValuesWith (value_parser version) s fields start r → ValuesEnd version s fields start r
values_checked {version} {s} {start = start} v = record {
  ends = λ l n t h. v.ends l n t h ∙ ap (counted_end (length l.fields)) (alike _ _ (values_ended version l.fields start (drop start s)));
}

pub block_checked : {version : ℕ} {s : List ℕ} {o at : ℕ} {r : Outcome Counted Refusal} → DefinedWith id_parser (value_parser version) s o at r → DefinedEnd version s o at r
block_checked {version} {s} {at = at} d = record {
  ends = λ p h.
      d.ends p h
      ∙ ap (counted_end (length p.fields))
      (alike _ _ (ended_bind id_parser id_parser (λ i. values_with (value_parser version) p.fields) (λ i. data_values_parser version p.fields) at (drop at s) refl
      (λ a b i r. values_ended version p.fields i r)));
}

-- ---- what was accepted ends there without a check

values_follow : (version : ℕ) (fs : List (Consumed ValuePrototype)) → Follows Any (data_values_parser version fs) (values_with (unchecked_value version) fs)
unfolding values_with data_values_parser ◌<$>◌
values_follow version [] = success_follows [] tt tt
values_follow version (f ∷ fs) = bind_follows (data_value_follows version f.value.type_id) (λ v u a. map_follows (values_follow version fs) (λ l. v ∷ l))

pub block_skipped : {version : ℕ} {s : List ℕ} {o at : ℕ} {r : Outcome Counted Refusal} → DefinedWith unchecked_id (unchecked_value version) s o at r → BlockSkipped version s o at r
block_skipped {version} {s} {at = at} d = record {
  ends = λ p h v m u e.
      d.ends p h
      ∙ ap (counted_end (length p.fields)) (next (bind_follows id_follows (λ i j a. values_follow version p.fields)) at (drop at s) e);
}

-- ---- a block, with or without tests

pub known_skipped : {version : ℕ} {s : List ℕ} {o at : ℕ} {r : Outcome Counted Refusal} → BlockSkipped version s o at r → KnownEnd version s o at true r
unfolding end_of
known_skipped b = record {
  ends = λ p h a. b.ends p h a.0 a.1 a.2 a.3 ∙ ap (λ q. counted_end (length p.fields) (end_of q)) (sym a.3);
}

pub known_parsed : {version : ℕ} {s : List ℕ} {o at : ℕ} {r : Outcome Counted Refusal} → DefinedEnd version s o at r → KnownEnd version s o at false r
known_parsed d = record { ends = λ p h a. d.ends p h }
