-- The format's readers of definitions are those of specs/Entries at `str_parser`; what they accept is read the same at `unchecked_str`, so a walk
-- over what was accepted before need not check it twice.
use mathlib.Core.Path.{refl, sym, ap, ◌≡◌, ◌∙◌}
use Prim.Native.Nat.{ℕ, zero, suc}
use mathlib.Core.Option.{Option, none, some}
use mathlib.Core.List.{List, []}
use lib.ListN.{length}
use lib.Dec.{eqb}
use Rattle.bsii_format.specs.Reader.{Reader, ◌>>=◌, success, ◌<$>◌, consumed}
use Rattle.bsii_format.specs.Numbers.{number}
use Rattle.bsii_format.specs.Strings.{str_parser}
use Rattle.bsii_format.specs.Prototypes.{ValuePrototype, enum_value_parser, enum_values_parser, value_prototype_parser, Fields, fields_then, fields_from, fields_parser}
use Rattle.bsii_format.proofs.Follows.{Follows, Same, itself, bind_same, cond_follows, repeat_same, consumed_same, exhausted_follows}
use Rattle.bsii_string.specs.Answers.{unchecked_str}
use Rattle.bsii_string.proofs.Unchecked.{str_follows}
use Rattle.bsii_prototype.specs.Entries.{enum_value_with, enum_values_with, definition_with, entry_with, fields_from_with, fields_with}

-- ---- the specification's readers are those at `str_parser`

pub checked_enum_value : enum_value_parser ≡ enum_value_with str_parser
unfolding enum_value_parser enum_value_with
checked_enum_value = refl

pub checked_enum_values : (t : ℕ) → enum_values_parser t ≡ enum_values_with str_parser t
unfolding enum_values_parser enum_values_with enum_value_parser enum_value_with
checked_enum_values t = refl

pub checked_entry : value_prototype_parser ≡ entry_with str_parser
unfolding value_prototype_parser entry_with definition_with enum_values_parser enum_values_with enum_value_parser enum_value_with
checked_entry = refl

checked_from : (n : ℕ) → fields_from n ≡ fields_from_with str_parser n
unfolding fields_from fields_from_with value_prototype_parser entry_with definition_with enum_values_parser enum_values_with enum_value_parser enum_value_with
checked_from zero = refl
checked_from (suc n) = ap (λ (R : Reader Fields). consumed value_prototype_parser >>= (λ e. fields_then R e.value e.raw)) (checked_from n)

pub checked_fields : (at : ℕ) (s : List ℕ) → fields_parser at s ≡ fields_with str_parser at s
unfolding fields_parser fields_with
checked_fields at s = ap (λ (R : Reader Fields). R at s) (checked_from (length s))

-- ---- what was accepted once is read the same without the check

module _ {S T : Reader (List ℕ)} (h : Follows Same S T) where
  enum_value_with_law : Follows Same (enum_value_with S) (enum_value_with T)
  unfolding enum_value_with
  enum_value_with_law = bind_same (itself (number 4)) (λ n. bind_same h (λ s. itself (success (record { number = n; string = s }))))

  enum_values_with_law : (t : ℕ) → Follows Same (enum_values_with S t) (enum_values_with T t)
  unfolding enum_values_with
  enum_values_with_law t = cond_follows (eqb t 0x37) (bind_same (itself (number 4)) (λ n. repeat_same n enum_value_with_law)) (itself (success []))

  definition_with_law : (t : ℕ) → Follows Same (definition_with S t) (definition_with T t)
  unfolding definition_with
  definition_with_law t = bind_same h (λ n. bind_same (enum_values_with_law t) (λ l. itself (success _)))

  entry_with_law : Follows Same (entry_with S) (entry_with T)
  unfolding entry_with
  entry_with_law = bind_same (itself (number 4)) (λ t. cond_follows (eqb t 0) (itself (success none)) (definition_with_law t))

  then_with : {R R' : Reader Fields} → Follows Same R R' → (o : Option ValuePrototype) (l : List ℕ) → Follows Same (fields_then R o l) (fields_then R' o l)
  unfolding fields_then ◌<$>◌
  then_with k none l = itself (success _)
  then_with k (some d) l = bind_same k (λ f. itself (success _))

  from_with : (n : ℕ) → Follows Same (fields_from_with S n) (fields_from_with T n)
  unfolding fields_from_with
  from_with zero = exhausted_follows 4 _
  from_with (suc n) = bind_same (consumed_same entry_with_law) (λ e. then_with (from_with n) e.value e.raw)

  fields_with_law : Follows Same (fields_with S) (fields_with T)
  unfolding fields_with
  fields_with_law = record { reads = λ at s e. (from_with (length s)).reads at s e }

pub entry_follows : Follows Same value_prototype_parser (entry_with unchecked_str)
entry_follows = rw checked_entry (entry_with_law str_follows)

pub fields_follow : Follows Same fields_parser (fields_with unchecked_str)
fields_follow = record { reads = λ at s e. (fields_with_law str_follows).reads at s (sym (checked_fields at s) ∙ e) }
