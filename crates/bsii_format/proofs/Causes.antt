-- Causes are told apart by their numbers: the test decides whether two are equal.
use native.Mathlib.Decide.{ℕ_discrete}
use mathlib.Core.Path.{◌≡◌, refl, sym, ap, ◌∙◌}
use mathlib.Core.Bool.{false}
use mathlib.Core.Option.{some, some-injective}
use mathlib.Core.List.{List, [], ◌∷◌}
use lib.Dec.{T, eqb→eq}
use borrow.Author.Tests.{ne_eqb}
use Rattle.bsii_format.specs.declared.Cause.{Cause}
use Rattle.bsii_format.specs.declared.Cause.TheVariants.{InvalidHeader, Malformed, NotUtf8, ZeroDigit, UndefinedPrototype, UnlistedType, FieldCount, EnumValue, TableFull, OutputShort, InputLong, Absent, Misfit, BadMark}
use Rattle.bsii_format.specs.Replies.{number_of, same_cause}
use Rattle.bsii_format.specs.Blocks.{find_by}

causes : List Cause
causes =
    InvalidHeader ∷ Malformed ∷ NotUtf8 ∷ ZeroDigit ∷ UndefinedPrototype ∷ UnlistedType ∷ FieldCount ∷ EnumValue ∷ TableFull ∷ OutputShort ∷ InputLong ∷ Absent
    ∷ Misfit ∷ BadMark ∷ []

-- no two causes have one number
found : (c : Cause) → find_by number_of (number_of c) causes ≡ some c
unfolding find_by causes
found InvalidHeader = refl
found c = refl

pub same_number : (a b : Cause) → number_of a ≡ number_of b → a ≡ b
same_number a b e = some-injective a b (sym (found a) ∙ ap (λ n. find_by number_of n causes) e ∙ found b)

pub same_is : (a b : Cause) → T (same_cause a b) → a ≡ b
same_is a b t = same_number a b (eqb→eq (number_of a) (number_of b) t)

pub same_not : (a b : Cause) → (a ≡ b → ⊥) → same_cause a b ≡ false
same_not a b n = ne_eqb (number_of a) (number_of b) (λ e. n (same_number a b e))

pub cause_discrete : (a b : Cause) → Dec (a ≡ b)
cause_discrete a b = go (ℕ_discrete (number_of a) (number_of b))
  where
    go : Dec (number_of a ≡ number_of b) → Dec (a ≡ b)
    go (yes e) = yes (same_number a b e)
    go (no n) = no (λ e. n (ap number_of e))
