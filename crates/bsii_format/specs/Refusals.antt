-- Which refusals each call gives: document 01, "Replies in number order"; document 02, E2 and E12; FORMAT.md, "Calls". "Order: 12; then the file from front to back, first
-- fault met (10 once that prototype is read whole); then 13, or for text 8 and 9 in text order, then 11. The element call gives 3, 4, 5, 7, 13 only."
use Rattle.std.specs.Prelude.{ℕ, ◌≡◌, Bool, false, cond, ◌&&◌, ◌||◌, List, [], ◌∷◌, ◌++◌, T, eqb, ltb}
use Rattle.bsii_format.specs.declared.Cause.{Cause}
use Rattle.bsii_format.specs.Replies.{invalid_header, malformed, not_utf8, zero_digit, undefined_prototype, unlisted_type, field_count, enum_value, table_full, output_short, input_long, absent, bad_mark, number_of, same_cause, Fault, Reply, gives, refuses}

-- ---- the causes, by their numbers

-- of a value: 3, 4, 5, 7
abbrev pub value_numbers : List Cause
value_numbers = malformed ∷ not_utf8 ∷ zero_digit ∷ unlisted_type ∷ []

-- of a file, and so of every call that takes one: 1, 3 to 7, 10, 12, 15. "Reply 2 is retired and never occurs"
abbrev pub file_numbers : List Cause
file_numbers = input_long ∷ invalid_header ∷ malformed ∷ not_utf8 ∷ zero_digit ∷ undefined_prototype ∷ unlisted_type ∷ table_full ∷ bad_mark ∷ []

abbrev pub reading_numbers : List Cause
reading_numbers = file_numbers

-- prototype by id, block by number, n-th block under a name, field: 13 too
abbrev pub lookup_numbers : List Cause
lookup_numbers = file_numbers ++ (absent ∷ [])

-- 3, 4, 5, 7, 13
abbrev pub element_numbers : List Cause
element_numbers = value_numbers ++ (absent ∷ [])

-- 1, 3 to 12, 15
abbrev pub text_numbers : List Cause
text_numbers = file_numbers ++ (field_count ∷ enum_value ∷ output_short ∷ [])

-- ---- that they are those that a call gives

-- a list has a cause with this number
abbrev pub numbered_among : List Cause → ℕ → Bool
numbered_among [] n = false
numbered_among (c ∷ l) n = eqb n (number_of c) || numbered_among l n

abbrev pub among : List Cause → Cause → Bool
among l c = numbered_among l (number_of c)

-- P holds of each cause of the list
infixr 60 ◌also◌
pub data Each (P : Cause → Type 0) : List Cause → Type 0 where
  none : Each P []
  ◌also◌ : {c : Cause} {l : List Cause} → P c → Each P l → Each P (c ∷ l)

-- 02, E2: reply 3 "also carries how many of that item's bytes were lacking", one at least; no other reply does
abbrev pub counted : Fault → Bool
counted f = cond (same_cause f.cause malformed) (ltb 0 f.lacking) (eqb f.lacking 0)

-- a reply that refuses by no other cause, and with a count where it has 3
abbrev pub Within : {A : Type 0} → List Cause → Reply A → Type 0
Within causes (gives a) = Unit {0}
Within causes (refuses f) = T (among causes f.cause && counted f)

-- a question to which the call refuses by the cause c
pub record Gives {Q A : Type 0} (call : Q → Reply A) (c : Cause) : Type 0 where
  pub question : Q
  pub fault : Fault
  pub refused : call question ≡ refuses fault
  pub caused : fault.cause ≡ c

-- the call refuses by these causes and no others; 0, which C callers take for an answer, is the number of none of them
pub record GivesExactly {Q A : Type 0} (causes : List Cause) (call : Q → Reply A) : Type 0 where
  pub only : (q : Q) → Within causes (call q)
  pub each : Each (Gives call) causes
  pub nonzero : numbered_among causes 0 ≡ false
