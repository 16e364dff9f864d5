-- Readers: what the layout is written in. A reader is a function of an offset and of the bytes from there on. No reader chooses by the offset:
-- it is reported, and differences of offsets say how many bytes were taken. Bytes are numbers; that each is below 256 is used by no definition.
use Rattle.std.specs.Prelude.{ℕ, zero, suc, ◌+◌, ◌-◌, ◌≡◌, Bool, true, false, cond, ◌&&◌, List, [], ◌∷◌, length, take, drop, leb, eqb}
use Rattle.bsii_format.specs.declared.Cause.{Cause}
use Rattle.bsii_format.specs.Replies.{Fault, refused, short}

-- the value, the offset after it and the bytes after it; or a fault
pub data Result (A : Type 0) : Type 0 where
  ok : A → ℕ → List ℕ → Result A
  fault : Fault → Result A

abbrev pub Reader : Type 0 → Type 0
Reader A = ℕ → List ℕ → Result A

abbrev pub fault_at : {A : Type 0} → Cause → ℕ → Result A
fault_at c at = fault (refused c at)

abbrev pub short_at : {A : Type 0} → ℕ → ℕ → Result A
short_at at k = fault (short at k)

-- after a result: go on behind it, or keep its fault. So the first fault met, from front to back, is the answer
unfoldable pub after : {A B : Type 0} → Result A → (A → Reader B) → Result B
after (ok a at s) f = f a at s
after (fault f') f = fault f'

-- one reader after the other: the line `x ← R` of a `do` block
infixl 20 ◌>>=◌
unfoldable pub ◌>>=◌ : {A B : Type 0} → Reader A → (A → Reader B) → Reader B
(R >>= f) at s = after (R at s) f

-- no byte, and this value
unfoldable pub success : {A : Type 0} → A → Reader A
success a at s = ok a at s

-- the refusal c at this place
unfoldable pub fail : {A : Type 0} → Cause → Reader A
fail c at s = fault_at c at

infixl 30 ◌<$>◌
unfoldable pub ◌<$>◌ : {A B : Type 0} → (A → B) → Reader A → Reader B
f <$> R = R >>= (λ a. success (f a))

-- n bytes: an item. 3: "a number, a byte, or a string's bytes after its length run out", at "that item's start"; lacking are those of the n that
-- are not there
unfoldable pub bytes : ℕ → Reader (List ℕ)
bytes n at s = cond (leb n (length s)) (ok (take n s) (at + n) (drop n s)) (short_at at (n - length s))

-- an item of n bytes of which none is there: what is due where a list's fuel ends, since it ends with the bytes
unfoldable pub exhausted : {A : Type 0} → ℕ → Reader A
exhausted n at s = short_at at n

-- what R reads, if it passes the test; else the refusal c where R began
unfoldable pub verify : {A : Type 0} → (A → Bool) → Cause → Reader A → Reader A
verify p c R at s = after (R at s) (λ a at' s'. cond (p a) (ok a at' s') (fault_at c at))

-- a value and the bytes that it was read from
pub record Consumed (A : Type 0) : Type 0 where
  pub value : A
  pub raw : List ℕ

abbrev pub with : {A : Type 0} → A → List ℕ → Consumed A
with a l = record { value = a; raw = l }

unfoldable pub consumed : {A : Type 0} → Reader A → Reader (Consumed A)
consumed R at s = after (R at s) (λ a at' s'. ok (with a (take (at' - at) s)) at' s')

-- n times R
unfoldable pub repeat : {A : Type 0} → ℕ → Reader A → Reader (List A)
repeat zero R = success []
repeat (suc n) R = do
  a ← R
  l ← repeat n R
  success (a ∷ l)

-- equal bytes
unfoldable pub same : List ℕ → List ℕ → Bool
same [] [] = true
same [] (y ∷ t) = false
same (x ∷ s) [] = false
same (x ∷ s) (y ∷ t) = eqb x y && same s t

-- exactly the bytes c; else the refusal n
unfoldable pub tag : List ℕ → Cause → Reader (Unit {0})
tag c n at s = cond (same (take (length c) s) c) (ok tt (at + length c) (drop (length c) s)) (fault_at n at)

-- "well-formed by the layout": R reads the bytes c, all of them, as v
abbrev pub WellFormed : {A : Type 0} → Reader A → A → List ℕ → Type 0
WellFormed R v c = R 0 c ≡ ok v (length c) []
