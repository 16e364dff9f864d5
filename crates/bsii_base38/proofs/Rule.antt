-- The table's rule at each entry, and what the marks say, each by one test that is computed over all entries.
use Prim.Native.Nat.{ℕ, ◌+◌, ◌*◌, ◌/◌, ◌%◌, ◌<◌}
use mathlib.Core.Path.{◌≡◌, refl, sym}
use mathlib.Core.Bool.{Bool, true, false, not, cond}
use mathlib.Core.List.{List}
use native.Mathlib.Omega.{arith}
use lib.Bits.{bit_and}
use lib.Dec.{eqb}
use lib.ListN.{get_or}
use borrow.Author.Tests.{eqb-true}
use Rattle.bsii_format.specs.Strings.{char_encodings}
use Rattle.bsii_digits.proofs.Tables.{holds, holds_at}
use Rattle.bsii_base38.specs.Pairs.{char_of, pair_of, has_zero, low_zero, CharPairs}

abbrev pub right : List ℕ → ℕ → Bool
right t r = eqb (get_or t r 0) (pair_of r)

pub rule : (t : List ℕ) → holds (right t) 1444 ≡ true → CharPairs t
rule t h = record { entries = λ r l. eqb-true (get_or t r 0) (pair_of r) (holds_at (right t) 1444 h r l) }

-- both are true, or neither is
abbrev agree : Bool → Bool → Bool
agree a b = cond a b (not b)

agreed : (a b : Bool) → agree a b ≡ true → a ≡ b
agreed true b h = sym h
agreed false true h = h
agreed false false h = refl

-- a bit of the mark is set
abbrev pub marked : ℕ → ℕ → Bool
marked bits x = not (eqb (bit_and x bits) 0)

module _ (r : ℕ) (l : r < 1444) where
  pub pair_marked : marked 0x8080 (pair_of r) ≡ has_zero r
  unfolding holds pair_of char_of char_encodings has_zero low_zero
  pair_marked = agreed (marked 0x8080 (pair_of r)) (has_zero r) (holds_at (λ n. agree (marked 0x8080 (pair_of n)) (has_zero n)) 1444 refl r l)

  pub low_marked : marked 0x80 (pair_of r) ≡ low_zero r
  unfolding holds pair_of char_of char_encodings low_zero
  low_marked = agreed (marked 0x80 (pair_of r)) (low_zero r) (holds_at (λ n. agree (marked 0x80 (pair_of n)) (low_zero n)) 1444 refl r l)

-- a digit's character is the mark where the digit is 0, and only there
pub char_marked : (d : ℕ) → d < 38 → eqb (char_of d) 128 ≡ eqb d 0
unfolding holds char_of char_encodings
char_marked d l = agreed (eqb (char_of d) 128) (eqb d 0) (holds_at (λ n. agree (eqb (char_of n) 128) (eqb n 0)) 38 refl d l)

-- a character is a byte
pub char_byte : (d : ℕ) → d < 38 → char_of d < 256
unfolding holds char_of char_encodings
char_byte d l = let z : char_of d / 256 ≡ 0 = eqb-true (char_of d / 256) 0 (holds_at (λ n. eqb (char_of n / 256) 0) 38 refl d l) in omega arith

-- so a pair's bytes are its characters
module _ (r : ℕ) (l : r < 1444) where
  pub first_of : pair_of r % 256 ≡ char_of (r % 38)
  unfolding pair_of
  first_of = omega (arith, char_byte (r % 38) (omega arith))

  pub second_of : pair_of r / 256 ≡ char_of (r / 38)
  unfolding pair_of
  second_of = omega (arith, char_byte (r % 38) (omega arith))

-- the two digits of a remainder are the number's lowest two
module _ (r n : ℕ) (e : r ≡ n % 1444) where
  pub lower_digit : r % 38 ≡ n % 38
  lower_digit = omega arith

  pub upper_digit : r / 38 ≡ n / 38 % 38
  upper_digit = let z : n / 38 ≡ 38 * (n / 1444) + r / 38 = omega arith in omega arith
