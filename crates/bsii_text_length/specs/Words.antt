-- The text of any word, with the mark for each digit 0: an accepted word has none, and its text is the format's.
use Rattle.std.specs.Prelude.{ℕ, zero, suc, ◌/◌, ◌%◌, cond, List, [], ◌∷◌, eqb}
use Rattle.std.proofs.Math.Option.{Option, none, some, map}
use Rattle.bsii_format.specs.Ascii.{ascii}
use Rattle.bsii_base38.specs.Pairs.{char_of}

-- `fuel` is at least the rest, so it never runs out
unfoldable pub spelling_from : ℕ → ℕ → List ℕ
spelling_from zero n = []
spelling_from (suc fuel) zero = []
spelling_from (suc fuel) (suc n) = char_of (suc n % 38) ∷ spelling_from fuel (suc n / 38)

-- digits to base 38, the lowest first
unfoldable pub spelling : ℕ → List ℕ
spelling n = spelling_from n n

-- none where a byte is the mark
unfoldable pub unmarked : List ℕ → Option (List ℕ)
unmarked [] = some []
unmarked (x ∷ l) = cond (eqb x 128) none (map (λ (t : List ℕ). x ∷ t) (unmarked l))

unfoldable pub encoded_text : ℕ → List ℕ
encoded_text zero = ascii "\"\""
encoded_text (suc n) = spelling (suc n)
