-- What each case of a number's answer is in the text, and texts in brackets.
use Rattle.std.specs.Prelude.{ℕ, List, [], ◌∷◌, map, Some, None, Option}
use Rattle.bsii_format.specs.Digits.{decimal}
use Rattle.bsii_format.specs.Floats.{bits_text, minus_if, float_text, vec2_text, vec3_text, vec4_text}
use Rattle.bsii_float.specs.declared.whole.Whole.{Whole}

abbrev pub number_text : ℕ → Option Whole → List ℕ
number_text b (Some w) = minus_if w.negative (decimal w.size)
number_text b None = bits_text b

-- two, three or four of them; no other number is written
abbrev pub row_text : List (List ℕ) → List ℕ
row_text (a ∷ b ∷ []) = vec2_text a b
row_text (a ∷ b ∷ c ∷ []) = vec3_text a b c
row_text (a ∷ b ∷ c ∷ d ∷ []) = vec4_text a b c d
row_text _ = []

-- the texts of floats by their bits
abbrev pub floats_text : List ℕ → List ℕ
floats_text l = row_text (map float_text l)
