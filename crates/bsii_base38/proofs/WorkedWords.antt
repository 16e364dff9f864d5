-- The worked words and entries, by computation.
use mathlib.Core.Path.{◌≡◌, refl}
use Rattle.bsii_format.specs.Strings.{char_encodings, digit_then, base38_from, base38}
use Rattle.bsii_format.specs.Worked.{Hold}
use Rattle.bsii_base38.specs.Pairs.{char_of, pair_of, low_zero, has_zero}
use Rattle.bsii_base38.specs.WorkedWords.{words, entries, marks}

pub words_hold : Hold words × Hold entries × (marks 1444 ≡ 75)
unfolding words entries marks base38 base38_from digit_then char_encodings pair_of char_of has_zero low_zero
words_hold = (refl, refl, refl)
