use mathlib.Core.Path.{refl}
use Rattle.bsii_format.specs.Strings.{char_encodings}
use Rattle.bsii_digits.proofs.Tables.{holds}
use Rattle.bsii_base38.specs.Pairs.{char_of, pair_of}
use Rattle.bsii_base38.proofs.Rule.{rule}
use Rattle.bsii_base38.proofs.CharPairs.new.Goals as goal

pub invariant_of-result : goal.invariant_of-result
unfolding holds pair_of char_of char_encodings
invariant_of-result c = record { rule = rule _ refl }
