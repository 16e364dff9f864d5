-- Worked words and entries of the table, read off document 02; proofs/WorkedWords.antt computes them.
use Rattle.std.specs.Prelude.{ℕ, zero, suc, cond, List, [], ◌∷◌}
use Rattle.std.proofs.Math.Option.{Option, none, some}
use Rattle.bsii_format.specs.Ascii.{ascii}
use Rattle.bsii_format.specs.Strings.{base38}
use Rattle.bsii_format.specs.Worked.{Fact, ◌says◌}
use Rattle.bsii_base38.specs.Pairs.{pair_of, has_zero}

-- "The last, single digit needs care: above it the rest is zero, which is no fault": 5, 37 and 2927 have it. 2889 is 2 × 1444 + 1, its middle digit is 0
unfoldable pub words : List (Fact (Option (List ℕ)))
words =
    base38 5 says some (ascii "4") ∷
    base38 37 says some (ascii "_") ∷
    base38 38 says none ∷
    base38 76 says none ∷
    base38 1444 says none ∷
    base38 2888 says none ∷
    base38 2889 says none ∷
    base38 2927 says some (ascii "001") ∷
    base38 111343 says some (ascii "2301") ∷
    []

-- "with a mark where a digit is zero": both, the upper one, the lower one, neither
unfoldable pub entries : List (Fact ℕ)
entries =
    pair_of 0 says 0x8080 ∷
    pair_of 1 says 0x8030 ∷
    pair_of 38 says 0x3080 ∷
    pair_of 39 says 0x3030 ∷
    pair_of 40 says 0x3031 ∷
    pair_of 1443 says 0x5f5f ∷
    []

-- how many of the entries below n have a mark
unfoldable pub marks : ℕ → ℕ
marks zero = 0
marks (suc n) = cond (has_zero n) (suc (marks n)) (marks n)
