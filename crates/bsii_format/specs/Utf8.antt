-- UTF-8: the Unicode Standard, table 3-7 (Well-Formed UTF-8 Byte Sequences); FORMAT.md, "Strings".
use Rattle.std.specs.Prelude.{ℕ, Bool, true, false, ◌&&◌, cond, List, [], ◌∷◌, leb}
use Rattle.std.proofs.Math.Option.{Option, none, some}

infix 70 ◌to◌
pub record Range : Type 0 where
  pub low : ℕ
  pub high : ℕ

abbrev pub ◌to◌ : ℕ → ℕ → Range
a to b = record { low = a; high = b }

unfoldable pub within : Range → ℕ → Bool
within r x = leb r.low x && leb x r.high

-- The table's rows. No byte lies in the first range of two rows.
pub record Row : Type 0 where
  pub lead : Range
  pub trail : List Range

abbrev pub ◌then◌ : Range → List Range → Row
a then l = record { lead = a; trail = l }

infix 60 ◌then◌
unfoldable pub table3_7 : List Row
table3_7 =
    (0x00 to 0x7f then []) ∷
    (0xc2 to 0xdf then 0x80 to 0xbf ∷ []) ∷
    (0xe0 to 0xe0 then 0xa0 to 0xbf ∷ 0x80 to 0xbf ∷ []) ∷
    (0xe1 to 0xec then 0x80 to 0xbf ∷ 0x80 to 0xbf ∷ []) ∷
    (0xed to 0xed then 0x80 to 0x9f ∷ 0x80 to 0xbf ∷ []) ∷
    (0xee to 0xef then 0x80 to 0xbf ∷ 0x80 to 0xbf ∷ []) ∷
    (0xf0 to 0xf0 then 0x90 to 0xbf ∷ 0x80 to 0xbf ∷ 0x80 to 0xbf ∷ []) ∷
    (0xf1 to 0xf3 then 0x80 to 0xbf ∷ 0x80 to 0xbf ∷ 0x80 to 0xbf ∷ []) ∷
    (0xf4 to 0xf4 then 0x80 to 0x8f ∷ 0x80 to 0xbf ∷ 0x80 to 0xbf ∷ []) ∷ []

-- what has to follow the byte x at the start of a sequence: none where no row starts with it
unfoldable pub trail_of : List Row → ℕ → Option (List Range)
trail_of [] x = none
trail_of (r ∷ l) x = cond (within r.lead x) (some r.trail) (trail_of l x)

-- the byte x where the ranges l are still to come: the ranges to come after it, or none where x breaks the sequence
unfoldable pub step : Option (List Range) → ℕ → Option (List Range)
step none x = none
step (some []) x = trail_of table3_7 x
step (some (r ∷ l)) x = cond (within r x) (some l) none

unfoldable pub steps : Option (List Range) → List ℕ → Option (List Range)
steps o [] = o
steps o (x ∷ s) = steps (step o x) s

-- no range is to come: the bytes end where a sequence ends
unfoldable pub complete : Option (List Range) → Bool
complete none = false
complete (some []) = true
complete (some (r ∷ l)) = false

unfoldable pub utf8 : List ℕ → Bool
utf8 s = complete (steps (some []) s)
