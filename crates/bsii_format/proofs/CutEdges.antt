-- The statements of specs/Cuts.antt at the edges of their premises but for the length limit, from the statements alone: a premise that asks for more of the
-- bytes, or for more room, is refused here. And what `counted` says of a call's refusal.
use mathlib.Core.Path.{◌≡◌, refl, ap, subst}
use Prim.Native.Nat.{ℕ, ◌+◌, ◌≤◌}
use native.Mathlib.Omega.{arith}
use mathlib.Core.List.{List, [], ◌∷◌, ◌++◌}
use lib.ListN.{take}
use lib.Dec.{T, ltb→lt, eqb→eq}
use Rattle.bsii_format.specs.Ascii.{ascii}
use Rattle.bsii_format.specs.Replies.{number_of, malformed, invalid_header, Fault, refused, short, refuses}
use Rattle.bsii_format.specs.Calls.{Reading, reading_call, element_call}
use Rattle.bsii_format.specs.Refusals.{reading_numbers, among, counted, Within}
use Rattle.bsii_format.specs.WorkedCalls.{small_file}
use Rattle.bsii_format.specs.Cuts.{LackingIsExact, OthersAreFinal, CutsAreShort, ElementLackingIsExact}
use Rattle.bsii_format.proofs.Causes.{same_not}
use Rattle.bsii_format.proofs.Readers.{and_right}
use Rattle.bsii_format.proofs.CallRefusals.{reading_refusals}
use Rattle.bsii_format.proofs.Worked.{computes}

small : Reading
small = record { prototypes = 1; blocks = 2; next = 62 }

-- the first cut and the last one, with a table of just the words that are needed
pub shortest : CutsAreShort → (at : ℕ) × (m : ℕ) × (reading_call 3 (take 4 small_file) ≡ refuses (short at m)) × (4 + m ≤ 62)
unfolding computes small_file small
shortest h = h 3 small_file small refl 3 (omega arith) 4 (omega arith) (omega arith)

pub longest : CutsAreShort → (at : ℕ) × (m : ℕ) × (reading_call 3 (take 61 small_file) ≡ refuses (short at m)) × (61 + m ≤ 62)
unfolding computes small_file small
longest h = h 3 small_file small refl 3 (omega arith) 61 (omega arith) (omega arith)

-- one byte fewer than are lacking, and just as many
pub but_one : LackingIsExact → reading_call 3 (take 4 small_file ++ (9 ∷ 9 ∷ 9 ∷ [])) ≡ refuses (short 4 1)
unfolding computes small_file
but_one h = (h 3 (take 4 small_file) 4 4 refl).fewer (9 ∷ 9 ∷ 9 ∷ []) (omega arith) (omega arith)

pub just : LackingIsExact → (p k : ℕ) → reading_call 3 (take 61 small_file ++ (9 ∷ [])) ≡ refuses (short p k) → 61 + 1 ≤ p
unfolding computes small_file
just h = (h 3 (take 61 small_file) 61 1 refl).enough (9 ∷ []) (omega arith)

-- a file of four bytes
pub final : OthersAreFinal → reading_call 0 (ascii "SiiN" ++ (9 ∷ [])) ≡ refuses (refused invalid_header 0)
unfolding computes
final h = h 0 (ascii "SiiN") (refused invalid_header 0) refl (λ e. omega (arith, ap number_of e)) (omega arith) (9 ∷ []) (omega arith)

-- a u32 of which nothing is there
pub element_but_one : ElementLackingIsExact → element_call 2 0x27 (9 ∷ 9 ∷ 9 ∷ []) 0 ≡ refuses (short 0 1)
unfolding computes
element_but_one h = (h 2 0x27 0 [] 0 4 refl).fewer (9 ∷ 9 ∷ 9 ∷ []) (omega arith)

pub element_just : ElementLackingIsExact → (p k : ℕ) → element_call 2 0x27 (9 ∷ 9 ∷ 9 ∷ 9 ∷ []) 0 ≡ refuses (short p k) → 1 ≤ p
unfolding computes
element_just h = (h 2 0x27 0 [] 0 4 refl).enough (9 ∷ 9 ∷ 9 ∷ 9 ∷ []) (omega arith)

-- what a reading call's refusal has lacking
module _ (words : ℕ) (s : List ℕ) (f : Fault) (e : reading_call words s ≡ refuses f) where
  is_counted : T (counted f)
  is_counted = and_right (among reading_numbers f.cause) (counted f) (subst (Within reading_numbers) e (reading_refusals.only (words, s)))

  pub some_lacking : f.cause ≡ malformed → 1 ≤ f.lacking
  some_lacking n = ltb→lt 0 f.lacking (rw n at is_counted)

  pub none_lacking : (f.cause ≡ malformed → ⊥) → f.lacking ≡ 0
  none_lacking n = eqb→eq f.lacking 0 (rw (same_not f.cause malformed n) at is_counted)
