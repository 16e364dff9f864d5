-- The fold of the UTF-8 check over the bytes.
use mathlib.Core.Path.{◌≡◌, refl, sym, ap, ◌∙◌}
use Prim.Native.Nat.{ℕ, zero, suc, ◌+◌, ◌≤◌, ◌<◌}
use native.Mathlib.Numerals.{add-one}
use native.Mathlib.Omega.{arith}
use mathlib.Core.Bool.{false}
use mathlib.Core.Option.{Option, some}
use mathlib.Core.List.{List, []}
use lib.ListN.{length, drop, get_or, drop_of_length-le}
use lib.Seq.{drop-cons}
use Rattle.std.specs.Prelude.{Some, None, Option as Found}
use Rattle.std.specs.List.{AllWithin, HoldsAt}
use Rattle.std.specs.Option.{MatchOption, unwrap_or}
use Rattle.bsii_format.specs.Utf8.{Range, within, table3_7, trail_of, step, steps, complete, utf8}
use Rattle.bsii_string.specs.States.{to_come}
use Rattle.bsii_string.specs.declared.utf8.State.{State}
use Rattle.bsii_string.specs.declared.utf8.State.TheVariants.{Between, One, Two, Three, AfterE0, AfterEd, AfterF0, AfterF4, Broken}
use Rattle.bsii_string.proofs.Tables.{tabulate, between}

pub steps_more : (o : Option (List Range)) (s : List ℕ) (i : ℕ) → i < length s → steps o (drop i s) ≡ steps (step o (get_or s i 0)) (drop (i + 1) s)
unfolding steps
steps_more o s i h = rw (add-one, drop-cons s i 0)

pub steps_end : (o : Option (List Range)) (s : List ℕ) (i : ℕ) → length s ≤ i → steps o (drop i s) ≡ o
unfolding steps
steps_end o s i h = rw (drop_of_length-le s h)

-- a byte of ASCII is a whole sequence
pub ascii_more : (s : List ℕ) (i : ℕ) → i < length s → get_or s i 0 ≤ 0x7f → utf8 (drop (i + 1) s) ≡ utf8 (drop i s)
unfolding utf8 step tabulate trail_of table3_7 within
ascii_more s i h a =
    ap (λ (o : Option (List Range)). complete (steps o (drop (i + 1) s))) (between 0 128 (λ b. some []) (trail_of table3_7) refl (get_or s i 0) (omega arith) (omega arith))
    ∙ ap complete (sym (steps_more (some []) s i h))

-- so is each of the bytes in front of the first one that is no ASCII
ascii_to : (s : List ℕ) (i : ℕ) → i ≤ length s → AllWithin (λ b. b ≤ 0x7f) s 0 i → utf8 (drop i s) ≡ utf8 s
ascii_to s zero h a = refl
ascii_to s (suc i) h a =
    ap (λ (n : ℕ). utf8 (drop n s)) (sym (add-one i))
    ∙ ascii_more s i (omega arith) (a i 0 (omega arith) (omega arith))
    ∙ ascii_to s i (omega arith) (λ k d l m. a k d l (omega arith))

pub ascii_run : (s : List ℕ) (first : Found ℕ)
    → MatchOption first (AllWithin (λ b. b ≤ 0x7f) s 0 (length s)) (λ i. (i < length s) × HoldsAt (λ b. 0x7f < b) s i × AllWithin (λ b. b ≤ 0x7f) s 0 i)
    → utf8 (drop (unwrap_or first (length s)) s) ≡ utf8 s
ascii_run s None h = ascii_to s (length s) (omega arith) h
ascii_run s (Some i) h = ascii_to s i (omega (arith, h.0)) h.2

-- only the first state ends where a sequence ends
pub not_between : (q : State) → (q ≡ Between → ⊥) → complete (to_come q) ≡ false
unfolding complete
not_between Between h = absurd (h refl)
not_between One h = refl
not_between Two h = refl
not_between Three h = refl
not_between AfterE0 h = refl
not_between AfterEd h = refl
not_between AfterF0 h = refl
not_between AfterF4 h = refl
not_between Broken h = refl
