-- Stores one after the other, and a store as a write into the window.
use Prim.Native.Nat.{ℕ, ◌+◌, ◌-◌, ◌≤◌, ◌<◌}
use mathlib.Core.Path.{◌≡◌, refl, sym, ap, ◌∙◌}
use mathlib.Core.List.{List, ◌++◌}
use native.Mathlib.Nat.{zero-add}
use native.Mathlib.Omega.{arith}
use lib.ListN.{length, take, length-append}
use lib.Seq.{sets, length-sets}
use Rattle.bsii_format.proofs.Lists.{sets_append}
use Rattle.bsii_window.specs.Window.{Wrote}
use Rattle.bsii_window.specs.Stored.{Stored}
use Rattle.bsii_window.specs.Overlaps.{OverlapOf}
use Rattle.bsii_window.specs.declared.window.Overlap.{Overlap}
use Rattle.bsii_window.specs.declared.window.Overlap.TheVariants as place
use Rattle.bsii_window.proofs.Laws.{capped_fits, starts, inside_by, stored}

-- one behind the other
pub stored_then : {a b c : List ℕ} {at m r : ℕ} {x y : List ℕ} → Stored a at x m b → Stored b m y r c → Stored a at (x ++ y) r c
stored_then {a} {b} {c} {at} {m} {r} {x} {y} f g =
    record {
      next = let e = length-append x y in omega (arith, f.next, g.next, e);
      output = g.output ∙ rw (f.output, f.next) (sets_append a at x y);
    }

pub stored_being : {a b : List ℕ} {at r : ℕ} {x y : List ℕ} → x ≡ y → Stored a at x r b → Stored a at y r b
stored_being e f = rw e at f

pub stored_same : {a b : List ℕ} {at r : ℕ} {x : List ℕ} → Stored a at x r b → length b ≡ length a
stored_same {a} {b} {at} {r} {x} f = ap length f.output ∙ length-sets a at x

-- A store at the place of a text of n bytes at most that lies in the window: its answer, counted from 2^63 on, is the position behind the text.
pub stored_inside : {a b : List ℕ} {at r start : ℕ} (n : ℕ) {x : List ℕ} {p : Overlap} → p ≡ place.Inside start → OverlapOf (length a) at n p → Stored a start x r b → r ≤ start + n
    → length a < 0x8000_0000_0000_0000 → Wrote a at x (r + 0x8000_0000_0000_0000) b
stored_inside {a} {at = at} {r} {start} n {x} q h f k l =
    let g = starts n q h in
    let e : r + 0x8000_0000_0000_0000 ≡ at + length x = omega (arith, f.next, g.0) in
    inside_by n q h refl (e ∙ sym (capped_fits at (length x) (omega (arith, f.next, g.0, g.1)))) f.output l

-- a text that is filled in up to its end
pub stored_filled : {a b : List ℕ} {to n k : ℕ} {x : List ℕ} → n ≡ length x → k ≡ n → b ≡ sets a (to + n - k) x → Stored a to x (to + n) b
stored_filled {a} {to = to} {n} {k} {x} e z f =
    let s : to + n - k ≡ to = omega (arith, z) in
    record { next = ap (λ (m : ℕ). to + m) e; output = f ∙ ap (λ (i : ℕ). sets a i x) s }

-- a text that was stored at the start, read back
pub stored_back : {a b : List ℕ} {r : ℕ} {x : List ℕ} → Stored a 0 x r b → r ≤ length a → take r b ≡ x
stored_back {a} {r = r} {x} f h = ap (take r) f.output ∙ stored a x r refl (f.next ∙ zero-add (length x)) h
