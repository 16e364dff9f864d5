-- A quoted string run by run.
use Prim.Native.Nat.{ℕ, suc, ◌+◌, ◌-◌, ◌≤◌, ◌<◌}
use mathlib.Core.Path.{◌≡◌, refl, sym, ap, ◌∙◌}
use mathlib.Core.Bool.{Bool, true, false, cond}
use mathlib.Core.List.{List, [], ◌∷◌, ◌++◌}
use native.Mathlib.Omega.{arith}
use lib.ListN.{length, take, drop, get_or, length-drop, drop_of_length-le}
use lib.Seq.{drop-cons, drop-drop}
use mathlib.Core.Logic.{⊎_elim}
use lib.Dec.{ltb}
use borrow.Author.Tests.{lt-ltb, le-ltb}
use Rattle.std.proofs.Common.{Option, Some, None}
use Rattle.std.specs.Prelude.{not}
use Rattle.std.specs.List.{position_or_len}
use Rattle.std.specs.Option.{unwrap_or}
use Rattle.bsii_format.proofs.Lists.{lt_or_le}
use Rattle.bsii_format.specs.Utf8.{◌to◌, within}
use Rattle.bsii_format.specs.Text.{escaped}
use Rattle.bsii_write.specs.Runs.{escape, raw, run_end, first_escaped, run}

-- ---- runs

raw_short : (b : Bool) (x : ℕ) (s : List ℕ) → within (32 to 127) x ≡ b → raw s ≤ length s → raw (x ∷ s) ≤ suc (length s)
unfolding raw
raw_short true x s e h = rw e (omega arith)
raw_short false x s e h = rw e (omega arith)

raw_le : (s : List ℕ) → raw s ≤ length s
unfolding raw
raw_le [] = omega arith
raw_le (x ∷ s) = raw_short (within (32 to 127) x) x s refl (raw_le s)

-- the first byte that is not raw, or the length
first_raw : (b : Bool) (x : ℕ) (s : List ℕ) → within (32 to 127) x ≡ b → position_or_len (λ y. not (within (32 to 127) y)) s ≡ raw s
    → position_or_len (λ y. not (within (32 to 127) y)) (x ∷ s) ≡ raw (x ∷ s)
unfolding raw
first_raw true x s e h = rw e (omega (arith, h))
first_raw false x s e h = rw e refl

first_not_raw : (s : List ℕ) → position_or_len (λ y. not (within (32 to 127) y)) s ≡ raw s
unfolding raw
first_not_raw [] = refl
first_not_raw (x ∷ s) = first_raw (within (32 to 127) x) x s refl (first_not_raw s)

first_or : (k n : ℕ) → k ≤ n → unwrap_or (cond (ltb k n) (Some k) None) n ≡ k
first_or k n h = ⊎_elim (λ l. rw (lt-ltb k n l) refl) (λ l. let z : n ≡ k = omega arith in rw (le-ltb k n l) z) (lt_or_le k n)

pub run_found : (s : List ℕ) (i : ℕ) (r : Option ℕ) (n : ℕ) → n ≡ length (drop i s)
    → r ≡ cond (ltb (position_or_len (λ y. not (within (32 to 127) y)) (drop i s)) (length (drop i s)))
    (Some (position_or_len (λ y. not (within (32 to 127) y)) (drop i s))) None
    → i + unwrap_or r n ≡ run_end s i
unfolding run_end
run_found s i r n z e =
    let k = raw (drop i s) in
    let f : r ≡ cond (ltb k (length (drop i s))) (Some k) None = rw (first_not_raw (drop i s)) at e in
    ap (λ (m : ℕ). i + m) (rw (f, z) (first_or k (length (drop i s)) (raw_le (drop i s))))

pub run_after : (s : List ℕ) (i : ℕ) → i ≤ run_end s i
unfolding run_end
run_after s i = omega arith

pub run_inside : (s : List ℕ) (i : ℕ) → i ≤ length s → run_end s i ≤ length s
unfolding run_end
run_inside s i h = let e = raw_le (drop i s) in let d = length-drop i s in omega arith

rest_of : (b : Bool) (x : ℕ) (s : List ℕ) → within (32 to 127) x ≡ b
    → (escaped s ≡ take (raw s) s ++ first_escaped (drop (raw s) s) ++ escaped (drop (suc (raw s)) s))
    → escaped (x ∷ s) ≡ take (raw (x ∷ s)) (x ∷ s) ++ first_escaped (drop (raw (x ∷ s)) (x ∷ s)) ++ escaped (drop (suc (raw (x ∷ s))) (x ∷ s))
unfolding escaped raw first_escaped escape
rest_of true x s e h = rw e (ap (λ (l : List ℕ). x ∷ l) h)
rest_of false x s e h = rw e refl

front : (s : List ℕ) → escaped s ≡ take (raw s) s ++ first_escaped (drop (raw s) s) ++ escaped (drop (suc (raw s)) s)
unfolding escaped raw first_escaped
front [] = refl
front (x ∷ s) = rest_of (within (32 to 127) x) x s refl (front s)

module _ (s : List ℕ) (i : ℕ) where
  split : (e : ℕ) → e ≡ i + raw (drop i s) → escaped (drop i s) ≡ run s i e ++ escaped (drop (e + 1) s)
  unfolding run
  split e h =
      let w : e - i ≡ raw (drop i s) = omega arith in
      let z : i + suc (raw (drop i s)) ≡ e + 1 = omega arith in
      front (drop i s)
      ∙ ap (λ (l : List ℕ). take (raw (drop i s)) (drop i s) ++ first_escaped l ++ escaped (drop (suc (raw (drop i s))) (drop i s))) (drop-drop (raw (drop i s)) i s ∙ ap (λ (k : ℕ). drop k s) (sym h))
      ∙ ap (λ (l : List ℕ). take (raw (drop i s)) (drop i s) ++ first_escaped (drop e s) ++ escaped l) (drop-drop (suc (raw (drop i s))) i s ∙ ap (λ (k : ℕ). drop k s) z)
      ∙ ap (λ (k : ℕ). take k (drop i s) ++ first_escaped (drop e s) ++ escaped (drop (e + 1) s)) (sym w)

  -- a run, and what is behind the byte that ends it
  pub run_then : (e : ℕ) → e ≡ run_end s i → escaped (drop i s) ≡ run s i e ++ escaped (drop (e + 1) s)
  unfolding run_end
  run_then e h = split e h

pub run_escape : (s : List ℕ) (i e : ℕ) → e < length s → run s i e ≡ take (e - i) (drop i s) ++ escape (get_or s e 0)
unfolding run first_escaped
run_escape s i e h = ap (λ (l : List ℕ). take (e - i) (drop i s) ++ first_escaped l) (drop-cons s e 0 h)

pub run_last : (s : List ℕ) (i e : ℕ) → length s ≤ e → run s i e ≡ take (e - i) (drop i s) ++ []
unfolding run first_escaped
run_last s i e h = ap (λ (l : List ℕ). take (e - i) (drop i s) ++ first_escaped l) (drop_of_length-le s {i = e} h)
