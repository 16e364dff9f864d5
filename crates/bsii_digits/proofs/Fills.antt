-- A text that is stored from its end on: all of it but what is still in front.
use Prim.Native.Nat.{ℕ, suc, ◌+◌, ◌-◌, ◌≤◌, ◌<◌}
use mathlib.Core.Path.{◌≡◌, refl, sym, ap, ◌∙◌}
use mathlib.Core.List.{List, [], ◌∷◌, ◌++◌, append_assoc, append-nil}
use native.Mathlib.Nat.{add-zero}
use native.Mathlib.Omega.{arith}
use lib.ListN.{set, length, length-append}
use lib.Seq.{sets, set_comm, length-sets}

-- a byte in front of those that are stored behind it
set_before : (l : List ℕ) (i j : ℕ) (a : ℕ) (xs : List ℕ) → i < j → set (sets l j xs) i a ≡ sets (set l i a) j xs
set_before l i j a [] h = refl
set_before l i j a (x ∷ xs) h =
    set_before (set l j x) i (suc j) a xs (omega arith)
    ∙ ap (λ (m : List ℕ). sets m (suc j) xs) (set_comm l j i x a (λ e. absurd (omega (arith, e))))

-- bytes in front of those that are stored behind them
pub sets_before : (l : List ℕ) (i j : ℕ) (xs ys : List ℕ) → i + length xs ≡ j → sets (sets l j ys) i xs ≡ sets l i (xs ++ ys)
sets_before l i j [] ys e = let z : j ≡ i = omega (arith, e) in ap (λ (k : ℕ). sets l k ys) z
sets_before l i j (a ∷ xs) ys e =
    ap (λ (m : List ℕ). sets m (suc i) xs) (set_before l i j a ys (omega (arith, e)))
    ∙ sets_before (set l i a) (suc i) j xs ys (omega (arith, e))

pub record Filled (old : List ℕ) (end : ℕ) (text rest : List ℕ) (i : ℕ) (new : List ℕ) : Type 0 where
  pub done : List ℕ
  pub parts : text ≡ rest ++ done
  pub place : i + length done ≡ end
  pub window : new ≡ sets old i done

pub fill_none : (l : List ℕ) (end : ℕ) (text : List ℕ) → Filled l end text text end l
fill_none l end text = record { done = []; parts = sym (append-nil text); place = add-zero end; window = refl }

-- more bytes: the rest ends with them
pub fill_more : {old new : List ℕ} {end i : ℕ} {text rest front : List ℕ} (xs : List ℕ) (k : ℕ) → Filled old end text rest i new → k + length xs ≡ i
    → rest ≡ front ++ xs → Filled old end text front k (sets new k xs)
fill_more {old} {new} {end} {i} {text} {rest} {front} xs k f h e = record {
  done = xs ++ f.done;
  parts = f.parts ∙ ap (λ (l : List ℕ). l ++ f.done) e ∙ append_assoc front xs f.done;
  place = let z = length-append xs f.done in omega (arith, f.place, h, z);
  window = ap (λ (l : List ℕ). sets l k xs) f.window ∙ sets_before old k i xs f.done h;
}

-- where the rest still has room
pub fill_room : {old new : List ℕ} {end i : ℕ} {text rest : List ℕ} → Filled old end text rest i new → length text ≤ end → length rest ≤ i
fill_room {rest = rest} f h = let e = ap length f.parts ∙ length-append rest f.done in omega (arith, f.place, e)

pub fill_length : {old new : List ℕ} {end i : ℕ} {text rest : List ℕ} → Filled old end text rest i new → length new ≡ length old
fill_length {old} {i = i} f = ap length f.window ∙ length-sets old i f.done

pub fill_within : {old new : List ℕ} {end i : ℕ} {text rest : List ℕ} → Filled old end text rest i new → end ≤ length old → i ≤ length new
fill_within f h = omega (arith, f.place, fill_length f)

-- nothing is in front
pub fill_end : {old new : List ℕ} {end i : ℕ} {text rest : List ℕ} → Filled old end text rest i new → rest ≡ [] → new ≡ sets old (end - length text) text
fill_end {old} {end = end} {i} {text} f q =
    let p : text ≡ f.done = f.parts ∙ ap (λ (l : List ℕ). l ++ f.done) q in
    let z : i ≡ end - length text = let e = ap length p in omega (arith, f.place, e) in
    f.window ∙ ap (sets old i) (sym p) ∙ ap (λ (k : ℕ). sets old k text) z

-- the rest is stored as a whole
pub fill_rest : {old new : List ℕ} {end i : ℕ} {text rest : List ℕ} → Filled old end text rest i new → length text ≤ end
    → sets new (i - length rest) rest ≡ sets old (end - length text) text
fill_rest {i = i} {rest = rest} f h =
    let r = fill_room f h in
    fill_end (fill_more {front = []} rest (i - length rest) f (omega (arith, r)) refl) refl
