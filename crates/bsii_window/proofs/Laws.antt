-- Writes one after the other.
use Prim.Native.Nat.{ℕ, suc, ◌+◌, ◌-◌, ◌≤◌, ◌<◌, min}
use mathlib.Core.Path.{◌≡◌, refl, sym, ap, ◌∙◌, subst}
use mathlib.Core.Logic.{⊎_elim}
use mathlib.Core.List.{List, [], ◌∷◌, ◌++◌}
use native.Mathlib.Nat.{add-zero, zero-add}
use native.Mathlib.Omega.{arith}
use lib.ListN.{set, length, get_or, take, drop, length-append, length-drop, take-append-drop, drop_of_length-le}
use lib.Seq.{sets, length-take-le, take-suc, take_all, set_out, length-sets, drop-append-le, drop-append-add, drop-nil, sets-eq, take_at}
use borrow.Author.Tests.{le-leb, lt-leb}
pub use Rattle.bsii_format.proofs.Lists.{bool_cases, lt_or_le, sets_append}
use Rattle.bsii_window.specs.Window.{capped, written, Wrote}
use Rattle.bsii_window.specs.Overlaps.{OverlapOf}
use Rattle.bsii_window.specs.declared.window.Overlap.{Overlap}
use Rattle.bsii_window.specs.declared.window.Overlap.TheVariants as place

-- ---- positions

pub capped_less : (a b : ℕ) → a + b < 0xffff_ffff_ffff_ffff → capped a b ≡ a + b
unfolding capped
capped_less a b h = simp (lt-leb 0xffff_ffff_ffff_ffff (a + b) h)

pub capped_top : (a b : ℕ) → 0xffff_ffff_ffff_ffff ≤ a + b → capped a b ≡ 0xffff_ffff_ffff_ffff
unfolding capped
capped_top a b h = simp (le-leb 0xffff_ffff_ffff_ffff (a + b) h)

pub capped_fits : (a b : ℕ) → a + b ≤ 0xffff_ffff_ffff_ffff → capped a b ≡ a + b
capped_fits a b h = ⊎_elim (capped_less a b) (λ l. capped_top a b l ∙ omega arith) (lt_or_le (a + b) 0xffff_ffff_ffff_ffff)

pub capped_is : (a b : ℕ) → capped a b ≡ min (a + b) 0xffff_ffff_ffff_ffff
capped_is a b =
    ⊎_elim (λ l. capped_less a b l ∙ omega arith) (λ l. capped_top a b l ∙ omega arith) (lt_or_le (a + b) 0xffff_ffff_ffff_ffff)

capped_twice : (a b c : ℕ) → capped (capped a b) c ≡ capped a (b + c)
capped_twice a b c =
    ⊎_elim
    (λ l. rw (capped_less a b l)
    (⊎_elim
    (λ k. capped_less (a + b) c k ∙ let z : a + b + c ≡ a + (b + c) = omega arith in z ∙ sym (capped_less a (b + c) (omega arith)))
    (λ k. capped_top (a + b) c k ∙ sym (capped_top a (b + c) (omega arith)))
    (lt_or_le (a + b + c) 0xffff_ffff_ffff_ffff)))
    (λ l. rw (capped_top a b l) (capped_top 0xffff_ffff_ffff_ffff c (omega arith) ∙ sym (capped_top a (b + c) (omega arith))))
    (lt_or_le (a + b) 0xffff_ffff_ffff_ffff)

pub capped_low : (a b : ℕ) → capped a b ≤ 0x8000_0000_0000_0000 → a + b ≤ 0x8000_0000_0000_0000
capped_low a b h =
    ⊎_elim
    (λ l. let e = capped_less a b l in omega arith)
    (λ l. let e = capped_top a b l in absurd (omega arith))
    (lt_or_le (a + b) 0xffff_ffff_ffff_ffff)

pub capped_high : (a b : ℕ) → 0x8000_0000_0000_0000 < capped a b → 0x8000_0000_0000_0000 < a + b
capped_high a b h =
    ⊎_elim
    (λ l. let e = capped_less a b l in omega arith)
    (λ l. omega arith)
    (lt_or_le (a + b) 0xffff_ffff_ffff_ffff)

-- ---- windows

pub sets_out : (l : List ℕ) (i : ℕ) (vs : List ℕ) → length l ≤ i → sets l i vs ≡ l
sets_out l i [] h = refl
sets_out l i (a ∷ vs) h = let e = set_out l i a h in rw e (sets_out l (suc i) vs (omega arith))

-- by the place of a text: from the window's start on, or in front of it by n bytes
pub written_in : (l : List ℕ) (at : ℕ) (x : List ℕ) → 0x8000_0000_0000_0000 ≤ at → written l at x ≡ sets l (at - 0x8000_0000_0000_0000) x
unfolding written
written_in l at x h = let z : 0x8000_0000_0000_0000 - at ≡ 0 = omega arith in rw z refl

pub written_before : (l : List ℕ) (at : ℕ) (x : List ℕ) → at ≤ 0x8000_0000_0000_0000 → written l at x ≡ sets l 0 (drop (0x8000_0000_0000_0000 - at) x)
unfolding written
written_before l at x h = let z : at - 0x8000_0000_0000_0000 ≡ 0 = omega arith in rw z refl

-- nothing of a text that ends in front of the window, and nothing of one that starts past its end
pub written_none : (l : List ℕ) (at : ℕ) (x : List ℕ) → at + length x ≤ 0x8000_0000_0000_0000 → written l at x ≡ l
written_none l at x h =
    written_before l at x (omega arith) ∙ ap (sets l 0) (drop_of_length-le x {i = 0x8000_0000_0000_0000 - at} (omega arith))

pub written_past : (l : List ℕ) (at : ℕ) (x : List ℕ) → 0x8000_0000_0000_0000 ≤ at → length l ≤ at - 0x8000_0000_0000_0000 → written l at x ≡ l
written_past l at x h k = written_in l at x h ∙ sets_out l (at - 0x8000_0000_0000_0000) x k

length_written : (l : List ℕ) (at : ℕ) (x : List ℕ) → length (written l at x) ≡ length l
unfolding written
length_written l at x = length-sets l (at - 0x8000_0000_0000_0000) (drop (0x8000_0000_0000_0000 - at) x)

-- two texts, the second one behind the first
module _ (l : List ℕ) (at : ℕ) (x y : List ℕ) where
  within : 0x8000_0000_0000_0000 ≤ at → written (written l at x) (at + length x) y ≡ written l at (x ++ y)
  within h =
      let z : at + length x - 0x8000_0000_0000_0000 ≡ at - 0x8000_0000_0000_0000 + length x = omega arith in
      ap (λ (m : List ℕ). written m (at + length x) y) (written_in l at x h)
      ∙ written_in (sets l (at - 0x8000_0000_0000_0000) x) (at + length x) y (omega arith)
      ∙ ap (λ (i : ℕ). sets (sets l (at - 0x8000_0000_0000_0000) x) i y) z
      ∙ sets_append l (at - 0x8000_0000_0000_0000) x y
      ∙ sym (written_in l at (x ++ y) h)

  in_front : at + length x ≤ 0x8000_0000_0000_0000 → written (written l at x) (at + length x) y ≡ written l at (x ++ y)
  in_front h =
      let z : 0x8000_0000_0000_0000 - at ≡ length x + (0x8000_0000_0000_0000 - (at + length x)) = omega arith in
      ap (λ (m : List ℕ). written m (at + length x) y) (written_none l at x h)
      ∙ written_before l (at + length x) y h
      ∙ ap (sets l 0) (sym (drop-append-add x y (0x8000_0000_0000_0000 - (at + length x))) ∙ ap (λ (k : ℕ). drop k (x ++ y)) (sym z))
      ∙ sym (written_before l at (x ++ y) (omega arith))

  across : (d : List ℕ) → d ≡ drop (0x8000_0000_0000_0000 - at) x → at ≤ 0x8000_0000_0000_0000 → length d ≡ at + length x - 0x8000_0000_0000_0000 → 0x8000_0000_0000_0000 ≤ at + length x
      → written (written l at x) (at + length x) y ≡ written l at (x ++ y)
  across d e h k g =
      ap (λ (m : List ℕ). written m (at + length x) y) (written_before l at x h ∙ ap (sets l 0) (sym e))
      ∙ written_in (sets l 0 d) (at + length x) y g
      ∙ ap (λ (i : ℕ). sets (sets l 0 d) i y) (sym k)
      ∙ ap (λ (i : ℕ). sets (sets l 0 d) i y) (sym (zero-add (length d)))
      ∙ sets_append l 0 d y
      ∙ ap (λ (z : List ℕ). sets l 0 (z ++ y)) e
      ∙ ap (sets l 0) (sym (drop-append-le (0x8000_0000_0000_0000 - at) x y (omega arith)))
      ∙ sym (written_before l at (x ++ y) h)

  starts_before : at < 0x8000_0000_0000_0000 → written (written l at x) (at + length x) y ≡ written l at (x ++ y)
  starts_before h =
      ⊎_elim
      (λ g. in_front (omega arith))
      (λ g. across (drop (0x8000_0000_0000_0000 - at) x) refl (omega arith) (length-drop (0x8000_0000_0000_0000 - at) x ∙ omega arith) g)
      (lt_or_le (at + length x) 0x8000_0000_0000_0000)

  behind : written (written l at x) (at + length x) y ≡ written l at (x ++ y)
  behind = ⊎_elim starts_before within (lt_or_le at 0x8000_0000_0000_0000)

  -- a position that stays where it is lies past the window, and so does the one that it stands for
  behind_capped : length l < 0x8000_0000_0000_0000 → written (written l at x) (capped at (length x)) y ≡ written l at (x ++ y)
  behind_capped h =
      ⊎_elim
      (λ k. rw (capped_less at (length x) k) behind)
      (λ k.
      let e = length_written l at x in
      rw (capped_top at (length x) k)
      (written_past (written l at x) 0xffff_ffff_ffff_ffff y (omega arith) (omega arith)
      ∙ sym (written_past (written l at x) (at + length x) y (omega arith) (omega arith))
      ∙ behind))
      (lt_or_le (at + length x) 0xffff_ffff_ffff_ffff)

-- ---- writes

-- one behind the other
pub then : {a b c : List ℕ} {at m r : ℕ} {x y : List ℕ} → Wrote a at x m b → Wrote b m y r c → Wrote a at (x ++ y) r c
then {a} {b} {c} {at} {m} {r} {x} {y} f g =
    record {
      next = g.next ∙ rw (f.next, length-append) (capped_twice at (length x) (length y));
      window = g.window ∙ rw (f.window, f.next) (behind_capped a at x y f.room);
      room = f.room;
    }

pub being : {a b : List ℕ} {at r : ℕ} {x y : List ℕ} → x ≡ y → Wrote a at x r b → Wrote a at y r b
being e f = rw e at f

pub same : {a b : List ℕ} {at r : ℕ} {x : List ℕ} → Wrote a at x r b → length b ≡ length a
same {a} {b} {at} {r} {x} f = ap length f.window ∙ length_written a at x

-- Nothing: a position that a writer answered is one that it could have been given.
pub nothing : {a : List ℕ} {at r : ℕ} → r ≡ capped at 0 → length a < 0x8000_0000_0000_0000 → Wrote a at [] r a
unfolding written
nothing {a} {at} e h = record { next = e; window = ap (sets a (at - 0x8000_0000_0000_0000)) (sym (drop-nil (0x8000_0000_0000_0000 - at))); room = h }

-- a position that was answered is at most the last one, so that nothing written there leaves it where it is
pub stays : {a b : List ℕ} {at r : ℕ} {x : List ℕ} → Wrote a at x r b → capped r 0 ≡ r
stays {a} {b} {at} {r} {x} f = rw f.next (capped_twice at (length x) 0 ∙ ap (capped at) (add-zero (length x)))

-- a text past the window's end, by the place of n bytes
pub past_by : {a : List ℕ} {at r : ℕ} (n : ℕ) {m : ℕ} {x : List ℕ} {p : Overlap} → p ≡ place.Past → OverlapOf (length a) at n p → m ≡ length x → r ≡ capped at m
    → length a < 0x8000_0000_0000_0000 → Wrote a at x r a
past_by {a} {at} n {x = x} q h k e l =
    let g : length a + 0x8000_0000_0000_0000 ≤ at = subst (OverlapOf (length a) at n) q h in
    record { next = e ∙ ap (capped at) k; window = sym (written_past a at x (omega arith) (omega arith)); room = l }

-- its own place
pub past : {a : List ℕ} {at r n : ℕ} {x : List ℕ} {p : Overlap} → p ≡ place.Past → OverlapOf (length a) at n p → n ≡ length x → r ≡ capped at n
    → length a < 0x8000_0000_0000_0000 → Wrote a at x r a
past {n = n} q h k e l = past_by n q h k e l

-- where a text of n bytes starts, if all of it lies in the window
pub starts : {room at start : ℕ} (n : ℕ) {p : Overlap} → p ≡ place.Inside start → OverlapOf room at n p → (at ≡ start + 0x8000_0000_0000_0000) × (start + n ≤ room)
starts {room} {at} n q h = subst (OverlapOf room at n) q h

pub inside_by : {a b : List ℕ} {at r start : ℕ} (n : ℕ) {m : ℕ} {x : List ℕ} {p : Overlap} → p ≡ place.Inside start → OverlapOf (length a) at n p → m ≡ length x
    → r ≡ capped at m → b ≡ sets a start x → length a < 0x8000_0000_0000_0000 → Wrote a at x r b
inside_by {a} {at = at} {start = start} n {x = x} q h k e w l =
    let g = starts n q h in
    let z : start ≡ at - 0x8000_0000_0000_0000 = omega (arith, g.0) in
    record { next = e ∙ ap (capped at) k; window = w ∙ ap (λ (i : ℕ). sets a i x) z ∙ sym (written_in a at x (omega (arith, g.0))); room = l }

-- the position behind it, without a test: no slice is so long that it could stay where it is
pub inside_sum : {a b : List ℕ} {at n start : ℕ} {x : List ℕ} {p : Overlap} → p ≡ place.Inside start → OverlapOf (length a) at n p → n ≡ length x
    → b ≡ sets a start x → length a < 0x8000_0000_0000_0000 → Wrote a at x (at + n) b
inside_sum {at = at} {n} q h k w l = let g = starts n q h in inside_by n q h k (sym (capped_fits at n (omega (arith, g)))) w l

-- ---- bytes that are stored one by one

pub more : (l : List ℕ) (at : ℕ) (text : List ℕ) (i : ℕ) → i < length text → set (sets l at (take i text)) (at + i) (get_or text i 0) ≡ sets l at (take (i + 1) text)
more l at text i h =
    let z : length (take i text) ≡ i = length-take-le i text (omega arith) in
    ap (λ (k : ℕ). set (sets l at (take i text)) (at + k) (get_or text i 0)) (sym z)
    ∙ sets_append l at (take i text) (get_or text i 0 ∷ [])
    ∙ ap (sets l at) (sym (take-suc text i 0 h) ∙ ap (λ (k : ℕ). take k text) (let e : suc i ≡ i + 1 = omega arith in e))

-- as many as there is room for are as good as all
pub enough : (l : List ℕ) (at : ℕ) (text : List ℕ) (n : ℕ) → at ≤ length l → n ≡ min (length l - at) (length text) → sets l at (take n text) ≡ sets l at text
enough l at text n h e =
    ⊎_elim
    (λ k.
    let z : length (take n text) ≡ n = length-take-le n text (omega arith) in
    let out : length (sets l at (take n text)) ≤ at + length (take n text) = let q = length-sets l at (take n text) in omega arith in
    sym (sets_out (sets l at (take n text)) (at + length (take n text)) (drop n text) out)
    ∙ sets_append l at (take n text) (drop n text)
    ∙ ap (sets l at) (take-append-drop n text))
    (λ k. ap (sets l at) (take_all n text (omega arith)))
    (lt_or_le (length l - at) (length text))

-- a part up to a slice's end
pub rest : (n : ℕ) (l : List ℕ) → take (length l - n) (drop n l) ≡ drop n l
rest n l = let e = length-drop n l in take_all (length l - n) (drop n l) (omega arith)

-- a text that was stored at the start, read back
pub stored : (l x : List ℕ) {i : ℕ} (n : ℕ) → i ≡ 0 → n ≡ length x → n ≤ length l → take n (sets l i x) ≡ x
stored l x n z e h =
    ap (λ (i : ℕ). take n (sets l i x)) z
    ∙ ap (take n) (sets-eq x l 0 (omega (arith, e)))
    ∙ take_at x (drop (0 + length x) l) n (sym e)
