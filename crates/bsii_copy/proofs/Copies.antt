-- A text that is copied piece by piece, from its front on.
use Prim.Native.Nat.{ℕ, suc, ◌+◌, ◌-◌, ◌≤◌, ◌<◌}
use mathlib.Core.Path.{◌≡◌, refl, sym, ap, ◌∙◌}
use mathlib.Core.List.{List, [], ◌∷◌, ◌++◌}
use native.Mathlib.Omega.{arith}
use lib.ListN.{set, length, get_or, take, drop, length-drop, take-append-drop}
use lib.Seq.{sets, take-suc, take-suc-set, set-set, length-take-le, take_all, drop-cons, get_or-drop, take-add}
use Rattle.bsii_digits.proofs.Fills.{sets_before}
use Rattle.bsii_copy.proofs.Stores.{stored_more}

-- ---- byte by byte, from an index of the text on

-- one byte more of a piece
pub read_more : (piece text : List ℕ) (from i : ℕ) → i < length piece → from + i < length text → take i piece ≡ take i (drop from text)
    → take (i + 1) (set piece i (get_or text (from + i) 0)) ≡ take (i + 1) (drop from text)
read_more piece text from i h k e =
    let z : i + 1 ≡ suc i = omega arith in
    let d = length-drop from text in
    rw z
    (take-suc-set piece i (get_or text (from + i) 0) h
    ∙ ap (λ (l : List ℕ). l ++ (get_or text (from + i) 0 ∷ [])) e
    ∙ ap (λ (x : ℕ). take i (drop from text) ++ (x ∷ [])) (sym (get_or-drop from text i 0))
    ∙ sym (take-suc (drop from text) i 0 (omega arith)))

-- the text's last one
pub last : (l : List ℕ) (to : ℕ) (text : List ℕ) (from : ℕ) → length text ≡ from + 1 → set l to (get_or text from 0) ≡ sets l to (drop from text)
last l to text from h =
    let z = length-drop from text in
    sym (ap (λ (t : List ℕ). sets l to (take 1 t)) (drop-cons text from 0 (omega arith))) ∙ ap (sets l to) (take_all 1 (drop from text) (omega arith))

-- ---- piece by piece

behind : (l : List ℕ) (to : ℕ) (text : List ℕ) (k : ℕ) (y : List ℕ) {m : List ℕ} → k ≤ length text → m ≡ sets l to (take k text)
    → sets m (to + k) y ≡ sets l to (take k text ++ y)
behind l to text k y h e = stored_more l to (take k text) y (to + k) e (ap (λ (n : ℕ). to + n) (sym (length-take-le k text h)))

-- k bytes more
pub piece_stored : (l : List ℕ) (to : ℕ) (text : List ℕ) (i k : ℕ) {m n : List ℕ} → i ≤ length text → m ≡ sets l to (take i text)
    → n ≡ sets m (to + i) (take k (drop i text)) → n ≡ sets l to (take (i + k) text)
piece_stored l to text i k h e f = f ∙ behind l to text i (take k (drop i text)) h e ∙ ap (sets l to) (sym (take-add i k text))

-- all that is left, behind k bytes
pub rest_stored : (l : List ℕ) (to : ℕ) (text : List ℕ) (k : ℕ) {m : List ℕ} → k ≤ length text → m ≡ sets l to (take k text) → sets m (to + k) (drop k text) ≡ sets l to text
rest_stored l to text k h e = behind l to text k (drop k text) h e ∙ ap (sets l to) (take-append-drop k text)

-- ---- pieces that overlap

-- what is stored last stays
sets_over : (l : List ℕ) (j : ℕ) (xs ys : List ℕ) → length xs ≤ length ys → sets (sets l j xs) j ys ≡ sets l j ys
sets_over l j [] ys h = refl
sets_over l j (x ∷ xs) [] h = absurd (omega arith)
sets_over l j (x ∷ xs) (y ∷ ys) h =
    let z : j + 1 ≡ suc j = omega arith in
    ap (λ (m : List ℕ). sets m (suc j) ys) (sets_before (set l j x) j (suc j) (y ∷ []) xs z ∙ ap (λ (m : List ℕ). sets m (suc j) xs) (set-set l j x y))
    ∙ sets_over (set l j y) (suc j) xs ys (omega arith)

-- all from byte k on, behind the first m bytes
pub overlapped : (l : List ℕ) (to : ℕ) (text : List ℕ) (k m : ℕ) {a b : List ℕ} → k ≤ m → m ≤ length text → a ≡ sets l to (take m text)
    → b ≡ sets a (to + k) (drop k text) → b ≡ sets l to text
overlapped l to text k m {a} h g e f =
    let middle = take (m - k) (drop k text) in
    let z : m ≡ k + (m - k) = omega arith in
    let front : sets (sets l to (take k text)) (to + k) middle ≡ sets l to (take m text) =
    piece_stored l to text k (m - k) (omega arith) refl refl ∙ ap (λ (n : ℕ). sets l to (take n text)) (sym z)
    in
    let short : length middle ≤ length (drop k text) = let y = length-drop k text in let x = length-take-le (m - k) (drop k text) (omega arith) in omega arith in
    f
    ∙ ap (λ (n : List ℕ). sets n (to + k) (drop k text)) (e ∙ sym front)
    ∙ sets_over (sets l to (take k text)) (to + k) middle (drop k text) short
    ∙ rest_stored l to text k (omega arith) refl

-- the last k bytes
pub last_stored : (l : List ℕ) (to : ℕ) (text : List ℕ) (k m : ℕ) {a b : List ℕ} → k ≤ length text → length text ≤ m + k → m ≤ length text → a ≡ sets l to (take m text)
    → b ≡ sets a (to + (length text - k)) (take k (drop (length text - k) text)) → b ≡ sets l to text
last_stored l to text k m {a} h g j e f =
    let at = length text - k in
    let z = length-drop at text in
    overlapped l to text at m (omega arith) j e (f ∙ ap (sets a (to + at)) (take_all k (drop at text) (omega arith)))
