-- The place of a string: its bytes stand behind its u32 length.
use mathlib.Core.Path.{◌≡◌, sym, ap, ap₂, ◌∙◌}
use Prim.Native.Nat.{ℕ, ◌+◌, ◌-◌, ◌≤◌}
use native.Mathlib.Omega.{arith}
use mathlib.Core.List.{List}
use lib.ListN.{length, take, drop, length-drop}
use lib.Seq.{length-take-le, drop-drop}
use lib.Dec.{leb, leb→le, le→leb}
use Rattle.bsii_format.specs.Reader.{ok, Reader, ◌>>=◌, bytes}
use Rattle.bsii_format.specs.Numbers.{little_endian, number}
use Rattle.bsii_format.proofs.Readers.{after_ok, cond_ok, map_ok, is_true, ok_val, ok_at, ok_rest}
use Rattle.bsii_format.proofs.Parsers.{number_exact}
use Rattle.bsii_format.proofs.Positions.{moved}
use Rattle.bsii_format.proofs.Follows.{again}
use Rattle.bsii_string.specs.Answers.{unchecked_str}
use Rattle.bsii_prototype.specs.Strings.{Text}

pub record Front (w at : ℕ) (s : List ℕ) (v : List ℕ) (n : ℕ) (r : List ℕ) : Type 0 where
  pub whole : w ≤ length s
  pub value : v ≡ take w s
  pub next : n ≡ at + w
  pub rest : r ≡ drop w s

pub bytes_front : (w at : ℕ) (s : List ℕ) {v : List ℕ} {n : ℕ} {r : List ℕ} → bytes w at s ≡ ok v n r → Front w at s v n r
unfolding bytes
bytes_front w at s e =
    let q = cond_ok (leb w (length s)) (ok (take w s) (at + w) (drop w s)) _ e in
    record { whole = leb→le w (length s) q.0; value = sym (ok_val q.1); next = sym (ok_at q.1); rest = sym (ok_rest q.1) }

pub number_front : (w at : ℕ) (s : List ℕ) {v n : ℕ} {r : List ℕ} → number w at s ≡ ok v n r → (c : List ℕ) × Front w at s c n r
unfolding number
number_front w at s e = let q = map_ok little_endian (bytes w) at s e in (q.0, bytes_front w at s q.2)

-- bytes and the bytes behind them
pub bytes_join : (m w at : ℕ) (s : List ℕ) {c d : List ℕ} {i n : ℕ} {t r : List ℕ} → Front m at s c i t → Front w i t d n r
    → bytes (m + w) at s ≡ ok (take (m + w) s) n r
unfolding bytes
bytes_join m w at s {n = n} {t = t} {r = r} f g =
    let l : length t ≡ length s - m = ap length f.rest ∙ length-drop m s in
    let b : m + w ≤ length s = omega (arith, f.whole, g.whole) in
    let p : at + (m + w) ≡ n = omega (arith, f.next, g.next) in
    let d : drop (m + w) s ≡ r = sym (drop-drop w m s) ∙ ap (drop w) (sym f.rest) ∙ sym g.rest in
    rw (is_true (leb (m + w) (length s)) (le→leb (m + w) (length s) b), p, d)

-- ---- a reader of strings: what it accepts, `unchecked_str` reads

-- the string v, read at `at`, lies from at + 4 to n
pub record Named (s : List ℕ) (at : ℕ) (v : List ℕ) (n : ℕ) (r : List ℕ) : Type 0 where
  pub place : v ≡ take (n - (at + 4)) (drop (at + 4) s)
  pub end : n ≡ at + 4 + length v
  pub inside : n ≤ length s
  pub rest : r ≡ drop n s

unchecked_named : (s : List ℕ) (at : ℕ) {v : List ℕ} {n : ℕ} {r : List ℕ} → unchecked_str at (drop at s) ≡ ok v n r → Named s at v n r
unfolding unchecked_str ◌>>=◌
unchecked_named s at {v} {n} {r} e =
    let q = after_ok (number 4 at (drop at s)) bytes e in
    let f = (number_front 4 at (drop at s) q.3).1 in
    let m = moved (number_exact 4) s at q.3 in
    let g = bytes_front q.0 q.1 q.2 q.4 in
    let start : drop q.1 s ≡ drop (at + 4) s = ap (λ (k : ℕ). drop k s) f.next in
    let width : q.0 ≡ n - (at + 4) = omega (arith, f.next, g.next) in
    let long : length v ≡ q.0 = ap length g.value ∙ length-take-le q.0 q.2 g.whole in
    let left : length q.2 ≡ length s - q.1 = ap length m.rest ∙ length-drop q.1 s in
    let room : 4 ≤ length s - at = rw length-drop at f.whole in
    record {
      place = g.value ∙ ap₂ (λ (k : ℕ) (l : List ℕ). take k l) width (m.rest ∙ start);
      end = omega (arith, f.next, g.next);
      inside = omega (arith, f.next, g.next, g.whole);
      rest = g.rest ∙ ap (drop q.0) m.rest ∙ drop-drop q.0 q.1 s ∙ ap (λ (k : ℕ). drop k s) (sym g.next);
    }

pub named : {S : Reader (List ℕ)} → Text S → (s : List ℕ) (at : ℕ) {v : List ℕ} {n : ℕ} {r : List ℕ} → S at (drop at s) ≡ ok v n r → Named s at v n r
named t s at e = unchecked_named s at (again t.follows at (drop at s) e)
