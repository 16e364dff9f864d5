-- The id of a prototype that was read stands five bytes behind its offset, in the file: `id_of` is its id.
use Prim.Native.Nat.{ℕ, zero, suc, ◌+◌, ◌-◌, ◌≤◌}
use native.Mathlib.Omega.{arith}
use mathlib.Core.Path.{◌≡◌, sym, ap, ap₂, ◌∙◌}
use mathlib.Core.Bool.{Bool, true, false, cond}
use mathlib.Core.List.{List}
use lib.ListN.{length, take, drop, length-drop}
use lib.Dec.{eqb, leb, leb→le}
use Rattle.bsii_format.specs.Replies.{bad_mark}
use Rattle.bsii_format.specs.Reader.{ok, ◌>>=◌, success, verify, bytes}
use Rattle.bsii_format.specs.Numbers.{number, le_u8, little_endian}
use Rattle.bsii_format.specs.Strings.{str_parser}
use Rattle.bsii_format.specs.File.{defining, carrying, mark_parser, head_parser}
use Rattle.bsii_format.proofs.Readers.{after_ok, cond_ok, map_ok}
use Rattle.bsii_string.proofs.NumbersAt.{number_moves, number_is_law}
use Rattle.bsii_tree.specs.Table.{id_of}

number_fits : (w : ℕ) (s : List ℕ) (at : ℕ) {v i : ℕ} {r : List ℕ} → number w at (drop at s) ≡ ok v i r → w ≤ length s - at
unfolding number bytes
number_fits w s at e =
    let m = map_ok little_endian (bytes w) at (drop at s) e in
    let c = cond_ok (leb w (length (drop at s))) (ok (take w (drop at s)) (at + w) (drop w (drop at s))) _ m.2 in
    omega (arith, leb→le w (length (drop at s)) c.0, length-drop at s)

-- what a definition at an offset has there
abbrev IdAt : List ℕ → ℕ → ℕ → Type 0
IdAt s at id = (id_of s at ≡ id) × (at + 9 ≤ length s)

module _ (s : List ℕ) (at : ℕ) {id : ℕ} {name : List ℕ} {next : ℕ} {rest : List ℕ} where
  id_past_mark : {j : ℕ} {u : List ℕ} → j ≡ at + 5 → u ≡ drop (at + 5) s → (m : ℕ) → mark_parser m j u ≡ ok (defining id name) next rest → IdAt s at id
  unfolding mark_parser success ◌>>=◌
  id_past_mark i r zero e = let z : ◌≡◌ {A = ℕ} 0 1 = cc in absurd (omega arith)
  id_past_mark {j} {u} i r (suc m) e =
      let p = after_ok (number 4 j u) _ e in
      let q = after_ok (str_parser p.1 p.2) _ p.4 in
      let v : p.0 ≡ id = cc in
      let n = ap₂ (number 4) (sym i) (sym r) ∙ p.3 in
      (number_is_law 4 s (at + 5) n ∙ v, omega (arith, number_fits 4 s (at + 5) n))

  id_past_zero : (k : ℕ) {i : ℕ} {t : List ℕ} → i ≡ at + 4 → t ≡ drop (at + 4) s → (b : Bool)
      → cond b (verify (λ m. leb m 1) bad_mark le_u8 >>= mark_parser) (success (carrying k)) i t ≡ ok (defining id name) next rest → IdAt s at id
  unfolding success ◌>>=◌ verify
  id_past_zero k l r false h = let z : ◌≡◌ {A = ℕ} 0 1 = cc in absurd (omega arith)
  id_past_zero k {i} {t} l r true h =
      let p = after_ok (verify (λ m. leb m 1) bad_mark le_u8 i t) mark_parser h in
      let q = after_ok (number 1 i t) _ p.3 in
      let w = cond_ok (leb q.0 1) (ok q.0 q.1 q.2) _ q.4 in
      let moved = number_moves 1 s (at + 4) (ap₂ (number 1) (sym l) (sym r) ∙ q.3 ∙ w.1) in
      let five : at + 4 + 1 ≡ at + 5 = omega arith in
      id_past_mark (moved.0 ∙ five) (moved.1 ∙ ap (λ (n : ℕ). drop n s) five) p.0 p.4

  pub head_id : head_parser at (drop at s) ≡ ok (defining id name) next rest → IdAt s at id
  unfolding head_parser ◌>>=◌
  head_id e =
      let q = after_ok (number 4 at (drop at s)) (λ k. cond (eqb k 0) (verify (λ m. leb m 1) bad_mark le_u8 >>= mark_parser) (success (carrying k))) e in
      let moved = number_moves 4 s at q.3 in
      id_past_zero q.0 moved.0 moved.1 (eqb q.0 0) q.4
