-- A loop that writes: its invariant says that all of the text but a rest is written.
use Prim.Native.Nat.{ℕ, ◌≤◌, ◌<◌}
use mathlib.Core.Path.{◌≡◌, refl, sym, ap, ◌∙◌}
use mathlib.Core.List.{List, [], ◌++◌, append_assoc, append-nil}
use native.Mathlib.Nat.{add-zero}
use native.Mathlib.Omega.{arith}
use lib.ListN.{length}
use Rattle.bsii_window.specs.Window.{Wrote}
use Rattle.bsii_window.proofs.Laws.{capped_fits, then, being, same, nothing}

pub record Begun (old : List ℕ) (at : ℕ) (text rest : List ℕ) (r : ℕ) (new : List ℕ) : Type 0 where
  pub done : List ℕ
  pub wrote : Wrote old at done r new
  pub parts : text ≡ done ++ rest

pub begin : {a : List ℕ} {at : ℕ} {x : List ℕ} → at ≤ 0xffff_ffff_ffff_ffff → length a < 0x8000_0000_0000_0000 → Begun a at x x at a
begin {a} {at} h l = record { done = []; wrote = nothing (sym (capped_fits at 0 (omega arith) ∙ add-zero at)) l; parts = refl }

pub turn : {a b c : List ℕ} {at m r : ℕ} {x y z w : List ℕ} → Begun a at x y m b → Wrote b m z r c → y ≡ z ++ w → Begun a at x w r c
turn {z = z} {w = w} f g e = record {
  done = f.done ++ z;
  wrote = then f.wrote g;
  parts = f.parts ∙ ap (λ (l : List ℕ). f.done ++ l) e ∙ sym (append_assoc f.done z w);
}

pub end : {a b : List ℕ} {at r : ℕ} {x y : List ℕ} → Begun a at x y r b → y ≡ [] → Wrote a at x r b
end f e = being (sym (f.parts ∙ ap (λ (l : List ℕ). f.done ++ l) e ∙ append-nil f.done)) f.wrote

pub kept : {a b : List ℕ} {at r : ℕ} {x y : List ℕ} → Begun a at x y r b → length b ≡ length a
kept f = same f.wrote
