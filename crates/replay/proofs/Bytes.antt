-- Bytes that are compared, and a text against the Rust's.
use Prim.Native.Nat.{ℕ, ◌<◌}
use mathlib.Core.Path.{◌≡◌, refl, sym, ap, subst}
use mathlib.Core.Bool.{Bool, true, false, true≢false}
use mathlib.Core.List.{List}
use native.Mathlib.Omega.{arith}
use borrow.Author.Tests.{eq-eqb, ne_eqb}
use lib.ListN.{length}
use lib.Dec.{T}
use Rattle.bsii_format.specs.Replies.{gives}
use Rattle.bsii_format.specs.Reader.{same}
use Rattle.bsii_format.specs.Calls.{Converted}
use Rattle.bsii_format.proofs.Readers.{is_true, is_false, same→eq, same_refl}
use Rattle.replay.specs.Agree.{same_bytes, same_reply}

pub told : (r : Bool) (s t : List ℕ) → (r ≡ true → s ≡ t) × (s ≡ t → r ≡ true) → r ≡ same s t
told true s t h = sym (is_true (same s t) (subst (λ z. T (same s z)) (h.0 refl) (same_refl s)))
told false s t h = sym (is_false (same s t) (λ x. true≢false (sym (h.1 (same→eq s t x)))))

pub shorter : (s t : List ℕ) → length s < length t → same s t ≡ false
shorter s t h = is_false (same s t) (λ x. let e = ap length (same→eq s t x) in omega arith)

module _ (reply : ℕ) (text : List ℕ) (a : Converted) (output : List ℕ) where
  pub unlike : (reply ≡ 0 → ⊥) → false ≡ same_reply reply text (gives a) output
  unlike h = rw (ne_eqb reply 0 h)

  pub alike : reply ≡ 0 → same_bytes text a.size output ≡ same_reply reply text (gives a) output
  alike h = rw (eq-eqb reply 0 h)
