-- The laws of prefixes: an id is all that its 32 bits say.
use Prim.Native.Nat.{ℕ, zero, suc, ◌+◌, ◌^◌, ◌<◌}
use native.Mathlib.Nat.{pow-suc}
use native.Mathlib.Omega.{arith}
use mathlib.Core.Path.{◌≡◌, refl, sym, ◌∙◌, subst}
use Rattle.bsii_tree.specs.Tree.{drop_bits, SamePrefix}

pub prefix_sym : (d a b : ℕ) → SamePrefix d a b → SamePrefix d b a
unfolding SamePrefix
prefix_sym zero a b h = tt
prefix_sym (suc d) a b h = (prefix_sym d a b h.0, sym h.1)

pub prefix_trans : (d a b c : ℕ) → SamePrefix d a b → SamePrefix d b c → SamePrefix d a c
unfolding SamePrefix
prefix_trans zero a b c h k = tt
prefix_trans (suc d) a b c h k = (prefix_trans d a b c h.0 k.0, h.1 ∙ k.1)

prefix_all : (d a b : ℕ) → SamePrefix d a b → drop_bits d a ≡ drop_bits d b → a ≡ b
unfolding SamePrefix drop_bits
prefix_all zero a b h e = e
prefix_all (suc d) a b h e = prefix_all d a b h.0 (omega (arith, h.1))

drop_below : (d k n a : ℕ) → n ≡ d + k → a < 2 ^ n → drop_bits d a < 2 ^ k
unfolding drop_bits
drop_below zero k n a e l = subst (λ (n : ℕ). a < 2 ^ n) (let q : n ≡ k = omega arith in q) l
drop_below (suc d) k n a e l =
    let m : drop_bits d a < 2 ^ suc k = drop_below d (suc k) n a (omega arith) l in
    omega (arith, pow-suc 2 k)

pub prefix_ids : (a b : ℕ) → a < 2 ^ 32 → b < 2 ^ 32 → SamePrefix 32 a b → a ≡ b
prefix_ids a b l m h = prefix_all 32 a b h (omega (arith, drop_below 32 0 32 a refl l, drop_below 32 0 32 b refl m))
