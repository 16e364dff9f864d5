-- The search, from its start to its answer.
use mathlib.Core.Path.{◌≡◌, refl, sym, ap, ◌∙◌}
use Prim.Native.Nat.{ℕ, zero, suc, ◌+◌}
use native.Mathlib.Omega.{arith}
use mathlib.Core.Bool.{Bool, true, false, cond}
use mathlib.Core.Option.{Option, some}
use mathlib.Core.List.{List, [], ◌∷◌}
use Rattle.bsii_format.specs.Prototypes.{Prototype}
use Rattle.bsii_format.specs.Blocks.{DataBlock, get_prototype}
use Rattle.bsii_format.specs.Calls.{Placed, is_named}
use Rattle.bsii_walk.specs.Cursor.{Stood, BlockIs, NextBlock}
use Rattle.bsii_walk.specs.Seek.{Numbered, is_wanted, pass_over, seek_in, names, count_of, Counts, sought, missed, Seeks}
use Rattle.bsii_walk.specs.declared.records.Block.{Block}
use Rattle.std.specs.Prelude.{Some, None, Option as Answer}
use Rattle.bsii_walk.proofs.Loops.{Over, over_end, over_at, over_block_law}

-- ---- the search goes by the count

-- it is this one, or it goes on behind it
next : Answer ℕ → Option Numbered → (ℕ → Option Numbered) → Option Numbered
next None now later = now
next (Some m) now later = later m

by_count : (w : Bool) (left : ℕ) (now : Option Numbered) (later : ℕ → Option Numbered) → cond w (pass_over left now later) (later left) ≡ next (count_of w left) now later
unfolding pass_over next
by_count false left now later = refl
by_count true zero now later = refl
by_count true (suc m) now later = refl

wanted_by : (wanted : Answer (List ℕ)) (last : List Prototype) (b : DataBlock) {q : Prototype} → get_prototype b.prototype_id last ≡ some q → is_wanted last wanted b ≡ names wanted q
unfolding is_named
wanted_by None last b e = refl
wanted_by (Some name) last b e = ap (is_named name) e

seek_count : {version : ℕ} {s : List ℕ} {b : Block} {wanted : Answer (List ℕ)} {left : ℕ} {c : Answer ℕ} → Counts s b.last wanted left c
    → {last : List Prototype} {x : Placed DataBlock} → BlockIs version s last b x → {d : Answer ℕ} → c ≡ d → (number : ℕ) (l : List (Placed DataBlock))
    → seek_in last wanted number left (x ∷ l) ≡ next d (some (record { number = number; of = x })) (λ m. seek_in last wanted (number + 1) m l)
unfolding seek_in
seek_count {wanted = wanted} {left = left} h {last} {x} i e number l =
    ap (λ (j : ℕ). cond (is_wanted last wanted x.it) (pass_over left (some (record { number = number; of = x })) (λ m. seek_in last wanted j m l)) (seek_in last wanted j left l)) (omega arith)
    ∙ by_count (is_wanted last wanted x.it) left _ (λ m. seek_in last wanted (number + 1) m l)
    ∙ ap (λ v. next v (some (record { number = number; of = x })) (λ m. seek_in last wanted (number + 1) m l))
    (ap (λ b. count_of b left) (wanted_by wanted last x.it i.last_is) ∙ sym (h.is i.q i.named) ∙ e)

-- ---- its loop

-- the search among all blocks is the one among those in front, where the next one has this number and `left` wanted ones are passed over
pub record Asked (wanted : Answer (List ℕ)) (k number left : ℕ) (last : List Prototype) (all l : List (Placed DataBlock)) : Type 0 where
  pub equal : seek_in last wanted 0 k all ≡ seek_in last wanted number left l

module _ {version : ℕ} {s : List ℕ} {start : ℕ} {t₀ : List ℕ} {rows at : ℕ} {t : List ℕ} {wanted : Answer (List ℕ)} {k number left : ℕ}
    (o : Over version s start t₀ rows at t (Asked wanted k number left)) {r : Answer Block} {t' : List ℕ} (n : NextBlock version s at t rows r t') where
  pub seek_end : r ≡ None → Seeks version s start t₀ rows wanted k None
  unfolding seek_in
  seek_end z = record { seeks = λ rooms last rest w. missed (over_end o n z rooms last [] rest w).0.equal }

  module _ {b : Block} (z : r ≡ Some b) {c : Answer ℕ} (h : Counts s b.last wanted left c) where
    pub seek_found : c ≡ None → Seeks version s start t₀ rows wanted k (Some (record { number = number; block = b }))
    unfolding next
    seek_found e = record {
      seeks = λ rooms last rest w. let x = over_at o n z rooms last [] rest w in sought x.0 x.2 (x.3.equal ∙ seek_count h x.2 e number x.1);
    }

    pub seek_on : {m : ℕ} → c ≡ Some m → Stood version s start t₀ rows → Over version s start t₀ rows b.next t' (Asked wanted k (number + 1) m)
    unfolding next
    seek_on e w = over_block_law o n z w (λ last x all l i q. record { equal = q.equal ∙ seek_count h i e number l })
