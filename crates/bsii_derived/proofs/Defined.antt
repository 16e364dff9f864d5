-- What the walk has read, the look-up by an index reads too: a prototype at its offset, and a block under it.
use mathlib.Core.Path.{◌≡◌, refl, sym, ap, ◌∙◌, subst}
use Prim.Native.Nat.{ℕ, zero, suc}
use native.Mathlib.Omega.{arith}
use mathlib.Core.Bool.{Bool, true, false, not, cond}
use mathlib.Core.List.{List, []}
use lib.Dec.{T, leb, eqb, eqb→eq, eqb_refl, leb→le}
use Rattle.bsii_format.specs.Replies.{bad_mark, undefined_prototype}
use Rattle.bsii_format.specs.Reader.{Result, ok, Reader, after, success, verify, with, ◌>>=◌, ◌<$>◌}
use Rattle.bsii_format.specs.Numbers.{le_u8, le_u32}
use Rattle.bsii_format.specs.Strings.{str_parser}
use Rattle.bsii_format.specs.Prototypes.{Prototype, fields_parser}
use Rattle.bsii_format.specs.Blocks.{DataValue, DataBlock}
use Rattle.bsii_format.specs.File.{prototype, block, Head, ending, defining, carrying, mark_parser, head_parser, record_bytes}
use Rattle.bsii_format.proofs.Readers.{Fits, ok_val, ok_move, after_ok, cond_ok, is_true, bind_fits, map_fits, verify_fits, consumed_fits, and_both}
use Rattle.bsii_format.proofs.Positions.{bind_ok}
use Rattle.bsii_format.proofs.Records.{GoodPrototype, GoodBlock, fields_fits, values_fits}
use Rattle.bsii_derived.specs.IndexCalls.{demand, PrototypeHead, prototype_head, prototype_with, prototype_at, is_of, block_at}

-- ---- heads

ending≢defining : {P : Type 0} {n : ℕ} {l : List ℕ} → ◌≡◌ {A = Head} ending (defining n l) → P
ending≢defining e = let z : ◌≡◌ {A = ℕ} 0 1 = cc in let f : ⊥ = omega arith in absurd f

carrying≢defining : {P : Type 0} {m n : ℕ} {l : List ℕ} → ◌≡◌ {A = Head} (carrying m) (defining n l) → P
carrying≢defining e = let z : ◌≡◌ {A = ℕ} 0 1 = cc in let f : ⊥ = omega arith in absurd f

ending≢carrying : {P : Type 0} {n : ℕ} → ◌≡◌ {A = Head} ending (carrying n) → P
ending≢carrying e = let z : ◌≡◌ {A = ℕ} 0 1 = cc in let f : ⊥ = omega arith in absurd f

defining≢carrying : {P : Type 0} {m n : ℕ} {l : List ℕ} → ◌≡◌ {A = Head} (defining n l) (carrying m) → P
defining≢carrying e = let z : ◌≡◌ {A = ℕ} 0 1 = cc in let f : ⊥ = omega arith in absurd f

demand_ok : (n b : ℕ) (R : ℕ → List ℕ → Result ℕ) {at : ℕ} {s : List ℕ} {at' : ℕ} {s' : List ℕ} → R at s ≡ ok n at' s' → demand n b R at s ≡ ok n at' s'
unfolding demand after
demand_ok n b R e = rw (e, is_true (eqb n n) (eqb_refl n)) refl

-- the id and the name behind the mark
abbrev named_head : Reader PrototypeHead
named_head = do
  n ← le_u32
  l ← str_parser
  success (record { id = n; name = l })

named : (b m at : ℕ) (s : List ℕ) {id : ℕ} {name : List ℕ} {n : ℕ} {r : List ℕ} → T (leb m 1) → mark_parser m at s ≡ ok (defining id name) n r
    → (m ≡ 1) × (named_head at s ≡ ok (record { id = id; name = name }) n r)
unfolding mark_parser ◌>>=◌ after success
named b zero at s t e = ending≢defining (ok_val e)
named b (suc m) at s {id} {name} {n} {r} t e =
    let x = after_ok (le_u32 at s) (λ i. str_parser >>= (λ l. success (defining i l))) e in
    let y = after_ok (str_parser x.1 x.2) (λ l. success (defining x.0 l)) x.4 in
    let z : m ≡ 0 = let k = leb→le (suc m) 1 t in omega arith in
    (ap suc z, rw (x.3, y.3) (ok_move (λ (h : Head) i w. ok (made h) i w ≡ ok (record { id = id; name = name }) n r) {v = defining id name} (sym y.4) refl))
  where
    made : Head → PrototypeHead
    made (defining i l) = record { id = i; name = l }
    made ending = record { id = 0; name = name }
    made (carrying i) = record { id = 0; name = name }

pub head_demanded : (b at : ℕ) (s : List ℕ) {id : ℕ} {name : List ℕ} {n : ℕ} {r : List ℕ} → head_parser at s ≡ ok (defining id name) n r
    → prototype_head b at s ≡ ok (record { id = id; name = name }) n r
unfolding head_parser prototype_head ◌>>=◌ verify after success
head_demanded b at s {id} {name} {n} {r} e =
    let x = after_ok (le_u32 at s) _ e in
    go x.0 x.1 x.2 x.3 (eqb x.0 0) refl x.4
  where
    go : (z at₁ : ℕ) (s₁ : List ℕ) → le_u32 at s ≡ ok z at₁ s₁ → (c : Bool) → eqb z 0 ≡ c
        → cond c (verify (λ m. leb m 1) bad_mark le_u8 >>= mark_parser) (success (carrying z)) at₁ s₁ ≡ ok (defining id name) n r
        → prototype_head b at s ≡ ok (record { id = id; name = name }) n r
    go z at₁ s₁ h false k f = unfold success in carrying≢defining (ok_val f)
    go z at₁ s₁ h true k f =
        unfold prototype_head ◌>>=◌ verify after success in
        let zero_is : z ≡ 0 = eqb→eq z 0 (subst T (sym k) tt) in
        let y = after_ok (verify (λ m. leb m 1) bad_mark le_u8 at₁ s₁) mark_parser f in
        let v = after_ok (le_u8 at₁ s₁) (λ a at' s'. cond (leb a 1) (ok a at' s') _) y.3 in
        let c = cond_ok (leb v.0 1) (ok v.0 v.1 v.2) _ v.4 in
        let l = named b v.0 v.1 v.2 c.0 (ok_move (λ m i w. mark_parser m i w ≡ ok (defining id name) n r) (sym c.1) y.4) in
        bind_ok (demand 0 b le_u32) _ (demand_ok 0 b le_u32 (h ∙ ap (λ m. ok m at₁ s₁) zero_is))
        ∙ bind_ok (demand 1 b le_u8) _ (demand_ok 1 b le_u8 (v.3 ∙ ap (λ m. ok m v.1 v.2) l.0)) ∙ l.1

-- a block's head is its prototype id, not zero
pub head_carried : (at : ℕ) (s : List ℕ) {id : ℕ} {n : ℕ} {r : List ℕ} → head_parser at s ≡ ok (carrying id) n r → (le_u32 at s ≡ ok id n r) × T (not (eqb id 0))
unfolding head_parser mark_parser ◌>>=◌ verify after success
head_carried at s {id} {n} {r} e =
    let x = after_ok (le_u32 at s) _ e in
    go x.0 x.1 x.2 x.3 (eqb x.0 0) refl x.4
  where
    no_mark : (m at₁ : ℕ) (s₁ : List ℕ) → mark_parser m at₁ s₁ ≡ ok (carrying id) n r → ⊥
    no_mark zero at₁ s₁ f = ending≢carrying (ok_val f)
    no_mark (suc m) at₁ s₁ f =
        let x = after_ok (le_u32 at₁ s₁) (λ i. str_parser >>= (λ l. success (defining i l))) f in
        let y = after_ok (str_parser x.1 x.2) (λ l. success (defining x.0 l)) x.4 in
        defining≢carrying (ok_val y.4)

    go : (z at₁ : ℕ) (s₁ : List ℕ) → le_u32 at s ≡ ok z at₁ s₁ → (c : Bool) → eqb z 0 ≡ c
        → cond c (verify (λ m. leb m 1) bad_mark le_u8 >>= mark_parser) (success (carrying z)) at₁ s₁ ≡ ok (carrying id) n r
        → (le_u32 at s ≡ ok id n r) × T (not (eqb id 0))
    go z at₁ s₁ h true k f = unfold ◌>>=◌ in let y = after_ok (verify (λ m. leb m 1) bad_mark le_u8 at₁ s₁) mark_parser f in absurd (no_mark y.0 y.1 y.2 y.4)
    go z at₁ s₁ h false k f =
        unfold success in
        let i : z ≡ id = carrying_is (ok_val f) in
        (h ∙ ok_move (λ (g : Head) i w. ok z at₁ s₁ ≡ ok (number_of g) i w) {v = carrying z} f refl, subst (λ m. T (not (eqb m 0))) i (subst (λ y. T (not y)) (sym k) tt))
      where
        carrying_is : {a c : ℕ} → ◌≡◌ {A = Head} (carrying a) (carrying c) → a ≡ c
        carrying_is e = cc

        number_of : Head → ℕ
        number_of (carrying i) = i
        number_of ending = 0
        number_of (defining i l) = 0

-- ---- whole records

pub prototype_fits : (b : ℕ) (p : Prototype) → GoodPrototype p → Fits Prototype (prototype_at b) p (record_bytes (prototype p))
unfolding prototype_at prototype_with record_bytes
prototype_fits b p g =
    bind_fits (λ h. prototype_with h <$> fields_parser) (consumed_fits head)
    (map_fits (prototype_with (with (record { id = p.id; name = p.name }) p.head)) (fields_fits g.fields g.last))
  where
    head : Fits PrototypeHead (prototype_head b) (record { id = p.id; name = p.name }) p.head
    head = record { reads = λ at t. head_demanded b at _ (g.head.reads at t) }

pub block_fits : {version : ℕ} {env : List Prototype} (b : DataBlock) (g : GoodBlock version env b) → b.prototype_id ≡ g.by.id
    → Fits DataBlock (block_at version g.by) b (record_bytes (block b))
unfolding block_at record_bytes ◌<$>◌
block_fits {version} b g e =
    bind_fits _ (consumed_fits (verify_fits (is_of g.by) undefined_prototype head (unfold is_of in and_both (not (eqb b.prototype_id 0)) (eqb b.prototype_id g.by.id) nonzero (subst (λ m. T (eqb b.prototype_id m)) e (eqb_refl b.prototype_id)))))
    (bind_fits _ (consumed_fits g.id) (map_fits (λ (l : List DataValue). record { head = b.head; prototype_id = b.prototype_id; id = b.id; values = l }) (values_fits g.values)))
  where
    head : Fits ℕ le_u32 b.prototype_id b.head
    head = record { reads = λ at t. (head_carried at _ (g.head.reads at t)).0 }

    nonzero : T (not (eqb b.prototype_id 0))
    nonzero = (head_carried 0 _ (g.head.reads 0 [])).1
