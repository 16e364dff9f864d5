-- Record k of a file's index is block k with the prototype in force, and both stand in the file. Where no id is defined twice, that prototype is also the
-- last definition of its id.
use mathlib.Core.Path.{◌≡◌, refl, sym, ap, ◌∙◌, subst}
use Prim.Native.Nat.{ℕ, zero, suc, ◌+◌, ◌-◌, ◌^◌, ◌≤◌}
use native.Mathlib.Omega.{arith}
use mathlib.Core.Bool.{Bool, true, false, cond}
use mathlib.Core.Option.{Option, none, some}
use mathlib.Core.List.{List, [], ◌∷◌, ◌++◌, map, append_assoc}
use lib.ListN.{length, drop, get_elem?, length-append, length-drop}
use lib.Seq.{drop-drop, drop-append_seam}
use lib.Dec.{eqb}
use Rattle.bsii_format.specs.Prototypes.{Prototype}
use Rattle.bsii_format.specs.Blocks.{DataBlock, find_by, get_prototype}
use Rattle.bsii_format.specs.File.{Record, prototype, block, fields_bytes, values_bytes, record_bytes, records_bytes, define, define_all}
use Rattle.bsii_format.specs.Calls.{Placed, placed, cons_block, blocks_in, cons_prototype}
use Rattle.bsii_format.proofs.Records.{GoodPrototype, GoodBlock, GoodRecords, nil, cons, fields_long, head_takes}
use Rattle.bsii_derived.specs.Index.{IndexRecord, index_record, in_force, cons_under, cons_index, index_from}
use Rattle.bsii_derived.specs.IndexCalls.{once}
use Rattle.bsii_derived.specs.IndexClaims.{Held}
use Rattle.bsii_derived.proofs.Bytes.{none≢some, some_is}
use Rattle.bsii_derived.proofs.Once.{known_once}

abbrev pub size_of : Record → ℕ
size_of r = length (record_bytes r)

-- definitions without their offsets
abbrev pub bare : List (Placed Prototype) → List Prototype
bare = map (λ (p : Placed Prototype). p.it)

-- the bytes c stand at the offset o
abbrev pub Stands : List ℕ → ℕ → List ℕ → Type 0
Stands s o c = (t : List ℕ) × (drop o s ≡ c ++ t)

stands_behind : (s : List ℕ) (o : ℕ) (c d : List ℕ) → Stands s o (c ++ d) → Stands s (o + length c) d
stands_behind s o c d (t, e) = (t, sym (drop-drop (length c) o s) ∙ ap (drop (length c)) (e ∙ append_assoc c d t) ∙ drop-append_seam c (d ++ t))

stands_front : (s : List ℕ) (o : ℕ) (c d : List ℕ) → Stands s o (c ++ d) → Stands s o c
stands_front s o c d (t, e) = (d ++ t, e ∙ append_assoc c d t)

-- what stands there is within the file
stands_within : (s : List ℕ) (o : ℕ) (c : List ℕ) → Stands s o c → length c ≤ length s - o
stands_within s o c (t, e) = omega (arith, length-drop o s, ap length e, length-append c t)

-- ---- definitions
-- the definition in force, with and without its offset
find_bare : (n : ℕ) (env : List (Placed Prototype)) {q : Prototype} → get_prototype n (bare env) ≡ some q → (p : Placed Prototype) × (in_force n env ≡ some p) × (p.it ≡ q)
unfolding find_by
find_bare n [] e = none≢some e
find_bare n (x ∷ env) {q} e = go (eqb n x.it.id) e (λ z. find_bare n env z)
  where
    go : (b : Bool) → cond b (some x.it) (get_prototype n (bare env)) ≡ some q
        → (get_prototype n (bare env) ≡ some q → (p : Placed Prototype) × (in_force n env ≡ some p) × (p.it ≡ q))
        → (p : Placed Prototype) × (cond b (some x) (in_force n env) ≡ some p) × (p.it ≡ q)
    go true z h = (x, refl, some_is z)
    go false z h = h z

-- a prototype at its offset
pub record PrototypeIn (s : List ℕ) (p : Placed Prototype) : Type 0 where
  pub good : GoodPrototype p.it
  pub bytes : Stands s p.offset (record_bytes (prototype p.it))

abbrev AllIn : List ℕ → List (Placed Prototype) → Type 0
AllIn s env = (n : ℕ) (p : Placed Prototype) → in_force n env ≡ some p → PrototypeIn s p

all_in : (s : List ℕ) (x : Placed Prototype) (env : List (Placed Prototype)) → PrototypeIn s x → AllIn s env → AllIn s (x ∷ env)
unfolding find_by
all_in s x env i a n p e = go (eqb n x.it.id) e
  where
    go : (b : Bool) → cond b (some x) (in_force n env) ≡ some p → PrototypeIn s p
    go true z = subst (PrototypeIn s) (some_is z) i
    go false z = a n p z

-- ---- record k of the index and block k of the file

-- a block at its offset under the prototype p, which is in force and the last one of its id
pub record BlockIn (version : ℕ) (s : List ℕ) (last : List Prototype) (b : Placed DataBlock) (p : Placed Prototype) : Type 0 where
  pub env : List Prototype
  pub good : GoodBlock version env b.it
  pub under : good.by ≡ p.it
  pub bytes : Stands s b.offset (record_bytes (block b.it))
  pub behind : 1 ≤ b.offset
  pub defined : PrototypeIn s p
  pub lasting : once last ≡ true → get_prototype b.it.prototype_id last ≡ some p.it

pub data Entry (version : ℕ) (s : List ℕ) (last : List Prototype) : Option IndexRecord → Option (Placed DataBlock) → Type 0 where
  neither : Entry version s last none none
  both : (b : Placed DataBlock) (p : Placed Prototype) → BlockIn version s last b p → Entry version s last (some (index_record b.offset b.it p)) (some b)

module _ {version : ℕ} {s : List ℕ} {last : List Prototype} where
  entry_over : {l : List Record} (at : ℕ) (env : List (Placed Prototype)) {v : List Prototype} → GoodRecords version v l → v ≡ bare env → Stands s at (records_bytes l) → 1 ≤ at → AllIn s env
      → last ≡ define_all l v → (k : ℕ) → Entry version s last (get_elem? (index_from env (placed size_of at l)) k) (get_elem? (blocks_in (placed size_of at l)) k)
  unfolding index_from cons_index cons_under placed blocks_in cons_block cons_prototype records_bytes define define_all
  entry_over at env nil q h i a e k = neither
  entry_over at env (cons {i = prototype p} {l = l} g gs) q h i a e k =
      entry_over {l = l} (at + size_of (prototype p)) (record { offset = at; it = p } ∷ env) gs (ap (λ (y : List Prototype). p ∷ y) q) (stands_behind s at (record_bytes (prototype p)) (records_bytes l) h) (omega (arith, i))
      (all_in s (record { offset = at; it = p }) env (record { good = g; bytes = stands_front s at (record_bytes (prototype p)) (records_bytes l) h }) a) e k
  entry_over at env {v} (cons {i = block b} {l = l} g gs) q h i a e k =
      let x = find_bare b.prototype_id env (ap (get_prototype b.prototype_id) (sym q) ∙ g.found) in
      subst (λ o. Entry version s last (get_elem? (cons_under at b o (index_from env (placed size_of (at + size_of (block b)) l))) k) (get_elem? (record { offset = at; it = b } ∷ blocks_in (placed size_of (at + size_of (block b)) l)) k))
      (sym x.1)
      (go x.0 x.1 x.2 k
      (λ k. entry_over {l = l} (at + size_of (block b)) env gs q (stands_behind s at (record_bytes (block b)) (records_bytes l) h) (omega (arith, i)) a e k))
    where
      go : (p : Placed Prototype) → in_force b.prototype_id env ≡ some p → p.it ≡ g.by → (k : ℕ)
          → ((k : ℕ) → Entry version s last (get_elem? (index_from env (placed size_of (at + size_of (block b)) l)) k) (get_elem? (blocks_in (placed size_of (at + size_of (block b)) l)) k))
          → Entry version s last (get_elem? (index_record at b p ∷ index_from env (placed size_of (at + size_of (block b)) l)) k) (get_elem? (record { offset = at; it = b } ∷ blocks_in (placed size_of (at + size_of (block b)) l)) k)
      go p z y zero f =
          both (record { offset = at; it = b }) p
          (record {
            env = v;
            good = g;
            under = sym y;
            bytes = stands_front s at (record_bytes (block b)) (records_bytes l) h;
            behind = i;
            defined = a b.prototype_id p z;
            lasting = λ o. ap (get_prototype b.prototype_id) e ∙ known_once b.prototype_id l v (ap once (sym e) ∙ o) (g.found ∙ ap some (sym y));
          })
      go p z y (suc k) f = f k

  pub entry_at : {l : List Record} (at : ℕ) (env : List (Placed Prototype)) → GoodRecords version (bare env) l → Stands s at (records_bytes l) → 1 ≤ at → AllIn s env
      → last ≡ define_all l (bare env) → (k : ℕ) → Entry version s last (get_elem? (index_from env (placed size_of at l)) k) (get_elem? (blocks_in (placed size_of at l)) k)
  entry_at at env g = entry_over at env g refl

  -- the four numbers of a record are below the file's length
  pub entry_held : (w : ℕ) → length s ≤ 256 ^ w → (b : Placed DataBlock) (p : Placed Prototype) → BlockIn version s last b p → Held w (index_record b.offset b.it p)
  unfolding index_record record_bytes
  entry_held w h b p i =
      let c = stands_within s b.offset (record_bytes (block b.it)) i.bytes in
      let d = stands_within s p.offset (record_bytes (prototype p.it)) i.defined.bytes in
      let x = head_takes i.good.head in
      let y = head_takes i.defined.good.head in
      let f = fields_long i.defined.good.fields in
      let u = length-append b.it.head (b.it.id.raw ++ values_bytes b.it.values) in
      let v = length-append p.it.head (fields_bytes p.it.fields ++ p.it.terminator) in
      let z = length-append (fields_bytes p.it.fields) p.it.terminator in
      record {
        offset = omega (arith, c, x, u, h);
        size = omega (arith, c, x, u, h, i.behind);
        prototype = omega (arith, d, y, v, h);
        fields = omega (arith, d, y, v, z, f, h);
      }
