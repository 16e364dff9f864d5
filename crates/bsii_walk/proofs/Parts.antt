-- The parts of a record that was accepted, at their positions in the file.
use mathlib.Core.Path.{◌≡◌, sym, ap, ◌∙◌}
use Prim.Native.Nat.{ℕ, ◌+◌}
use native.Mathlib.Omega.{arith}
use mathlib.Core.Option.{some}
use mathlib.Core.List.{List, ◌++◌, append_assoc}
use lib.ListN.{length, drop, length-append}
use Rattle.bsii_format.specs.Reader.{ok, Reader, after, ◌>>=◌, Consumed}
use Rattle.bsii_format.specs.Strings.{id_parser}
use Rattle.bsii_format.specs.Prototypes.{Prototype}
use Rattle.bsii_format.specs.Blocks.{DataValue, DataBlock, get_prototype, data_values_parser}
use Rattle.bsii_format.specs.File.{prototype, block, ending, carrying, head_parser, end, more, record_parser, fields_bytes, values_bytes, record_bytes}
use Rattle.bsii_format.proofs.Readers.{Fits, Exact}
use Rattle.bsii_format.proofs.Parsers.{head_exact, id_exact}
use Rattle.bsii_format.proofs.Records.{step_bytes, record_good, fields_fits, values_fits, values_good}
use Rattle.bsii_format.proofs.Positions.{moved}
use Rattle.bsii_block.specs.Blocks.{DefinedAt}
use Rattle.bsii_parse.proofs.Passing.{fields_exact}

-- a reader at a position of the file, where the bytes are known
at_place : {A : Type 0} {R : Reader A} → Exact A R → {v : A} {c : List ℕ} → Fits A R v c → (s : List ℕ) (at : ℕ) (t : List ℕ) → drop at s ≡ c ++ t
    → (R at (drop at s) ≡ ok v (at + length c) (drop (at + length c) s)) × (t ≡ drop (at + length c) s)
at_place {A} {R} x {v} {c} f s at t e =
    let z : R at (drop at s) ≡ ok v (at + length c) t = ap (R at) e ∙ f.reads at t in
    let m = (moved x s at z).rest in
    (z ∙ ap (ok v (at + length c)) m, m)

module _ (version : ℕ) (env : List Prototype) (s : List ℕ) (at n : ℕ) where
  -- a prototype stands where it was read
  pub stands : (p : Prototype) → record_parser version env at (drop at s) ≡ ok (more (prototype p)) n (drop n s) → (h : DefinedAt s at p) × (h.next ≡ n)
  unfolding step_bytes record_bytes
  stands p e =
      let g = record_good env at (drop at s) (more (prototype p)) n (drop n s) e in
      let a = at_place head_exact g.good.head s at (fields_bytes p.fields ++ p.terminator ++ drop n s) (g.front ∙ append_assoc p.head (fields_bytes p.fields ++ p.terminator) (drop n s)) in
      let m = at + length p.head in
      let b = at_place fields_exact (fields_fits g.good.fields g.good.last) s m (drop n s) (sym a.1) in
      let k : at + length p.head + length (fields_bytes p.fields ++ p.terminator) ≡ n = sym (g.place ∙ ap (λ x. at + x) (length-append p.head (fields_bytes p.fields ++ p.terminator)) ∙ omega arith) in
      (record { fields = m; next = at + length p.head + length (fields_bytes p.fields ++ p.terminator); head = a.0; list = b.0 }, k)

  -- a block: its prototype id, its id and its values
  pub record BlockParts (b : DataBlock) : Type 0 where
    pub by : Prototype
    pub found : get_prototype b.prototype_id env ≡ some by
    pub head : head_parser at (drop at s) ≡ ok (carrying b.prototype_id) (at + length b.head) (drop (at + length b.head) s)
    pub id : id_parser (at + length b.head) (drop (at + length b.head) s) ≡ ok b.id.value (at + length b.head + length b.id.raw) (drop (at + length b.head + length b.id.raw) s)
    pub values : data_values_parser version by.fields (at + length b.head + length b.id.raw) (drop (at + length b.head + length b.id.raw) s) ≡ ok b.values n (drop n s)

  pub block_parts_law : (b : DataBlock) → record_parser version env at (drop at s) ≡ ok (more (block b)) n (drop n s) → BlockParts b
  unfolding step_bytes record_bytes
  block_parts_law b e =
      let g = record_good env at (drop at s) (more (block b)) n (drop n s) e in
      let w = g.good in
      let a = at_place head_exact w.head s at (b.id.raw ++ values_bytes b.values ++ drop n s) (g.front ∙ append_assoc b.head (b.id.raw ++ values_bytes b.values) (drop n s)) in
      let m = at + length b.head in
      let i = at_place id_exact w.id s m (values_bytes b.values ++ drop n s) (sym a.1 ∙ append_assoc b.id.raw (values_bytes b.values) (drop n s)) in
      let k = m + length b.id.raw in
      let v = at_place (values_exact w.by.fields) (values_fits w.values) s k (drop n s) (sym i.1) in
      let z : k + length (values_bytes b.values) ≡ n = sym (g.place ∙ ap (λ x. at + x) (length-append b.head (b.id.raw ++ values_bytes b.values) ∙ ap (λ x. length b.head + x) (length-append b.id.raw (values_bytes b.values))) ∙ omega arith) in
      record { by = w.by; found = w.found; head = a.0; id = i.0; values = v.0 ∙ ap (λ x. ok b.values x (drop x s)) z }
    where
      values_exact : (fs : List (Consumed _)) → Exact (List DataValue) (data_values_parser version fs)
      values_exact fs = record {
        took = λ at s l at' r e.
            let g = values_good fs at s l at' r e in
            (_, record { front = g.front; place = g.place; fits = values_fits g.good });
      }

  -- the id and the values as one
  pub block_body : (b : DataBlock) (p : BlockParts b) → (id_parser >>= (λ i. data_values_parser version p.by.fields)) (at + length b.head) (drop (at + length b.head) s) ≡ ok b.values n (drop n s)
  unfolding ◌>>=◌ after
  block_body b p = rw p.id p.values

  -- the end record
  pub end_head : (l u : List ℕ) → record_parser version env at (drop at s) ≡ ok (end l) n u
      → (m : ℕ) × (r : List ℕ) × (head_parser at (drop at s) ≡ ok ending m r)
  unfolding step_bytes
  end_head l u e =
      let g = record_good env at (drop at s) (end l) n u e in
      let a = at_place head_exact g.good s at u g.front in
      (_, _, a.0)
