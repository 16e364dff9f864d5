-- Loops over the blocks of a file that was read. A loop says by Q what it knows of the blocks in front of it, by the last definitions and all blocks
-- from its start on; `Over` is then its invariant, with one law each for its start, a block and the end.
use mathlib.Core.Path.{◌≡◌, refl, sym, ap, ◌∙◌, subst}
use Prim.Native.Nat.{ℕ, ◌+◌, ◌≤◌, ◌<◌}
use native.Mathlib.Omega.{arith}
use mathlib.Core.Option.{Option, some}
use mathlib.Core.List.{List, [], ◌∷◌}
use lib.ListN.{length, drop}
use Rattle.bsii_format.specs.Reader.{ok}
use Rattle.bsii_format.specs.Prototypes.{Prototype}
use Rattle.bsii_format.specs.Blocks.{DataBlock, get_prototype, data_values_parser}
use Rattle.bsii_format.specs.File.{Record, prototype, block, more, record_parser, record_bytes, define, define_all}
use Rattle.bsii_format.specs.Calls.{Placed, placed, blocks_in, cons_block}
use Rattle.bsii_table.specs.Relation.{Entered}
use Rattle.bsii_table.proofs.Relation.{still_defined, entered_again}
use Rattle.bsii_block.specs.Blocks.{DefinedAt}
use Rattle.bsii_parse.specs.Walks.{records_at}
use Rattle.bsii_walk.specs.Again.{BlockMet, Meets, a_prototype_law, a_block_law, RecordAgain}
use Rattle.bsii_walk.specs.Cursor.{blocks_from, WalkAt, Stood, BlockIs, Ahead, NextIs, NextBlock}
use Rattle.bsii_walk.specs.Seek.{Readable}
use Rattle.bsii_walk.specs.declared.records.Met.{Met}
use Rattle.bsii_walk.specs.declared.records.Met.TheVariants.{Prototype as MetPrototype, Block as MetBlock}
use Rattle.bsii_walk.specs.declared.records.Block.{Block}
use Rattle.bsii_walk.proofs.Parts.{block_parts_law}
use Rattle.std.specs.Prelude.{Some, None, Option as Answer}
use Rattle.bsii_walk.proofs.Seeking.{Passed, Accepted, the_end, a_record, accepted}

-- a walk stands at an offset, and this is known of the blocks in front of it
pub record Here (version : ℕ) (s : List ℕ) (rooms rows : ℕ) (last : List Prototype) (at : ℕ) (t : List ℕ)
    (Q : List (Placed DataBlock) → Type 0) : Type 0 where
  pub env : List Prototype
  pub rest : List Record
  pub standing : WalkAt version s rooms rows last t at env rest
  pub known : Q (blocks_from at rest)

-- ---- one record

-- what it is for the walk that stands in front of it
abbrev RecordIs : ℕ → List ℕ → ℕ → ℕ → List Prototype → ℕ → List Record → Answer Met → List ℕ → Type 0
RecordIs version s rooms rows last at rest (Some (MetPrototype n)) t = (at < n) × (n ≤ length s) × Here version s rooms rows last n t (λ l. blocks_from at rest ≡ l)
RecordIs version s rooms rows last at rest (Some (MetBlock b)) t = NextIs version s rooms rows last at rest (Some b) t
RecordIs version s rooms rows last at rest None t = NextIs version s rooms rows last at rest None t

from_block : (at : ℕ) (b : DataBlock) (l : List Record) {n : ℕ} → n ≡ at + length (record_bytes (block b)) → blocks_from at (block b ∷ l) ≡ record { offset = at; it = b } ∷ blocks_from n l
unfolding placed blocks_in cons_block
from_block at b l e = ap (λ (n : ℕ). record { offset = at; it = b } ∷ blocks_from n l) (sym e)

from_prototype : (at : ℕ) (p : Prototype) (l : List Record) {n : ℕ} → n ≡ at + length (record_bytes (prototype p)) → blocks_from at (prototype p ∷ l) ≡ blocks_from n l
unfolding placed blocks_in cons_block
from_prototype at p l e = ap (λ (n : ℕ). blocks_from n l) (sym e)

some_same : {A : Type 0} {a b : A} → ◌≡◌ {A = Answer A} (Some a) (Some b) → a ≡ b
some_same e = cc

-- a block in its parts
block_is_law : {version : ℕ} {s : List ℕ} {at : ℕ} {last : List Prototype} (env : List Prototype) {n : ℕ} {b : DataBlock} {p q : Prototype} {y : Block} → get_prototype b.prototype_id env ≡ some p
    → get_prototype b.prototype_id last ≡ some q → record_parser version env at (drop at s) ≡ ok (more (block b)) n (drop n s) → (x : BlockMet s at (at + length b.head) n p q (Some y))
    → BlockIs version s last y (record { offset = at; it = b }) × (y.at ≡ at) × (y.next ≡ n)
block_is_law {version} {s} {at} {last} env {n} {b} {p} {q} {y} f g h x =
    let c = block_parts_law version env s at n b h in
    let i : ℕ = at + length b.head + length b.id.raw in
    let m : record { at = at; id = at + length b.head; under = x.in_force; last = x.last; next = n } ≡ y = some_same (sym x.met) in
    let is : BlockIs version s last (record { at = at; id = at + length b.head; under = x.in_force; last = x.last; next = n }) (record { offset = at; it = b }) =
    record {
      place = refl;
      p = p;
      q = q;
      in_force = x.under;
      named = x.named;
      last_is = g;
      head = c.head;
      id_place = refl;
      id = c.id;
      values = subst (λ (r : Prototype). data_values_parser version r.fields i (drop i s) ≡ ok b.values n (drop n s)) (some_is (sym c.found ∙ f))
          c.values;
    } in
    (subst (λ (y : Block). BlockIs version s last y (record { offset = at; it = b })) m is, sym (ap (λ (y : Block). y.at) m), sym (ap (λ (y : Block). y.next) m))
  where
    some_is : {A : Type 0} {a b : A} → ◌≡◌ {A = Option A} (some a) (some b) → a ≡ b
    some_is e = cc

module _ {version : ℕ} {s : List ℕ} {at : ℕ} {t : List ℕ} {rows : ℕ} {m : Answer Met} {t' : List ℕ} (a : RecordAgain version s at t rows m t')
    (inside : at ≤ length s) where
  record_is_law : {rooms : ℕ} {last env : List Prototype} {rest : List Record} → WalkAt version s rooms rows last t at env rest
      → RecordIs version s rooms rows last at rest m t'
  unfolding placed blocks_in define define_all
  record_is_law {rooms} {last} {env} {rest} w = go refl (accepted rooms env at s w.n w.end rest w.reads)
    where
      -- behind the record i
      on : (i : Record) (l : List Record) {n : ℕ} → rest ≡ i ∷ l → records_at version rooms (define i env) n s ≡ ok (record { records = l; end = w.end }) w.n (drop w.n s)
          → Entered (DefinedAt s) t' rows (define i env) last → WalkAt version s rooms rows last t' n (define i env) l
      on i l e d h = record { end = w.end; n = w.n; reads = d; entered = h; lasts = w.lasts ∙ ap (λ r. define_all r env) e }

      met : {i : Record} {l : List Record} {n : ℕ} → rest ≡ i ∷ l → Passed version env s at n i → records_at version rooms (define i env) n s ≡ ok (record { records = l; end = w.end }) w.n (drop w.n s)
          → {m : Answer Met} → Meets s at rows env last n i m t' → RecordIs version s rooms rows last at rest m t'
      met {l = l} {n} e h d (a_prototype_law p {m = k} x) =
          let z : n ≡ k = some_same (sym x.met) in
          subst (λ k. RecordIs version s rooms rows last at rest (Some (MetPrototype k)) t') z (
            h.later,
            h.inside inside,
            record { env = p ∷ env; rest = l; standing = on (prototype p) l e d x.entered; known = ap (blocks_from at) e ∙ from_prototype at p l h.place },
          )
      met {l = l} {n} e h d (a_block_law b {x = y} p q f g x k) =
          let z = block_is_law env f g h.reads x in
          record {
            block = record { offset = at; it = b };
            is = z.0;
            env = env;
            behind = l;
            standing = subst (λ n. WalkAt version s rooms rows last t' n env l) (sym z.2) (on (block b) l e d k);
            blocks = ap (blocks_from at) e ∙ from_block at b l h.place ∙ ap (λ n. record { offset = at; it = b } ∷ blocks_from n l) (sym z.2);
            ahead = omega (arith, z.1);
            later = omega (arith, z.1, z.2, h.later);
            inside = omega (arith, z.2, h.inside inside);
          }

      ends : {m : Answer Met} {u : List ℕ} → m ≡ None → u ≡ t → RecordIs version s rooms rows last at [] m u
      ends {m} {u} z y =
          subst (λ m. RecordIs version s rooms rows last at [] m u) (sym z) (refl, subst (λ x. Entered (DefinedAt s) x rows [] last) (sym y) (entered_again (DefinedAt s) w.entered))

      go : {l : List Record} → rest ≡ l → Accepted version rooms env at s w.n w.end l → RecordIs version s rooms rows last at rest m t'
      go e (the_end h) = let z = a.ends env _ _ _ h in subst (λ l. RecordIs version s rooms rows last at l m t') (sym e) (ends z.0 z.1)
      go e (a_record i n l h d) =
          met e h d
          (a.meets env last w.entered i n h.reads
          (λ id q c. let z = still_defined (i ∷ l) env id c in (z.0, ap (get_prototype id) (w.lasts ∙ ap (λ r. define_all r env) e) ∙ z.1)))

-- ---- a loop

pub readable_stood : {version : ℕ} {s : List ℕ} {start : ℕ} {t : List ℕ} {rows : ℕ} → Readable version s start t rows → Stood version s start t rows
readable_stood w = record { short = w.short; inside = w.inside; rooms = w.rooms; last = w.last; env = []; rest = w.rest; standing = w.standing }

-- it began at `start` with the table t₀ and stands at `at` with the table t
pub record Over (version : ℕ) (s : List ℕ) (start : ℕ) (t₀ : List ℕ) (rows at : ℕ) (t : List ℕ) (Q : List Prototype → List (Placed DataBlock) → List (Placed DataBlock) → Type 0) : Type 0 where
  pub after : start ≤ at
  pub inside : at ≤ length s
  pub size : length t ≡ length t₀
  pub here : (rooms : ℕ) (last env : List Prototype) (rest : List Record) → WalkAt version s rooms rows last t₀ start env rest → Here version s rooms rows last at t (Q last (blocks_from start rest))

pub over_start : {version : ℕ} {s : List ℕ} {start : ℕ} {t₀ : List ℕ} {rows : ℕ}
    {Q : List Prototype → List (Placed DataBlock) → List (Placed DataBlock) → Type 0}
    → start ≤ length s → ((last : List Prototype) (l : List (Placed DataBlock)) → Q last l l) → Over version s start t₀ rows start t₀ Q
over_start {start = start} h q = record {
  after = omega arith;
  inside = h;
  size = refl;
  here = λ rooms last env rest w. record { env = env; rest = rest; standing = w; known = q last (blocks_from start rest) };
}

module _ {version : ℕ} {s : List ℕ} {start : ℕ} {t₀ : List ℕ} {rows at : ℕ} {t : List ℕ}
    {Q : List Prototype → List (Placed DataBlock) → List (Placed DataBlock) → Type 0}
    (o : Over version s start t₀ rows at t Q) where
  pub over_stood : Stood version s start t₀ rows → Stood version s at t rows
  over_stood w =
      let h = o.here _ _ _ _ w.standing in
      record { short = w.short; inside = o.inside; rooms = w.rooms; last = w.last; env = h.env; rest = h.rest; standing = h.standing }

  module _ {r : Answer Block} {t' : List ℕ} (x : NextBlock version s at t rows r t') where
    pub over_end : r ≡ None → (rooms : ℕ) (last env : List Prototype) (rest : List Record) → WalkAt version s rooms rows last t₀ start env rest
        → Q last (blocks_from start rest) [] × Entered (DefinedAt s) t' rows [] last
    over_end z rooms last env rest w =
        let h = o.here rooms last env rest w in
        let n = subst (λ q. NextIs version s rooms rows last at h.rest q t') z (x.next rooms last h.env h.rest h.standing) in
        (subst (Q last (blocks_from start rest)) n.0 h.known, n.1)

    module _ {b : Block} (z : r ≡ Some b) where
      next_ahead : {rooms : ℕ} {last env : List Prototype} {rest : List Record} → WalkAt version s rooms rows last t at env rest → Ahead version s rooms rows last at rest b t'
      next_ahead {rooms} {last} {env} {rest} w = subst (λ q. NextIs version s rooms rows last at rest q t') z (x.next rooms last env rest w)

      -- the block, and what is known with it in front
      pub over_at : (rooms : ℕ) (last env : List Prototype) (rest : List Record) → WalkAt version s rooms rows last t₀ start env rest
          → (y : Placed DataBlock) × (l : List (Placed DataBlock)) × BlockIs version s last b y × Q last (blocks_from start rest) (y ∷ l)
      over_at rooms last env rest w =
          let h = o.here rooms last env rest w in
          let a = next_ahead h.standing in
          (a.block, blocks_from b.next a.behind, a.is, subst (Q last (blocks_from start rest)) a.blocks h.known)

      pub over_later : Stood version s start t₀ rows → (at ≤ b.at) × (b.at < b.next) × (b.next ≤ length s)
      over_later w = let a = next_ahead (o.here _ _ _ _ w.standing).standing in (a.ahead, a.later, a.inside)

      pub over_block_law : Stood version s start t₀ rows → {Q' : List Prototype → List (Placed DataBlock) → List (Placed DataBlock) → Type 0}
          → ((last : List Prototype) (y : Placed DataBlock) (all l : List (Placed DataBlock)) → BlockIs version s last b y → Q last all (y ∷ l) → Q' last all l) → Over version s start t₀ rows b.next t' Q'
      over_block_law w f =
          let p = over_later w in
          record {
            after = omega (arith, p.0, p.1, o.after);
            inside = p.2;
            size = x.size ∙ o.size;
            here = λ rooms last env rest v.
                let h = o.here rooms last env rest v in
                let a = next_ahead h.standing in
                record { env = a.env; rest = a.behind; standing = a.standing; known = f last a.block _ _ a.is (subst (Q last (blocks_from start rest)) a.blocks h.known) };
          }

-- ---- the cursor itself: only prototypes so far, so that the blocks in front are all there are

abbrev pub Same : List Prototype → List (Placed DataBlock) → List (Placed DataBlock) → Type 0
Same last all l = all ≡ l

module _ {version : ℕ} {s : List ℕ} {start : ℕ} {t₀ : List ℕ} {rows at : ℕ} {t : List ℕ} (o : Over version s start t₀ rows at t Same) {m : Answer Met} {t' : List ℕ} (a : RecordAgain version s at t rows m t') where
  met_is : {r : Answer Met} → m ≡ r → {rooms : ℕ} {last env : List Prototype} {rest : List Record} → WalkAt version s rooms rows last t at env rest → RecordIs version s rooms rows last at rest r t'
  met_is z {rooms} {last} {rest = rest} w = subst (λ r. RecordIs version s rooms rows last at rest r t') z (record_is_law a o.inside w)

  pub cursor_end : m ≡ None → NextBlock version s start t₀ rows None t'
  cursor_end z = record {
    next = λ rooms last env rest w.
        let h = o.here rooms last env rest w in
        let n = met_is z h.standing in
        (h.known ∙ n.0, n.1);
    size = a.size ∙ o.size;
  }

  pub cursor_block : {y : Block} → m ≡ Some (MetBlock y) → NextBlock version s start t₀ rows (Some y) t'
  cursor_block z = record {
    next = λ rooms last env rest w.
        let h = o.here rooms last env rest w in
        let b = met_is z h.standing in
        record {
          block = b.block;
          is = b.is;
          env = b.env;
          behind = b.behind;
          standing = b.standing;
          blocks = h.known ∙ b.blocks;
          ahead = omega (arith, o.after, b.ahead);
          later = b.later;
          inside = b.inside;
        };
    size = a.size ∙ o.size;
  }

  module _ {n : ℕ} (z : m ≡ Some (MetPrototype n)) (w : Stood version s start t₀ rows) where
    pub cursor_later : (at < n) × (n ≤ length s)
    cursor_later = let p = met_is z (over_stood o w).standing in (p.0, p.1)

    pub cursor_on : Over version s start t₀ rows n t' Same
    cursor_on = record {
      after = omega (arith, cursor_later.0, o.after);
      inside = cursor_later.1;
      size = a.size ∙ o.size;
      here = λ rooms last env rest v.
          let h = o.here rooms last env rest v in
          let p = (met_is z h.standing).2 in
          record { env = p.env; rest = p.rest; standing = p.standing; known = h.known ∙ p.known };
    }
