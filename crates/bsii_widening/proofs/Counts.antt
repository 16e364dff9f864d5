-- The reading call's counts: where no id is defined twice there are as many distinct ids as prototypes, and of the new file's prototypes and blocks those
-- that were not inserted are the old file's.
use mathlib.Core.Path.{◌≡◌, refl, sym, ap, ◌∙◌}
use Prim.Native.Nat.{ℕ, suc, ◌+◌}
use native.Mathlib.Omega.{arith}
use mathlib.Core.Bool.{Bool, true, false, cond, not, ◌||◌}
use mathlib.Core.Option.{Option, none, some}
use mathlib.Core.List.{List, [], ◌∷◌}
use lib.ListN.{length}
use lib.Dec.{T, eqb, eqb_refl}
use Rattle.bsii_format.specs.Strings.{is_some}
use Rattle.bsii_format.specs.Prototypes.{Prototype}
use Rattle.bsii_format.specs.Blocks.{find_by, get_prototype}
use Rattle.bsii_format.specs.File.{Record, prototype, block, record_bytes, define, define_all, prototypes_of, distinct_ids, parse, file_bytes}
use Rattle.bsii_format.specs.Replies.{gives}
use Rattle.bsii_format.specs.Calls.{Reading, reading_of, placed, placed_records, cons_block, blocks_in, blocks_of}
use Rattle.bsii_format.proofs.ReplyLaws.{gives_inj, of_read}
use Rattle.bsii_widening.specs.Marks.{old, inserted, unmark, marked_prototype, marked_block, MarkedRecords, new_records, old_records}
use Rattle.bsii_widening.specs.Insertions.{defines_id, NoIdTwice}
use Rattle.bsii_widening.specs.Parts.{inserted_prototypes, inserted_blocks}
use Rattle.bsii_widening.specs.Claim.{widened, new_save, new_file}
use Rattle.bsii_widening.specs.Observers.{ReadingSurvives}
use Rattle.bsii_widening.proofs.Environments.{none≢some}
use Rattle.bsii_widening.proofs.Once.{Apart, apart_prototype}
use Rattle.bsii_widening.proofs.Lookups.{blocks}
use Rattle.bsii_widening.proofs.Core.{once_widened, widens}

-- ---- how many there are

prototype_count : List Record → ℕ
prototype_count [] = 0
prototype_count (prototype p ∷ l) = suc (prototype_count l)
prototype_count (block b ∷ l) = prototype_count l

blocks_count : (at : ℕ) (l : List Record) → length (blocks_in (placed (λ r. length (record_bytes r)) at l)) ≡ length (blocks l)
unfolding blocks_in placed cons_block blocks
blocks_count at [] = refl
blocks_count at (prototype p ∷ l) = blocks_count (at + length (record_bytes (prototype p))) l
blocks_count at (block b ∷ l) = ap suc (blocks_count (at + length (record_bytes (block b))) l)

-- an id that is to be defined is not known yet
new_id : (env : List Prototype) (p : Prototype) (l : List Record) → Apart env (prototype p ∷ l) → distinct_ids (p ∷ env) ≡ suc (distinct_ids env)
unfolding distinct_ids defines_id
new_id env p l a = go (get_prototype p.id env) refl
  where
    own : (b : Bool) → T b → T (not (b || defines_id p.id l)) → ⊥
    own true h k = k
    own false h k = h

    go : (o : Option Prototype) → get_prototype p.id env ≡ o → cond (is_some o) (distinct_ids env) (suc (distinct_ids env)) ≡ suc (distinct_ids env)
    go none e = unfold is_some in refl
    go (some q) e = absurd (own (eqb p.id p.id) (eqb_refl p.id) (a p.id q e))

ids_count : (l : List Record) (env : List Prototype) → Apart env l → NoIdTwice l → distinct_ids (define_all l env) ≡ distinct_ids env + prototype_count l
unfolding define_all define prototype_count defines_id
ids_count [] env a o = omega arith
ids_count (block b ∷ l) env a o = ids_count l env a o
ids_count (prototype p ∷ l) env a o = ids_count l (p ∷ env) (apart_prototype env p l a o.0) o.1 ∙ omega (arith, new_id env p l a)

distinct_count : (l : List Record) → NoIdTwice l → distinct_ids (prototypes_of l) ≡ prototype_count l
unfolding prototypes_of distinct_ids find_by
distinct_count l o = ids_count l [] (λ m q z. none≢some z) o ∙ omega arith

-- ---- what was inserted

prototypes_more : (M : MarkedRecords) → prototype_count (new_records M) ≡ prototype_count (old_records M) + inserted_prototypes M
unfolding prototype_count new_records old_records inserted_prototypes unmark
prototypes_more [] = omega arith
prototypes_more (old (marked_prototype p) ∷ l) = omega (arith, prototypes_more l)
prototypes_more (old (marked_block b) ∷ l) = prototypes_more l
prototypes_more (inserted (marked_prototype p) ∷ l) = omega (arith, prototypes_more l)
prototypes_more (inserted (marked_block b) ∷ l) = prototypes_more l

blocks_more : (M : MarkedRecords) → length (blocks (new_records M)) ≡ length (blocks (old_records M)) + inserted_blocks M
unfolding blocks new_records old_records inserted_blocks unmark
blocks_more [] = omega arith
blocks_more (old (marked_prototype p) ∷ l) = blocks_more l
blocks_more (old (marked_block b) ∷ l) = omega (arith, blocks_more l)
blocks_more (inserted (marked_prototype p) ∷ l) = blocks_more l
blocks_more (inserted (marked_block b) ∷ l) = omega (arith, blocks_more l)

pub reading_survives : ReadingSurvives
unfolding reading_of blocks_of placed_records
reading_survives words s f at r o a e l allowed u words' m =
    let M = widened f l in
    let w = widens o l allowed m in
    let is : reading_of f at ≡ a = gives_inj e in (
      reading_of (new_save f M) (length (file_bytes (new_save f M))),
      of_read (λ f at. gives (reading_of f at)) (parse words' (new_file f r M)) w.reads,
      (
        distinct_count (new_records M) (once_widened o l allowed) ∙ prototypes_more M
            ∙ ap (λ n. n + inserted_prototypes M) (ap prototype_count w.before ∙ sym (distinct_count f.records o.once) ∙ ap (λ (z : Reading). z.prototypes) is),
        blocks_count (length f.header.raw) (new_records M) ∙ blocks_more M
            ∙ ap (λ n. n + inserted_blocks M) (ap (λ z. length (blocks z)) w.before ∙ sym (blocks_count (length f.header.raw) f.records) ∙ ap (λ (z : Reading). z.blocks) is),
      ),
    )
