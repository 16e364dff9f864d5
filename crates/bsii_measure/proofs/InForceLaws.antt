-- The text under the definitions in force: record by record, and where it is the text under the last ones.
use mathlib.Core.Path.{◌≡◌, refl, sym, ap, ap₂, ◌∙◌}
use Prim.Native.Nat.{ℕ, ◌+◌}
use native.Mathlib.Nat.{add-zero}
use native.Mathlib.Omega.{arith}
use mathlib.Core.Bool.{true}
use mathlib.Core.Option.{Option}
use mathlib.Core.List.{List, [], ◌∷◌, ◌++◌}
use lib.ListN.{length, length-append}
use Rattle.bsii_format.specs.Replies.{gives}
use Rattle.bsii_format.specs.Values.{Value}
use Rattle.bsii_format.specs.Prototypes.{ValuePrototype, Prototype}
use Rattle.bsii_format.specs.Blocks.{get_prototype}
use Rattle.bsii_format.specs.File.{Record, prototype, block, record_bytes, records_bytes, define, define_all, prototypes_of, BsiiFile}
use Rattle.bsii_format.specs.BlockText.{joined, closing, file_opening, block_text, every_block, records_text, file_text}
use Rattle.bsii_format.proofs.Records.{GoodRecords, nil, cons}
use Rattle.bsii_derived.specs.IndexCalls.{once}
use Rattle.bsii_derived.proofs.Once.{known_once}
use Rattle.bsii_measure_block.proofs.SumLaws.{none_joined, joined_assoc}
use Rattle.bsii_measure.specs.InForce.{in_force_text}

module _ (text : ValuePrototype → Value → Option (List ℕ)) where
  -- what follows some records has their definitions in front of it
  pub in_force_append : (env : List Prototype) (at : ℕ) (l m : List Record)
      → in_force_text text env at (l ++ m) ≡ joined (in_force_text text env at l) (in_force_text text (define_all l env) (at + length (records_bytes l)) m)
  unfolding in_force_text records_bytes define_all define
  in_force_append env at [] m = ap (λ n. in_force_text text env n m) (sym (add-zero at)) ∙ sym (none_joined (in_force_text text env (at + 0) m))
  in_force_append env at (prototype p ∷ l) m =
      in_force_append (p ∷ env) (at + length (record_bytes (prototype p))) l m
      ∙ ap (λ n. joined (in_force_text text (p ∷ env) (at + length (record_bytes (prototype p))) l) (in_force_text text (define_all l (p ∷ env)) n m)) (rw length-append (omega arith))
  in_force_append env at (block b ∷ l) m =
      let here = block_text text at (get_prototype b.prototype_id env) b in
      let behind = in_force_text text env (at + length (record_bytes (block b))) l in
      ap (joined here)
      (in_force_append env (at + length (record_bytes (block b))) l m ∙ ap (λ n. joined behind (in_force_text text (define_all l env) n m)) (rw length-append (omega arith)))
      ∙ sym (joined_assoc here behind (in_force_text text (define_all l env) (at + length (records_bytes (block b ∷ l))) m))

  -- ---- where no id is defined twice

  -- a block of records that were read has a definition in force, which is the last one of its id
  pub in_force_last : {version : ℕ} {env : List Prototype} {l : List Record} → GoodRecords version env l → once (define_all l env) ≡ true → (at : ℕ)
      → in_force_text text env at l ≡ records_text text every_block (define_all l env) at l
  unfolding in_force_text records_text define_all define
  in_force_last nil o at = refl
  in_force_last (cons {env = env} {i = prototype p} {l = l} g k) o at = in_force_last k o (at + length (record_bytes (prototype p)))
  in_force_last (cons {env = env} {i = block b} {l = l} g k) o at =
      ap₂ joined (ap (λ q. block_text text at q b) (g.found ∙ sym (known_once b.prototype_id l env o g.found))) (in_force_last k o (at + length (record_bytes (block b))))

  -- the file's text, with its frame
  pub framed_last : (f : BsiiFile) {version : ℕ} → GoodRecords version [] f.records → once (prototypes_of f.records) ≡ true
      → joined (joined (gives file_opening) (in_force_text text [] (length f.header.raw) f.records)) (gives closing) ≡ file_text text every_block f
  unfolding file_text prototypes_of
  framed_last f g o = ap (λ x. joined (joined (gives file_opening) x) (gives closing)) (in_force_last g o (length f.header.raw))
