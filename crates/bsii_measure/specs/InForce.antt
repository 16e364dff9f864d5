-- The text under the definitions in force: what one walk over a file can add up. It is the file's text where no prototype id is defined twice, since a
-- definition in force is the last one of its id then.
use Rattle.std.specs.Prelude.{ℕ, ◌+◌, List, [], ◌∷◌, length}
use Rattle.std.proofs.Math.Option.{Option}
use Rattle.bsii_format.specs.Replies.{Reply, gives}
use Rattle.bsii_format.specs.Values.{Value}
use Rattle.bsii_format.specs.Prototypes.{ValuePrototype, Prototype}
use Rattle.bsii_format.specs.Blocks.{get_prototype}
use Rattle.bsii_format.specs.File.{Record, prototype, block, record_bytes}
use Rattle.bsii_format.specs.BlockText.{joined, block_text}

module _ (text : ValuePrototype → Value → Option (List ℕ)) where
  -- As `records_text`, with the definitions so far, the last one first: a prototype is added to them, and a block is written under the one that is in force
  -- at its place. The first record stands at the offset `at`.
  unfoldable pub in_force_text : List Prototype → ℕ → List Record → Reply (List ℕ)
  in_force_text env at [] = gives []
  in_force_text env at (prototype p ∷ l) = in_force_text (p ∷ env) (at + length (record_bytes (prototype p))) l
  in_force_text env at (block b ∷ l) =
      joined (block_text text at (get_prototype b.prototype_id env) b) (in_force_text env (at + length (record_bytes (block b))) l)
