-- The new text as a list of marked parts, and an old block's new number: document 01, "An inserted part's text is the bytes that the text form
-- gives for it: the field's lines in each block of that id, the whole block, nothing for a prototype."
use Rattle.std.specs.Prelude.{ℕ, zero, suc, List, [], ◌∷◌, ◌++◌}
use Rattle.std.proofs.Math.Option.{Option, none, some}
use Rattle.bsii_format.specs.Reader.{Consumed}
use Rattle.bsii_format.specs.Values.{Value}
use Rattle.bsii_format.specs.Prototypes.{ValuePrototype}
use Rattle.bsii_format.specs.Blocks.{DataValue, find_by}
use Rattle.bsii_format.specs.BlockText.{block_opening, closing, file_opening}
use Rattle.bsii_widening.specs.Marks.{Mark, old, inserted, unmark, map_mark, all, MarkedPrototype, MarkedBlock, marked_prototype, marked_block, MarkedRecords}

unfoldable pub concat : List (List ℕ) → List ℕ
concat [] = []
concat (s ∷ l) = s ++ concat l

unfoldable pub or_nothing : Option (List ℕ) → List ℕ
or_nothing none = []
or_nothing (some t) = t

-- all definitions, marked, the last one first
unfoldable pub marked_prototypes : MarkedRecords → List (Mark MarkedPrototype) → List (Mark MarkedPrototype)
marked_prototypes [] env = env
marked_prototypes (old (marked_prototype p) ∷ l) env = marked_prototypes l (old p ∷ env)
marked_prototypes (inserted (marked_prototype p) ∷ l) env = marked_prototypes l (inserted p ∷ env)
marked_prototypes (old (marked_block b) ∷ l) env = marked_prototypes l env
marked_prototypes (inserted (marked_block b) ∷ l) env = marked_prototypes l env

abbrev pub get_marked : ℕ → List (Mark MarkedPrototype) → Option (Mark MarkedPrototype)
get_marked = find_by (λ (m : Mark MarkedPrototype). (unmark m).id)

-- `text` gives a field's lines, as in the text's own definition
module _ (text : ValuePrototype → Value → Option (List ℕ)) where
  unfoldable pub lines_of : ValuePrototype → DataValue → List ℕ
  lines_of d v = or_nothing (text d v.value)

  -- a field's lines are an inserted part exactly where its value is one
  unfoldable pub field_parts : List (Mark (Consumed ValuePrototype)) → List (Mark DataValue) → List (Mark (List ℕ))
  field_parts [] l = []
  field_parts (f ∷ fs) [] = []
  field_parts (f ∷ fs) (v ∷ l) = map_mark (lines_of (unmark f).value) v ∷ field_parts fs l

  unfoldable pub block_parts : Option (Mark MarkedPrototype) → MarkedBlock → List (Mark (List ℕ))
  block_parts none b = []
  block_parts (some m) b = old (block_opening (unmark m).name b.id.value) ∷ (field_parts (unmark m).fields b.values ++ (old closing ∷ []))

  -- an inserted block is one part: what was inserted into it "goes with it"
  unfoldable pub record_parts : List (Mark MarkedPrototype) → MarkedRecords → List (Mark (List ℕ))
  record_parts last [] = []
  record_parts last (old (marked_prototype p) ∷ l) = record_parts last l
  record_parts last (inserted (marked_prototype p) ∷ l) = record_parts last l
  record_parts last (old (marked_block b) ∷ l) = block_parts (get_marked b.prototype_id last) b ++ record_parts last l
  record_parts last (inserted (marked_block b) ∷ l) = inserted (concat (all (block_parts (get_marked b.prototype_id last) b))) ∷ record_parts last l

  -- The whole text. It is cut by this definition, so nobody chooses the cut: the parts marked inserted are those of the inserted fields and
  -- blocks, "left out by its place in the new text"
  unfoldable pub text_parts : MarkedRecords → List (Mark (List ℕ))
  text_parts M = old file_opening ∷ (record_parts (marked_prototypes M []) M ++ (old closing ∷ []))

-- "An old block's new number is its old one plus the number of inserted blocks in front of it"
unfoldable pub renumber : MarkedRecords → ℕ → ℕ
renumber [] k = k
renumber (old (marked_prototype p) ∷ l) k = renumber l k
renumber (inserted (marked_prototype p) ∷ l) k = renumber l k
renumber (inserted (marked_block b) ∷ l) k = suc (renumber l k)
renumber (old (marked_block b) ∷ l) zero = zero
renumber (old (marked_block b) ∷ l) (suc k) = suc (renumber l k)

-- how many prototypes and blocks were inserted
unfoldable pub inserted_prototypes : MarkedRecords → ℕ
inserted_prototypes [] = 0
inserted_prototypes (old r ∷ l) = inserted_prototypes l
inserted_prototypes (inserted (marked_prototype p) ∷ l) = suc (inserted_prototypes l)
inserted_prototypes (inserted (marked_block b) ∷ l) = inserted_prototypes l

unfoldable pub inserted_blocks : MarkedRecords → ℕ
inserted_blocks [] = 0
inserted_blocks (old r ∷ l) = inserted_blocks l
inserted_blocks (inserted (marked_prototype p) ∷ l) = inserted_blocks l
inserted_blocks (inserted (marked_block b) ∷ l) = suc (inserted_blocks l)
