-- The text of the new file is all parts of `text_parts`, and that of the old file is those that are left without the inserted ones: by induction along the
-- invariant, a block's text being cut as `block_parts` cuts it.
use mathlib.Core.Path.{◌≡◌, refl, sym, ap, ◌∙◌, subst}
use Prim.Native.Nat.{ℕ, ◌+◌}
use mathlib.Core.Option.{Option, some}
use mathlib.Core.List.{List, [], ◌∷◌, ◌++◌, append_assoc, append-nil}
use lib.ListN.{length}
use lib.Dec.{T, eqb, eqb_refl}
use Rattle.bsii_format.specs.Replies.{gives}
use Rattle.bsii_format.specs.Reader.{Consumed}
use Rattle.bsii_format.specs.Values.{Value}
use Rattle.bsii_format.specs.Prototypes.{ValuePrototype, Prototype}
use Rattle.bsii_format.specs.Blocks.{DataValue, DataBlock, get_prototype}
use Rattle.bsii_format.specs.File.{BsiiFile, prototype, block, record_bytes}
use Rattle.bsii_format.specs.BlockText.{joined, or_refuse, block_opening, closing, file_opening, values_offset, fields_text, block_text, every_block, records_text, file_text}
use Rattle.bsii_format.proofs.Readers.{is_true}
use Rattle.bsii_format.proofs.ReplyLaws.{joined_gives}
use Rattle.bsii_widening.specs.Marks.{Mark, old, inserted, unmark, map_mark, all, olds, MarkedPrototype, MarkedBlock, MarkedRecords, new_prototype, old_prototype, new_block, old_block, new_records, old_records}
use Rattle.bsii_widening.specs.Parts.{concat, or_nothing, marked_prototypes, get_marked, lines_of, field_parts, block_parts, record_parts, text_parts}
use Rattle.bsii_widening.proofs.Marks.{all_append, olds_append}
use Rattle.bsii_widening.proofs.Environments.{some_inj, new_env, old_env, new_last, old_last, new_known, old_known}
use Rattle.bsii_widening.proofs.Fields.{Says, none_left, saying, says_length, says_old, Aligned, level, both_old, both_new}
use Rattle.bsii_widening.proofs.Invariant.{OldBlock, FineBlock, Inv, done, prototype_old, prototype_new, block_old, block_new, Sound}

-- ---- lists of parts

concat_append : (a b : List (List ℕ)) → concat (a ++ b) ≡ concat a ++ concat b
unfolding concat
concat_append [] b = refl
concat_append (x ∷ a) b = ap (λ z. x ++ z) (concat_append a b) ∙ sym (append_assoc x (concat a) (concat b))

-- parts between an opening and the closing line
framed_all : (o : List ℕ) (x : List (Mark (List ℕ))) → concat (all (old o ∷ (x ++ (old closing ∷ [])))) ≡ o ++ concat (all x) ++ closing
unfolding concat all
framed_all o x =
    ap (λ z. o ++ z) (ap concat (all_append x (old closing ∷ [])) ∙ concat_append (all x) (closing ∷ []) ∙ ap (λ z. concat (all x) ++ z) (append-nil closing))
    ∙ sym (append_assoc o (concat (all x)) closing)

framed_olds : (o : List ℕ) (x : List (Mark (List ℕ))) → concat (olds (old o ∷ (x ++ (old closing ∷ [])))) ≡ o ++ concat (olds x) ++ closing
unfolding concat olds
framed_olds o x =
    ap (λ z. o ++ z) (ap concat (olds_append x (old closing ∷ [])) ∙ concat_append (olds x) (closing ∷ []) ∙ ap (λ z. concat (olds x) ++ z) (append-nil closing))
    ∙ sym (append_assoc o (concat (olds x)) closing)

module _ (text : ValuePrototype → Value → Option (List ℕ)) where
  -- ---- a block

  lines : List (Consumed ValuePrototype) → List DataValue → List ℕ
  lines [] l = []
  lines (f ∷ fs) [] = []
  lines (f ∷ fs) (v ∷ l) = lines_of text f.value v ++ lines fs l

  says_text : {fs : List (Consumed ValuePrototype)} {l : List DataValue} (at : ℕ) → Says text fs l → fields_text text at fs l ≡ gives (lines fs l)
  unfolding fields_text lines joined or_refuse lines_of or_nothing
  says_text at none_left = refl
  says_text at (saying {v = v} t e h) = rw (e, says_text (at + length v.raw) h)

  block_text_law : (at : ℕ) (o : Option Prototype) (b : DataBlock) (p : Prototype) → o ≡ some p → Says text p.fields b.values
      → block_text text at o b ≡ gives (block_opening p.name b.id.value ++ lines p.fields b.values ++ closing)
  unfolding block_text joined
  block_text_law at o b p e h =
      let same : T (eqb (length p.fields) (length b.values)) = subst (λ n. T (eqb (length p.fields) n)) (says_length h) (eqb_refl (length p.fields)) in
      ap (λ o. block_text text at o b) e ∙ rw (is_true (eqb (length p.fields) (length b.values)) same, says_text (values_offset at b) h)

  lines_all : (fs : List (Mark (Consumed ValuePrototype))) (l : List (Mark DataValue)) → concat (all (field_parts text fs l)) ≡ lines (all fs) (all l)
  unfolding concat all field_parts lines map_mark unmark
  lines_all [] l = refl
  lines_all (old f ∷ fs) [] = refl
  lines_all (inserted f ∷ fs) [] = refl
  lines_all (old f ∷ fs) (old v ∷ l) = ap (λ z. lines_of text f.value v ++ z) (lines_all fs l)
  lines_all (old f ∷ fs) (inserted v ∷ l) = ap (λ z. lines_of text f.value v ++ z) (lines_all fs l)
  lines_all (inserted f ∷ fs) (old v ∷ l) = ap (λ z. lines_of text f.value v ++ z) (lines_all fs l)
  lines_all (inserted f ∷ fs) (inserted v ∷ l) = ap (λ z. lines_of text f.value v ++ z) (lines_all fs l)

  lines_olds : {fs : List (Mark (Consumed ValuePrototype))} {l : List (Mark DataValue)} → Aligned fs l → concat (olds (field_parts text fs l)) ≡ lines (olds fs) (olds l)
  unfolding concat olds field_parts lines map_mark unmark
  lines_olds level = refl
  lines_olds (both_old {f = f} {v = v} h) = ap (λ z. lines_of text f.value v ++ z) (lines_olds h)
  lines_olds (both_new h) = lines_olds h

  block_all : (o : Option (Mark MarkedPrototype)) (m : Mark MarkedPrototype) (b : MarkedBlock) → o ≡ some m
      → concat (all (block_parts text o b)) ≡ block_opening (unmark m).name b.id.value ++ lines (all (unmark m).fields) (all b.values) ++ closing
  unfolding block_parts
  block_all o m b e = rw e
      (framed_all (block_opening (unmark m).name b.id.value) (field_parts text (unmark m).fields b.values)
      ∙ ap (λ z. block_opening (unmark m).name b.id.value ++ z ++ closing) (lines_all (unmark m).fields b.values))

  block_olds : (o : Option (Mark MarkedPrototype)) (p : MarkedPrototype) (b : MarkedBlock) → o ≡ some (old p) → Aligned p.fields b.values
      → concat (olds (block_parts text o b)) ≡ block_opening p.name b.id.value ++ lines (olds p.fields) (olds b.values) ++ closing
  unfolding block_parts unmark
  block_olds o p b e h = rw e
      (framed_olds (block_opening p.name b.id.value) (field_parts text p.fields b.values)
      ∙ ap (λ z. block_opening p.name b.id.value ++ z ++ closing) (lines_olds h))

  -- ---- the records

  new_blocks : {version : ℕ} {last env : List (Mark MarkedPrototype)} {M : MarkedRecords} (at : ℕ) → Inv version text last env M
      → records_text text every_block (new_env last) at (new_records M) ≡ gives (concat (all (record_parts text last M)))
  unfolding records_text new_records unmark record_parts all concat
  new_blocks at done = refl
  new_blocks at (prototype_old {p = p} g h) = new_blocks (at + length (record_bytes (prototype (new_prototype p)))) h
  new_blocks at (prototype_new {p = p} g h) = new_blocks (at + length (record_bytes (prototype (new_prototype p)))) h
  new_blocks {last} at (block_old {b = b} {l = l} g o h) =
      joined_gives _ _ (block_text_law at (get_prototype b.prototype_id (new_env last)) (new_block b) (new_prototype (unmark g.by')) (new_known b.prototype_id last g.found') g.says)
      (new_blocks (at + length (record_bytes (block (new_block b)))) h)
      ∙ ap gives (ap (λ z. z ++ concat (all (record_parts text last l))) (sym (block_all (get_marked b.prototype_id last) g.by' b g.found'))
      ∙ sym (ap concat (all_append (block_parts text (get_marked b.prototype_id last) b) (record_parts text last l))
      ∙ concat_append (all (block_parts text (get_marked b.prototype_id last) b)) (all (record_parts text last l))))
  new_blocks {last} at (block_new {b = b} {l = l} g h) =
      joined_gives _ _ (block_text_law at (get_prototype b.prototype_id (new_env last)) (new_block b) (new_prototype (unmark g.by')) (new_known b.prototype_id last g.found') g.says)
      (new_blocks (at + length (record_bytes (block (new_block b)))) h)
      ∙ ap gives (ap (λ z. z ++ concat (all (record_parts text last l))) (sym (block_all (get_marked b.prototype_id last) g.by' b g.found')))

  old_says : {version : ℕ} {last env : List (Mark MarkedPrototype)} {b : MarkedBlock} → FineBlock version text last env b → (o : OldBlock last b) → Says text (all o.by.fields) (all b.values)
  unfolding unmark
  old_says {last} {env} {b} g o = subst (λ (m : Mark MarkedPrototype). Says text (all (unmark m).fields) (all b.values)) (some_inj (sym g.found' ∙ o.found)) g.says

  old_blocks : {version : ℕ} {last env : List (Mark MarkedPrototype)} {M : MarkedRecords} (at : ℕ) → Inv version text last env M
      → records_text text every_block (old_env last) at (old_records M) ≡ gives (concat (olds (record_parts text last M)))
  unfolding records_text old_records record_parts olds concat
  old_blocks at done = refl
  old_blocks at (prototype_old {p = p} g h) = old_blocks (at + length (record_bytes (prototype (old_prototype p)))) h
  old_blocks at (prototype_new g h) = old_blocks at h
  old_blocks {last} at (block_old {b = b} {l = l} g o h) =
      joined_gives _ _
      (block_text_law at (get_prototype b.prototype_id (old_env last)) (old_block b) (old_prototype o.by) (old_known b.prototype_id last o.found) (says_old o.aligned (old_says g o)))
      (old_blocks (at + length (record_bytes (block (old_block b)))) h)
      ∙ ap gives (ap (λ z. z ++ concat (olds (record_parts text last l))) (sym (block_olds (get_marked b.prototype_id last) o.by b o.found o.aligned))
      ∙ sym (ap concat (olds_append (block_parts text (get_marked b.prototype_id last) b) (record_parts text last l))
      ∙ concat_append (olds (block_parts text (get_marked b.prototype_id last) b)) (olds (record_parts text last l))))
  old_blocks at (block_new g h) = old_blocks at h

  -- ---- the file

  pub new_text_law : {version : ℕ} (f : BsiiFile) (M : MarkedRecords) → Sound version text M
      → file_text text every_block (record { header = f.header; records = new_records M; end = f.end }) ≡ gives (concat (all (text_parts text M)))
  unfolding file_text text_parts joined
  new_text_law f M h = rw (new_last M, new_blocks (length f.header.raw) h) (ap gives (sym (framed_all file_opening (record_parts text (marked_prototypes M []) M))))

  pub old_text : {version : ℕ} (f : BsiiFile) (M : MarkedRecords) → Sound version text M
      → file_text text every_block (record { header = f.header; records = old_records M; end = f.end }) ≡ gives (concat (olds (text_parts text M)))
  unfolding file_text text_parts joined
  old_text f M h = rw (old_last M, old_blocks (length f.header.raw) h) (ap gives (sym (framed_olds file_opening (record_parts text (marked_prototypes M []) M))))
