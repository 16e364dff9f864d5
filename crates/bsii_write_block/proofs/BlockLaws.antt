-- A block from its parts.
use mathlib.Core.Path.{◌≡◌, refl, sym, ap, ap₂, ◌∙◌, subst}
use Prim.Native.Nat.{ℕ, suc, ◌+◌, ◌-◌, ◌≤◌}
use mathlib.Core.Bool.{Bool, true, false, not}
use mathlib.Core.Option.{Option, some}
use mathlib.Core.List.{List, [], ◌∷◌}
use lib.Dec.{T, eqb, eqb_refl}
use lib.ListN.{length, take, drop}
use Rattle.bsii_format.specs.Replies.{Reply, gives, refuses, refusal, field_count}
use Rattle.bsii_format.specs.Reader.{ok, Consumed}
use Rattle.bsii_format.specs.Strings.{Id, id_parser}
use Rattle.bsii_format.specs.Values.{Value}
use Rattle.bsii_format.specs.Prototypes.{ValuePrototype, Prototype, Fields, fields_parser}
use Rattle.bsii_format.specs.Blocks.{DataValue, DataBlock, data_values_parser}
use Rattle.bsii_format.specs.File.{head_parser}
use Rattle.bsii_format.specs.BlockText.{joined, block_opening, closing, values_offset, fields_text, block_text}
use Rattle.bsii_format.proofs.Readers.{is_true, ok_at, ok_val}
use Rattle.bsii_format.proofs.Parsers.{id_exact}
use Rattle.bsii_string.specs.Answers.{fault_is, refused_at, end_of}
use Rattle.bsii_string.specs.declared.answers.Refusal.{Refusal}
use Rattle.std.specs.Prelude.{Ok, Err, Result as Outcome}
use Rattle.bsii_string.proofs.Ends.{next≢fault, next_same}
use Rattle.bsii_prototype.specs.Entries.{unchecked_head}
use Rattle.bsii_prototype.proofs.Beginnings.{head_past}
use Rattle.bsii_skip.specs.Unchecked.{unchecked_id}
use Rattle.bsii_skip.proofs.Values.{next, id_follows}
use Rattle.bsii_skip.proofs.Blocks.{turn, done}
use Rattle.bsii_block.specs.Blocks.{DefinedAt}
use Rattle.bsii_walk.proofs.Naming.{head_ends, name_inside, standing}
use Rattle.bsii_definition.specs.Pairs.{SameCount}
use Rattle.bsii_value.proofs.ElementTexts.{own_bytes}
use Rattle.bsii_window.specs.Window.{Wrote}
use Rattle.bsii_window.proofs.Laws.{then, same}
use Rattle.bsii_opening.specs.Blocks.{OpeningWritten}
use Rattle.bsii_write_block.proofs.FieldLaws.{behind_text}
use Rattle.bsii_write_block.specs.Blocks.{WrittenIs, FieldsWritten, BodyWritten, SameFields, BlockWritten}
use Rattle.bsii_write_value.specs.declared.values.Lines.{Lines}

-- ---- texts one behind the other

-- a text in front of another
closed : (old : List ℕ) (to : ℕ) (o : Reply (List ℕ)) (n : ℕ) (l : Lines) (mid : List ℕ) → WrittenIs old to o n (Ok l) mid → {x : List ℕ} {r : ℕ} {new : List ℕ} → Wrote mid l.to x r new
    → WrittenIs old to (joined o (gives x)) n (Ok (record { at = l.at; to = r })) new
unfolding joined
closed old to (gives t) n l mid h w = (h.0, then h.1 w)
closed old to (refuses f) n l mid h w = absurd h

refused : (old : List ℕ) (to : ℕ) (o x : Reply (List ℕ)) (n : ℕ) (g : Refusal) (new : List ℕ) → WrittenIs old to o n (Err g) new → WrittenIs old to (joined o x) n (Err g) new
unfolding joined
refused old to (gives t) x n g new h = absurd h
refused old to (refuses f) x n g new h = h

-- ---- how many fields the two definitions have

fields_of : {s : List ℕ} {o : ℕ} {p : Prototype} (h : DefinedAt s o p) {k : ℕ} → h.fields ≡ k → fields_parser k (drop k s) ≡ ok (record { fields = p.fields; terminator = p.terminator }) h.next (drop h.next s)
fields_of {s} h e = ap (λ (k : ℕ). fields_parser k (drop k s)) (sym e) ∙ h.list

module _ (s : List ℕ) (in_force last fields last_fields : ℕ) where
  pub same_one : in_force ≡ last → SameFields s in_force last fields last_fields true
  same_one z = record {
    is = λ p q h k a b.
        let e : h.fields ≡ k.fields = ok_at (sym h.head ∙ ap (λ (o : ℕ). head_parser o (drop o s)) z ∙ k.head) in
        let f : p.fields ≡ q.fields = ap (λ (l : Fields). l.fields) (ok_val (sym h.list ∙ ap (λ (o : ℕ). fields_parser o (drop o s)) e ∙ k.list)) in
        sym (is_true (eqb (length q.fields) (length p.fields)) (subst (λ (n : ℕ). T (eqb (length q.fields) n)) (ap length (sym f)) (eqb_refl (length q.fields))));
  }

  pub same_both : {r : Bool} → SameCount s fields last_fields r → SameFields s in_force last fields last_fields r
  same_both w = record {
    is = λ p q h k a b.
        w.is (record { fields = p.fields; terminator = p.terminator }) h.next (drop h.next s) (fields_of h a)
        (record { fields = q.fields; terminator = q.terminator }) k.next (drop k.next s) (fields_of k b);
  }

-- a block has a value for each definition in force
values_length : (version : ℕ) (fs : List (Consumed ValuePrototype)) (s : List ℕ) (at : ℕ) {vs : List DataValue} {e : ℕ} {r : List ℕ} → data_values_parser version fs at (drop at s) ≡ ok vs e r → length vs ≡ length fs
values_length version [] s at h = ap length (done version h).0
values_length version (f ∷ fs) s at h = let w = turn f fs s at h in ap length w.both ∙ ap suc (values_length version fs s w.end w.others)

-- ---- what was accepted ends where the unchecked readers say

id_past : (s : List ℕ) (at : ℕ) {v : Id} {n : ℕ} → id_parser at (drop at s) ≡ ok v n (drop n s) → end_of (unchecked_id at (drop at s)) ≡ Ok n
id_past s at e = next id_follows at (drop at s) e

stands : (s : List ℕ) (o : ℕ) (p : Prototype) (x : DefinedAt s o p) → end_of (unchecked_head o (drop o s)) ≡ Ok x.fields
stands s o p x = standing s o refl p x

-- where a name lies, also where nobody knows that a prototype stands there
pub head_inside : (s : List ℕ) (o : ℕ) {n : ℕ} → Ok n ≡ end_of (unchecked_head o (drop o s)) → (o + 13 ≤ n) × (n ≤ length s)
head_inside s o e = name_inside s o e refl

-- `text` gives the lines of a value
module _ (text : ValuePrototype → Value → Option (List ℕ)) where
  -- ---- the fields between the opening and the end

  module _ {version : ℕ} (s : List ℕ) (id start fields name last_fields : ℕ) {old : List ℕ} {to p : ℕ} {mid : List ℕ} (w : OpeningWritten (take (last_fields - name) (drop name s)) (take (start - id) (drop id s)) old to p mid) where
    pub body_refused : {x : Refusal} {new : List ℕ} → FieldsWritten text version s start fields last_fields mid p (Err x) new → BodyWritten text version s id start fields name last_fields old to (Err x) new
    body_refused {x} {new} h = record {
      writes = λ i f l n t e m q u g vs d c v.
          refused old to (joined (gives (block_opening (take (last_fields - name) (drop name s)) i)) (fields_text text start m.fields vs)) (gives closing) d x new
          (behind_text (w.writes i (own_bytes id_exact s id f)) (fields_text text start m.fields vs) d (Err x) new (h.writes l n t e m q u g vs d c v));
      size = h.size ∙ w.size;
    }

    pub body_written : {b : Lines} {r : ℕ} {m₁ new : List ℕ} → FieldsWritten text version s start fields last_fields mid p (Ok b) m₁ → Wrote m₁ b.to closing r new
        → BodyWritten text version s id start fields name last_fields old to (Ok (record { at = b.at; to = r })) new
    body_written {b} {r} {m₁} {new} h x = record {
      writes = λ i f l n t e m q u g vs d c v.
          closed old to (joined (gives (block_opening (take (last_fields - name) (drop name s)) i)) (fields_text text start m.fields vs)) d b m₁
          (behind_text (w.writes i (own_bytes id_exact s id f)) (fields_text text start m.fields vs) d (Ok b) m₁ (h.writes l n t e m q u g vs d c v)) x;
      size = same x ∙ h.size ∙ w.size;
    }

  -- ---- the whole block

  uneven_text : (offset : ℕ) (q : Prototype) (b : DataBlock) → eqb (length q.fields) (length b.values) ≡ false → block_text text offset (some q) b ≡ refusal field_count offset
  unfolding block_text
  uneven_text offset q b e = rw e refl

  even_text : (offset : ℕ) (q : Prototype) (b : DataBlock) → eqb (length q.fields) (length b.values) ≡ true
      → block_text text offset (some q) b ≡ joined (joined (gives (block_opening q.name b.id.value)) (fields_text text (values_offset offset b) q.fields b.values)) (gives closing)
  unfolding block_text
  even_text offset q b e = rw e refl

  module _ (version : ℕ) (s : List ℕ) (offset at in_force last : ℕ) (old : List ℕ) (to : ℕ) where
    -- what stands there was accepted, so that nothing of it runs out
    pub no_definition : {f : Refusal} → Err f ≡ end_of (unchecked_head in_force (drop in_force s)) → (r : Outcome Lines Refusal) → BlockWritten text version s offset at in_force last old to r old
    no_definition e r = record { writes = λ p q h k b i j z d c v. next≢fault (sym (stands s in_force p h) ∙ sym e); size = refl }

    pub no_last : {f : Refusal} → Err f ≡ end_of (unchecked_head last (drop last s)) → (r : Outcome Lines Refusal) → BlockWritten text version s offset at in_force last old to r old
    no_last e r = record { writes = λ p q h k b i j z d c v. next≢fault (sym (stands s last q k) ∙ sym e); size = refl }

    pub no_id : {f : Refusal} → Err f ≡ end_of (unchecked_id at (drop at s)) → (r : Outcome Lines Refusal) → BlockWritten text version s offset at in_force last old to r old
    no_id e r = record { writes = λ p q h k b i j z d c v. next≢fault (sym (id_past s at d) ∙ sym e); size = refl }

    module _ {fields : ℕ} (e : Ok fields ≡ end_of (unchecked_head in_force (drop in_force s))) {last_fields : ℕ} (g : Ok last_fields ≡ end_of (unchecked_head last (drop last s))) where
      fields_are : (p : Prototype) (k : DefinedAt s in_force p) → k.fields ≡ fields
      fields_are p k = next_same (sym (stands s in_force p k) ∙ sym e)

      last_are : (q : Prototype) (k : DefinedAt s last q) → k.fields ≡ last_fields
      last_are q k = next_same (sym (stands s last q k) ∙ sym g)

      module _ {r : Bool} (w : SameFields s in_force last fields last_fields r) where
        -- the two counts that the text compares
        counts : (p q : Prototype) → DefinedAt s in_force p → DefinedAt s last q → (vs : List DataValue) → length vs ≡ length p.fields → eqb (length q.fields) (length vs) ≡ r
        counts p q k l vs v = ap (eqb (length q.fields)) v ∙ sym (w.is p q k l (fields_are p k) (last_are q l))

        pub other_count : {x : Refusal} → x ≡ refused_at field_count offset → not r ≡ true → BlockWritten text version s offset at in_force last old to (Err x) old
        other_count {x} a z = record {
          writes = λ p q k l b i j u d c v.
              subst (λ (t : Reply (List ℕ)). WrittenIs old to t c (Err x) old)
              (sym (uneven_text offset q b (counts p q k l b.values (values_length version p.fields s j v) ∙ not-true r z))) (ap fault_is a);
          size = refl;
        }
          where
            not-true : (b : Bool) → not b ≡ true → b ≡ false
            not-true true e = sym e
            not-true false e = refl

        module _ (z : not r ≡ false) {start : ℕ} (m : Ok start ≡ end_of (unchecked_id at (drop at s))) where
          even : r ≡ true
          even = not-false r z
            where
              not-false : (b : Bool) → not b ≡ false → b ≡ true
              not-false true e = refl
              not-false false e = sym e

          name_is : (q : Prototype) → DefinedAt s last q → take (last_fields - (last + 13)) (drop (last + 13) s) ≡ q.name
          name_is q k = ap (λ (a : ℕ). take (a - (last + 13)) (drop (last + 13) s)) (sym (last_are q k)) ∙ sym (head_ends s last (head_past last (drop last s) k.head)).place

          pub whole_block : {v : Outcome Lines Refusal} {new : List ℕ} → BodyWritten text version s at start fields (last + 13) last_fields old to v new → BlockWritten text version s offset at in_force last old to v new
          unfolding values_offset
          whole_block {v} {new} y = record {
            writes = λ p q k l b i j o d c t.
                let first : start ≡ j = next_same (m ∙ id_past s at d) in
                let count = counts p q k l b.values (values_length version p.fields s j t) in
                let begin : offset + length b.head + length b.id.raw ≡ start = ap (λ (a : ℕ). a + length b.id.raw) (sym i) ∙ sym o ∙ sym first in
                subst (λ (x : Reply (List ℕ)). WrittenIs old to x c v new)
                (ap₂ (λ (a : List ℕ) (e : ℕ). joined (joined (gives (block_opening a b.id.value)) (fields_text text e q.fields b.values)) (gives closing)) (name_is q l) (sym begin)
                ∙ sym (even_text offset q b (count ∙ even)))
                (y.writes b.id.value (d ∙ ap (λ (a : ℕ). ok b.id.value a (drop a s)) (sym first))
                (record { fields = p.fields; terminator = p.terminator }) k.next (drop k.next s) (fields_of k (fields_are p k))
                (record { fields = q.fields; terminator = q.terminator }) l.next (drop l.next s) (fields_of l (last_are q l))
                b.values c (ap (λ (a : ℕ). data_values_parser version p.fields a (drop a s)) first ∙ t)
                (ap (eqb (length q.fields)) (sym (values_length version p.fields s j t)) ∙ count ∙ even));
            size = y.size;
          }
