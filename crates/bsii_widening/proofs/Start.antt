-- A save in which nothing was inserted is sound: every block has a last definition under which its values have texts. For a text call that answers this
-- is what it answers; where no id is defined twice, the definition in force is the last one, and every block has as many values as it has fields.
use mathlib.Core.Path.{◌≡◌, refl, sym, ap, ◌∙◌, subst, subst₂}
use Prim.Native.Nat.{ℕ, ◌+◌}
use native.Mathlib.Omega.{arith}
use mathlib.Core.Option
use mathlib.Core.Option.{Option, none, some}
use mathlib.Core.List.{List, [], ◌∷◌, map}
use lib.ListN.{length}
use lib.Dec.{eqb, eqb→eq}
use Rattle.bsii_format.specs.Replies.{gives, enum_value}
use Rattle.bsii_format.specs.Reader.{Consumed}
use Rattle.bsii_format.specs.Values.{Value}
use Rattle.bsii_format.specs.Prototypes.{ValuePrototype, Prototype}
use Rattle.bsii_format.specs.Blocks.{DataValue, DataBlock, find_by, get_prototype}
use Rattle.bsii_format.specs.File.{BsiiFile, Record, prototype, block, record_bytes, define, define_all, prototypes_of}
use Rattle.bsii_format.specs.BlockText.{joined, or_refuse, block_opening, closing, file_opening, values_offset, fields_text, block_text, every_block, records_text, file_text}
use Rattle.bsii_format.proofs.ReplyLaws.{refuses≢gives, joined_back, cond_back, or_back}
use Rattle.bsii_format.proofs.Records.{GoodPrototype, GoodValues, GoodRecords, nil, cons}
use Rattle.bsii_widening.specs.Marks.{Mark, old, unmark, MarkedPrototype, mark_prototype, mark_block, mark_record, mark_records}
use Rattle.bsii_widening.specs.Insertions.{defines_id, NoIdTwice}
use Rattle.bsii_widening.specs.Parts.{marked_prototypes, get_marked}
use Rattle.bsii_widening.proofs.Marks.{all_as_old, new_mark_prototype}
use Rattle.bsii_widening.proofs.Says.{HasText}
use Rattle.bsii_widening.proofs.Environments.{none≢some, find_map}
use Rattle.bsii_widening.proofs.Once.{Apart, apart_prototype, known_stays}
use Rattle.bsii_widening.proofs.Fields.{Says, none_left, saying, aligned_start, distinct_start}
use Rattle.bsii_widening.proofs.Invariant.{Inv, done, prototype_old, block_old, Sound}

start_env : List Prototype → List (Mark MarkedPrototype)
start_env = map (λ (p : Prototype). old (mark_prototype p))

start_defines : (l : List Record) (env : List Prototype) → marked_prototypes (mark_records l) (start_env env) ≡ start_env (define_all l env)
unfolding marked_prototypes mark_records mark_record start_env define_all define
start_defines [] env = refl
start_defines (prototype p ∷ l) env = start_defines l (p ∷ env)
start_defines (block b ∷ l) env = start_defines l env

start_known : (n : ℕ) (env : List Prototype) {p : Prototype} → get_prototype n env ≡ some p → get_marked n (start_env env) ≡ some (old (mark_prototype p))
unfolding start_env unmark mark_prototype
start_known n env e =
    find_map (λ (p : Prototype). p.id) (λ (m : Mark MarkedPrototype). (unmark m).id) (λ (p : Prototype). old (mark_prototype p)) (λ a. refl) n env
    ∙ ap (Option.map (λ (p : Prototype). old (mark_prototype p))) e

module _ (text : ValuePrototype → Value → Option (List ℕ)) where
  -- a block's last definition, with a text for each value
  record Said (last : List Prototype) (b : DataBlock) : Type 0 where
    pub by : Prototype
    pub found : get_prototype b.prototype_id last ≡ some by
    pub says : Says text by.fields b.values

  abbrev AllSaid : List Prototype → List Record → Type 0
  AllSaid last [] = Unit {0}
  AllSaid last (prototype p ∷ l) = AllSaid last l
  AllSaid last (block b ∷ l) = Said last b × AllSaid last l

  inv_start : {version : ℕ} (last : List Prototype) {env : List Prototype} {l : List Record} → GoodRecords version env l → AllSaid last l → Inv version text (start_env last) (start_env env) (mark_records l)
  unfolding mark_records mark_record start_env mark_block mark_prototype define unmark
  inv_start last nil x = done
  inv_start last (cons {i = prototype p} g h) x = prototype_old (subst GoodPrototype (sym (new_mark_prototype p)) g) (inv_start last h x)
  inv_start {version} last (cons {env = env} {i = block b} g h) x =
      let y = x.0 in
      block_old
      (record {
        head = g.head;
        id = g.id;
        by = old (mark_prototype g.by);
        found = start_known b.prototype_id env g.found;
        values = subst₂ (GoodValues version) (sym (all_as_old g.by.fields)) (sym (all_as_old b.values)) g.values;
        by' = old (mark_prototype y.by);
        found' = start_known b.prototype_id last y.found;
        says = subst₂ (Says text) (sym (all_as_old y.by.fields)) (sym (all_as_old b.values)) y.says;
      })
      (record { by = mark_prototype y.by; found = start_known b.prototype_id last y.found; aligned = aligned_start y.says; distinct = distinct_start y.by.fields })
      (inv_start last h x.1)

  start : {version : ℕ} (l : List Record) → GoodRecords version [] l → AllSaid (define_all l []) l → Sound version text (mark_records l)
  unfolding start_env
  start {version} l g x = subst (λ z. Inv version text z [] (mark_records l)) (sym (start_defines l [])) (inv_start (define_all l []) g x)

  -- ---- a save that has a text

  fields_said : (at : ℕ) (fs : List (Consumed ValuePrototype)) (l : List DataValue) {t : List ℕ} → length fs ≡ length l → fields_text text at fs l ≡ gives t → Says text fs l
  unfolding fields_text
  fields_said at [] [] n e = none_left
  fields_said at [] (v ∷ l) n e = absurd (omega arith)
  fields_said at (f ∷ fs) [] n e = absurd (omega arith)
  fields_said at (f ∷ fs) (v ∷ l) n e =
      let x = joined_back (or_refuse enum_value at (text f.value v.value)) (fields_text text (at + length v.raw) fs l) e in
      saying x.0 (or_back enum_value at (text f.value v.value) x.2) (fields_said (at + length v.raw) fs l (omega arith) x.3)

  block_said : (at : ℕ) (last : List Prototype) (b : DataBlock) (o : Option Prototype) {t : List ℕ} → get_prototype b.prototype_id last ≡ o → block_text text at o b ≡ gives t → Said last b
  unfolding block_text
  block_said at last b none q e = refuses≢gives e
  block_said at last b (some p) q e =
      let c = cond_back (eqb (length p.fields) (length b.values)) _ _ e in
      let x = joined_back (joined (gives (block_opening p.name b.id.value)) (fields_text text (values_offset at b) p.fields b.values)) (gives closing) c.1 in
      let y = joined_back (gives (block_opening p.name b.id.value)) (fields_text text (values_offset at b) p.fields b.values) x.2 in
      record {
        by = p;
        found = q;
        says = fields_said (values_offset at b) p.fields b.values (eqb→eq (length p.fields) (length b.values) c.0) y.3;
      }

  all_said : (last : List Prototype) (at : ℕ) (l : List Record) {t : List ℕ} → records_text text every_block last at l ≡ gives t → AllSaid last l
  unfolding records_text
  all_said last at [] e = tt
  all_said last at (prototype p ∷ l) e = all_said last (at + length (record_bytes (prototype p))) l e
  all_said last at (block b ∷ l) e =
      let x = joined_back (block_text text at (get_prototype b.prototype_id last) b) (records_text text every_block last (at + length (record_bytes (block b))) l) e in
      (block_said at last b (get_prototype b.prototype_id last) refl x.2, all_said last (at + length (record_bytes (block b))) l x.3)

  pub text_sound : {version : ℕ} (f : BsiiFile) {t : List ℕ} → GoodRecords version [] f.records → file_text text every_block f ≡ gives t → Sound version text (mark_records f.records)
  unfolding file_text prototypes_of
  text_sound f g e =
      let x = joined_back (joined (gives file_opening) (records_text text every_block (prototypes_of f.records) (length f.header.raw) f.records)) (gives closing) e in
      let y = joined_back (gives file_opening) (records_text text every_block (prototypes_of f.records) (length f.header.raw) f.records) x.2 in
      start f.records g (all_said (prototypes_of f.records) (length f.header.raw) f.records y.3)

-- ---- a save that is read: sound for the silent text, which has nothing but the layout

pub silent : ValuePrototype → Value → Option (List ℕ)
silent d v = some []

pub silent_has : HasText silent
unfolding silent
silent_has d v h = ([], refl)

silent_says : {version : ℕ} {fs : List (Consumed ValuePrototype)} {l : List DataValue} → GoodValues version fs l → Says silent fs l
unfolding silent
silent_says nil = none_left
silent_says (cons g h) = saying [] refl (silent_says h)

silent_all : {version : ℕ} {env : List Prototype} {l : List Record} → Apart env l → NoIdTwice l → GoodRecords version env l → AllSaid silent (define_all l env) l
unfolding define_all define defines_id
silent_all a o nil = tt
silent_all a o (cons {env = env} {i = prototype p} {l = l} g h) = silent_all (apart_prototype env p l a o.0) o.1 h
silent_all a o (cons {env = env} {i = block b} {l = l} g h) = (
  record { by = g.by; found = known_stays b.prototype_id l env g.found (a b.prototype_id g.by g.found); says = silent_says g.values },
  silent_all a o h,
)

pub read_sound : {version : ℕ} (l : List Record) → GoodRecords version [] l → NoIdTwice l → Sound version silent (mark_records l)
unfolding find_by
read_sound l g o = start silent l g (silent_all (λ m q z. none≢some z) o g)
