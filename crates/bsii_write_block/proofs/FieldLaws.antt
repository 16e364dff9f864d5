-- A block's fields one by one: what a turn says of all that are left.
use mathlib.Core.Path.{◌≡◌, refl, sym, ap, ap₂, ◌∙◌, subst}
use Prim.Native.Nat.{ℕ, ◌+◌, ◌≤◌, ◌<◌}
use native.Mathlib.Omega.{arith}
use mathlib.Core.Bool.{true, false}
use mathlib.Core.Option.{Option, none, some}
use mathlib.Core.List.{List, [], ◌∷◌, ◌++◌, append_assoc}
use lib.Dec.{eqb, eqb-suc-zero, eqb-zero-suc, eqb-suc-suc}
use lib.ListN.{length, drop}
use Rattle.bsii_format.specs.Replies.{Reply, gives, refuses, enum_value}
use Rattle.bsii_format.specs.Reader.{ok, Consumed, consumed}
use Rattle.bsii_format.specs.Values.{Value, value_parser}
use Rattle.bsii_format.specs.Prototypes.{ValuePrototype, Fields, fields_parser}
use Rattle.bsii_format.specs.Blocks.{DataValue, data_value, data_value_parser, data_values_parser}
use Rattle.bsii_format.specs.BlockText.{joined, or_refuse, fields_text}
use Rattle.bsii_format.proofs.Readers.{map_ok}
use Rattle.bsii_format.proofs.Parsers.{value_exact}
use Rattle.bsii_format.proofs.Positions.{step}
use Rattle.bsii_string.specs.Answers.{fault_is, refused_at}
use Rattle.bsii_string.specs.declared.answers.Refusal.{Refusal}
use Rattle.bsii_skip.proofs.Blocks.{turn, done as no_values}
use Rattle.bsii_definition.specs.Pairs.{Paired, PairIs, both, ends, last_longer, last_shorter, PairOf}
use Rattle.bsii_definition.specs.declared.pairs.Definition.{Definition}
use Rattle.bsii_definition.specs.declared.pairs.Pair.TheVariants.{Both, Ends, Uneven}
use Rattle.std.specs.Prelude.{None, Option as Answer, Ok, Err, Result as Outcome}
use Rattle.bsii_write_value.specs.Lines.{lines, LinesAre}
use Rattle.bsii_write_value.specs.declared.values.Lines.{Lines}
use Rattle.bsii_lines.specs.Lines.{FieldWritten}
use Rattle.bsii_window.specs.Window.{Wrote}
use Rattle.bsii_window.proofs.Laws.{then}
use Rattle.bsii_window.proofs.Loops.{begin, end}
use Rattle.bsii_write_block.specs.Blocks.{WrittenIs, FieldsWritten, FieldTurned}
use Rattle.bsii_write_block.specs.declared.blocks.FieldPlace.{FieldPlace}

-- ---- texts one behind the other

pub joined_none : (r : Reply (List ℕ)) → joined (gives []) r ≡ r
unfolding joined
joined_none (gives t) = refl
joined_none (refuses f) = refl

pub joined_behind : (x y : List ℕ) (r : Reply (List ℕ)) → joined (gives (x ++ y)) r ≡ joined (gives x) (joined (gives y) r)
unfolding joined
joined_behind x y (gives t) = ap gives (append_assoc x y t)
joined_behind x y (refuses f) = refl

-- what is written behind a text is written with it
pub behind_text : {old : List ℕ} {to p : ℕ} {mid x : List ℕ} → Wrote old to x p mid → (o : Reply (List ℕ)) (n : ℕ) (r : Outcome Lines Refusal) (new : List ℕ) → WrittenIs mid p o n r new → WrittenIs old to (joined (gives x) o) n r new
unfolding joined
behind_text w (gives t) n (Ok l) new h = (h.0, then w h.1)
behind_text w (gives t) n (Err g) new h = absurd h
behind_text w (refuses f) n (Ok l) new h = absurd h
behind_text w (refuses f) n (Err g) new h = h

true≢false : {P : Type 0} → true ≡ false → P
true≢false e = let z : ◌≡◌ {A = ℕ} 0 1 = cc in let f : ⊥ = omega arith in absurd f

-- `text` gives the lines of a value
module _ (text : ValuePrototype → Value → Option (List ℕ)) where
  -- ---- the first of the values that are left

  -- of the type in force, with its text's end
  record First (version : ℕ) (s : List ℕ) (at type : ℕ) (g : Consumed ValuePrototype) (gs : List (Consumed ValuePrototype)) (fs : List (Consumed ValuePrototype)) (vs : List DataValue) (e : ℕ) : Type 0 where
    value : DataValue
    next : ℕ
    reads : value_parser version type at (drop at s) ≡ ok value.value next (drop next s)
    values : List DataValue
    more : data_values_parser version fs next (drop next s) ≡ ok values e (drop e s)
    is : joined (or_refuse enum_value at (text g.value value.value)) (fields_text text next gs values) ≡ fields_text text at (g ∷ gs) vs

  first : {version : ℕ} (s : List ℕ) (at type : ℕ) (f g : Consumed ValuePrototype) (gs fs : List (Consumed ValuePrototype)) {vs : List DataValue} {e : ℕ} → type ≡ f.value.type_id
      → data_values_parser version (f ∷ fs) at (drop at s) ≡ ok vs e (drop e s) → First version s at type g gs fs vs e
  unfolding data_value_parser data_value fields_text
  first {version} s at type f g gs fs {vs} {e} t h =
      let w = turn f fs s at h in
      let m = map_ok (data_value f.value.type_id) (consumed (value_parser version f.value.type_id)) at (drop at s) w.first in
      let x = step (value_exact version f.value.type_id) s at m.2 in
      let v : m.0.value ≡ w.value.value = ap (λ (d : DataValue). d.value) m.1 in
      let r : m.0.raw ≡ w.value.raw = ap (λ (d : DataValue). d.raw) m.1 in
      record {
        value = w.value;
        next = w.end;
        reads = ap (λ (k : ℕ). value_parser version k at (drop at s)) t ∙ x.reads ∙ ap (λ (y : Value). ok y w.end (drop w.end s)) v;
        values = w.values;
        more = w.others;
        is =
            ap (λ (k : ℕ). joined (or_refuse enum_value at (text g.value w.value.value)) (fields_text text k gs w.values)) (x.place ∙ ap (λ (l : List ℕ). at + length l) r)
            ∙ ap (fields_text text at (g ∷ gs)) (sym w.both);
      }

  -- ---- a turn

  module _ (version : ℕ) (s : List ℕ) (field lastField at here : ℕ) (out : List ℕ) where
    -- both lists are at their end
    pub turn_ends : here ≤ 0xffff_ffff_ffff_ffff → length out < 0x8000_0000_0000_0000 → PairOf s field lastField Ends → FieldsWritten text version s at field lastField out here (Ok (record { at = at; to = here })) out
    unfolding fields_text
    turn_ends a b p = record { writes = λ l n t e m o u f vs d c k. close (p.is l n t e m o u f) c; size = refl }
      where
        close : {a b : Fields} {n : ℕ} {t : List ℕ} {o : ℕ} {u : List ℕ} {vs : List DataValue} {e : ℕ} → PairIs s a n t b o u Ends
            → data_values_parser version a.fields at (drop at s) ≡ ok vs e (drop e s) → WrittenIs out here (fields_text text at b.fields vs) e (Ok (record { at = at; to = here })) out
        close {vs = vs} {e = e} (ends p q) c =
            let z = no_values version (ap (λ (fs : List (Consumed ValuePrototype)). data_values_parser version fs at (drop at s)) (sym p) ∙ c) in
            subst (λ (fs : List (Consumed ValuePrototype)). WrittenIs out here (fields_text text at fs vs) e (Ok (record { at = at; to = here })) out) (sym q)
            (sym z.1, end (begin {x = []} a b) refl)

    pub turn_uneven : PairOf s field lastField Uneven → (r : Outcome Lines Refusal) → FieldsWritten text version s at field lastField out here r out
    turn_uneven p r = record { writes = λ l n t e m o u f vs d c k. no (p.is l n t e m o u f) k; size = refl }
      where
        no : {P : Type 0} {a b : Fields} {n : ℕ} {t : List ℕ} {o : ℕ} {u : List ℕ} → PairIs s a n t b o u Uneven → eqb (length b.fields) (length a.fields) ≡ true → P
        no (last_longer p {fs = fs} q) k = true≢false (sym k ∙ ap₂ (λ (c d : List (Consumed ValuePrototype)). eqb (length c) (length d)) q p ∙ eqb-suc-zero (length fs))
        no (last_shorter {fs = fs} p q) k = true≢false (sym k ∙ ap₂ (λ (c d : List (Consumed ValuePrototype)). eqb (length c) (length d)) q p ∙ eqb-zero-suc (length fs))

    module _ {type : ℕ} {d : Definition} {next lastNext : ℕ} (p : PairOf s field lastField (Both type d next lastNext)) where
      -- the pair, for lists that were accepted
      paired : {a b : Fields} {n : ℕ} {t : List ℕ} {o : ℕ} {u : List ℕ} → fields_parser field (drop field s) ≡ ok a n t → fields_parser lastField (drop lastField s) ≡ ok b o u
          → Paired s type d next lastNext a n t b o u
      paired {a} {b} {n} {t} {o} {u} e f = go (p.is a n t e b o u f)
        where
          go : PairIs s a n t b o u (Both type d next lastNext) → Paired s type d next lastNext a n t b o u
          go (both q) = q

      module _ {l : Fields} {n : ℕ} {t : List ℕ} (e : fields_parser field (drop field s) ≡ ok l n t) {m : Fields} {o : ℕ} {u : List ℕ} (f : fields_parser lastField (drop lastField s) ≡ ok m o u)
          {vs : List DataValue} {z : ℕ} (c : data_values_parser version l.fields at (drop at s) ≡ ok vs z (drop z s)) where
        pair : Paired s type d next lastNext l n t m o u
        pair = paired e f

        value : First version s at type pair.last pair.last_begins.rest.fields pair.begins.rest.fields vs z
        value =
            first s at type pair.in_force pair.last pair.last_begins.rest.fields pair.begins.rest.fields pair.typed
            (ap (λ (fs : List (Consumed ValuePrototype)). data_values_parser version fs at (drop at s)) (sym pair.begins.fields) ∙ c)

        -- the text of the values, the first one's in front
        text_is_law : joined (or_refuse enum_value at (text pair.last.value value.value.value)) (fields_text text value.next pair.last_begins.rest.fields value.values)
            ≡ fields_text text at m.fields vs
        text_is_law = value.is ∙ ap (λ (fs : List (Consumed ValuePrototype)). fields_text text at fs vs) (sym pair.last_begins.fields)

        -- and the lists behind it have the same number of definitions, if these have
        even : eqb (length m.fields) (length l.fields) ≡ true → eqb (length pair.last_begins.rest.fields) (length pair.begins.rest.fields) ≡ true
        even k =
            sym (eqb-suc-suc (length pair.last_begins.rest.fields) (length pair.begins.rest.fields))
            ∙ sym (ap₂ (λ (a b : List (Consumed ValuePrototype)). eqb (length a) (length b)) pair.last_begins.fields pair.begins.fields) ∙ k

      pub turn_absent : {x : Refusal} {new : List ℕ} → x ≡ refused_at enum_value at → FieldWritten text version s at type d out here None new
          → FieldsWritten text version s at field lastField out here (Err x) new
      unfolding joined or_refuse
      turn_absent {x} {new} z w = record {
        writes = λ l n t e m o u f vs i c k.
            let y = pair e f c in
            let v = value e f c in
            stop (text y.last.value v.value.value) (fields_text text v.next y.last_begins.rest.fields v.values) i v.next
            (w.writes v.value.value v.next v.reads y.last.value y.describes) (text_is_law e f c);
        size = w.size;
      }
        where
          stop : {whole : Reply (List ℕ)} (v : Option (List ℕ)) (more : Reply (List ℕ)) (e m : ℕ) → LinesAre out here v m None new → joined (or_refuse enum_value at v) more ≡ whole
              → WrittenIs out here whole e (Err x) new
          stop none more e m a h = subst (λ (r : Reply (List ℕ)). WrittenIs out here r e (Err x) new) h (ap fault_is z)
          stop (some v) more e m a h = absurd a

      pub turn_on : {behind to : ℕ} {new : List ℕ} → FieldWritten text version s at type d out here (lines behind to) new
          → (r : Outcome Lines Refusal) (last : List ℕ) → FieldsWritten text version s behind next lastNext new to r last
          → FieldsWritten text version s at field lastField out here r last
      unfolding or_refuse
      turn_on {behind} {to} {new} w r last h = record {
        writes = λ l n t e m o u f vs i c k.
            let y = pair e f c in
            let v = value e f c in
            on y.begins.rest n t y.begins.more y.last_begins.rest o u y.last_begins.more v.next v.values i v.more (even e f c k)
            (text y.last.value v.value.value) (w.writes v.value.value v.next v.reads y.last.value y.describes) (text_is_law e f c);
        size = h.size ∙ w.size;
      }
        where
          on : {whole : Reply (List ℕ)} (a : Fields) (n : ℕ) (t : List ℕ) → fields_parser next (drop next s) ≡ ok a n t → (b : Fields) (o : ℕ) (u : List ℕ) → fields_parser lastNext (drop lastNext s) ≡ ok b o u
              → (m : ℕ) (vs : List DataValue) (e : ℕ) → data_values_parser version a.fields m (drop m s) ≡ ok vs e (drop e s)
              → eqb (length b.fields) (length a.fields) ≡ true → (v : Option (List ℕ)) → LinesAre out here v m (lines behind to) new
              → joined (or_refuse enum_value at v) (fields_text text m b.fields vs) ≡ whole → WrittenIs out here whole e r last
          on a n t f b o u g m vs e c k none q x = absurd q
          on a n t f b o u g m vs e c k (some v) q x =
              subst (λ (y : Reply (List ℕ)). WrittenIs out here y e r last) (ap (λ (j : ℕ). joined (gives v) (fields_text text j b.fields vs)) q.0 ∙ x)
              (behind_text q.1 (fields_text text behind b.fields vs) e r last
              (h.writes a n t f b o u g vs e (ap (λ (j : ℕ). data_values_parser version a.fields j (drop j s)) q.0 ∙ c) k))

  -- a turn at the case that was answered
  pub turned_by : (version : ℕ) (s : List ℕ) (p : FieldPlace) (old new : List ℕ) {x r : Answer FieldPlace} → x ≡ r → FieldTurned text version s p old (Ok x) new
      → FieldTurned text version s p old (Ok r) new
  turned_by version s p old new e h = subst (λ (y : Answer FieldPlace). FieldTurned text version s p old (Ok y) new) e h
