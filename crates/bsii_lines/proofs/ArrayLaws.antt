-- The lines of an array's elements: what a turn of the loop keeps, and the whole value.
use mathlib.Core.Path.{◌≡◌, refl, sym, ap, ap₂, ◌∙◌, subst}
use Prim.Native.Nat.{ℕ, suc, ◌+◌, ◌-◌, ◌≤◌, ◌<◌}
use native.Mathlib.Omega.{arith}
use mathlib.Core.Option.{Option, none, some, map}
use mathlib.Core.List.{List, [], ◌++◌, append_assoc, append-nil}
use lib.ListN.{length, drop}
use Rattle.bsii_format.specs.Replies.{Fault}
use Rattle.bsii_format.specs.Reader.{ok, fault, Consumed, consumed, repeat, success, fail, ◌>>=◌}
use Rattle.bsii_format.specs.Numbers.{number}
use Rattle.bsii_format.specs.Digits.{decimal}
use Rattle.bsii_format.specs.Types.{Kind, Shape, one, many, shape_of}
use Rattle.bsii_format.specs.Values.{Element, Value, single, array, element_parser, shape_parser, value_parser}
use Rattle.bsii_format.specs.Prototypes.{ValuePrototype}
use Rattle.bsii_format.specs.Text.{element_text, indexed, field_line, append, element_lines, value_text}
use Rattle.bsii_format.proofs.Readers.{fault≢ok, ok_val, ok_at, map_ok}
use Rattle.bsii_format.proofs.Parsers.{element_exact}
use Rattle.bsii_format.proofs.Positions.{step, bind_ok}
use Rattle.bsii_value.proofs.Elements.{many_short}
use Rattle.bsii_string.proofs.NumbersAt.{split, row_length}
use Rattle.bsii_definition.specs.Pairs.{Describes}
use Rattle.bsii_definition.specs.declared.pairs.Definition.{Definition}
use Rattle.bsii_window.specs.Window.{Wrote}
use Rattle.bsii_window.proofs.Laws.{then, being, same}
use Rattle.bsii_window.proofs.Loops.{begin, end}
use Rattle.std.specs.Prelude.{Some, None, Option as Answer}
use Rattle.bsii_write_value.specs.Lines.{name_of, lines, LinesAre, SingleWritten, IndexedWritten}
use Rattle.bsii_write_value.specs.declared.values.Lines.{Lines}
use Rattle.bsii_lines.specs.Lines.{VectorWritten, ArrayWritten, FieldWritten}

-- ---- texts one behind the other

append_some : (o : Option (List ℕ)) → append (some []) o ≡ o
unfolding append
append_some none = refl
append_some (some t) = refl

append_assoc_some : (x y : List ℕ) (o : Option (List ℕ)) → append (some (x ++ y)) o ≡ append (some x) (append (some y) o)
unfolding append
append_assoc_some x y none = refl
append_assoc_some x y (some t) = ap some (append_assoc x y t)

-- ---- the loop: i elements are written, and the others stand from `at` on

pub record Rest (s : List ℕ) (k : Kind) (old : List ℕ) (to count : ℕ) (at here i : ℕ) (out : List ℕ) (l : List (Consumed Element)) (n : ℕ) (f : ValuePrototype) : Type 0 where
  pub items : List (Consumed Element)
  pub read : repeat (count - i) (consumed (element_parser k)) at (drop at s) ≡ ok items n (drop n s)
  pub done : List ℕ
  pub wrote : Wrote old to done here out
  pub text : append (some done) (element_lines f.name f.enum_values i items) ≡ element_lines f.name f.enum_values 0 l

pub record Going (s : List ℕ) (start : ℕ) (k : Kind) (d : Definition) (count : ℕ) (old : List ℕ) (to at here i : ℕ) (out : List ℕ) : Type 0 where
  pub rest : (l : List (Consumed Element)) (n : ℕ) → repeat count (consumed (element_parser k)) start (drop start s) ≡ ok l n (drop n s) → (f : ValuePrototype) → Describes s d f
      → Rest s k old to count at here i out l n f
  pub size : length out ≡ length old

pub go_start : (s : List ℕ) (start : ℕ) (k : Kind) (d : Definition) (count : ℕ) (old : List ℕ) (to : ℕ) → to ≤ 0xffff_ffff_ffff_ffff → length old < 0x8000_0000_0000_0000
    → Going s start k d count old to start to 0 old
go_start s start k d count old to h r = record {
  rest = λ l n e f g.
      let all : count ≡ count - 0 = omega arith in
      record {
        items = l;
        read = ap (λ (c : ℕ). repeat c (consumed (element_parser k)) start (drop start s)) (sym all) ∙ e;
        done = [];
        wrote = end (begin {x = []} h r) refl;
        text = append_some (element_lines f.name f.enum_values 0 l);
      };
  size = refl;
}

module _ (s : List ℕ) (start : ℕ) (k : Kind) (d : Definition) (count : ℕ) (old : List ℕ) (to at here i : ℕ) (out : List ℕ) (g : Going s start k d count old to at here i out) where
  pub go_done : count ≤ i → VectorWritten s start k d count old to (lines at here) out
  unfolding repeat success element_lines append
  go_done h = record {
    writes = λ l n e f q.
        let x = g.rest l n e f q in
        let z : 0 ≡ count - i = omega arith in
        let end = ap (λ (c : ℕ). repeat c (consumed (element_parser k)) at (drop at s)) z ∙ x.read in
        finish l n f x.done x.wrote (ap (λ (m : List (Consumed Element)). append (some x.done) (element_lines f.name f.enum_values i m)) (ok_val end) ∙ x.text) (ok_at end);
    size = g.size;
  }
    where
      finish : (l : List (Consumed Element)) (n : ℕ) (f : ValuePrototype) (done : List ℕ) → Wrote old to done here out → some (done ++ []) ≡ element_lines f.name f.enum_values 0 l → at ≡ n
          → LinesAre old to (element_lines f.name f.enum_values 0 l) n (lines at here) out
      finish l n f done w e p = subst (λ (o : Option (List ℕ)). LinesAre old to o n (lines at here) out) e (p, being (sym (append-nil done)) w)

  -- the next element of those that are left
  module _ (h : i < count) {l : List (Consumed Element)} {n : ℕ} (e : repeat count (consumed (element_parser k)) start (drop start s) ≡ ok l n (drop n s)) (f : ValuePrototype) (q : Describes s d f) where
    pub record Next' : Type 0 where
      pub item : Element
      pub end : ℕ
      pub reads : element_parser k at (drop at s) ≡ ok item end (drop end s)
      pub others : List (Consumed Element)
      pub more : repeat (count - (i + 1)) (consumed (element_parser k)) end (drop end s) ≡ ok others n (drop n s)
      pub text : append (some (g.rest l n e f q).done) (append (map (field_line (indexed f.name i)) (element_text f.enum_values item)) (element_lines f.name f.enum_values (i + 1) others))
          ≡ element_lines f.name f.enum_values 0 l

    next' : Next'
    unfolding element_lines
    next' =
        let x = g.rest l n e f q in
        let one : count - i ≡ suc (count - (i + 1)) = omega arith in
        let p = split (count - (i + 1)) (consumed (element_parser k)) at (drop at s) (ap (λ (c : ℕ). repeat c (consumed (element_parser k)) at (drop at s)) (sym one) ∙ x.read) in
        let t = step (element_exact k) s at p.front in
        record {
          item = p.first.value;
          end = p.next;
          reads = t.reads;
          others = p.others;
          more = ap (repeat (count - (i + 1)) (consumed (element_parser k)) p.next) (sym t.behind) ∙ p.back;
          text =
              ap (λ (j : ℕ). append (some x.done) (append (map (field_line (indexed f.name i)) (element_text f.enum_values p.first.value)) (element_lines f.name f.enum_values j p.others)))
              (let z : i + 1 ≡ suc i = omega arith in z)
              ∙ ap (λ (m : List (Consumed Element)). append (some x.done) (element_lines f.name f.enum_values i m)) p.whole
              ∙ x.text;
        }

  pub go_absent : i < count → {new : List ℕ} → IndexedWritten s at k d i out here None new → VectorWritten s start k d count old to None new
  unfolding append
  go_absent h {new} w = record {
    writes = λ l n e f q.
        let x = next' h e f q in
        stop (g.rest l n e f q).done (element_text f.enum_values x.item) (element_lines f.name f.enum_values (i + 1) x.others) n x.end (indexed f.name i)
        (w.writes x.item x.end x.reads f q) x.text;
    size = w.size ∙ g.size;
  }
    where
      stop : {o : Option (List ℕ)} (done : List ℕ) (v more : Option (List ℕ)) (n m : ℕ) (name : List ℕ) → LinesAre out here (map (field_line name) v) m None new
          → append (some done) (append (map (field_line name) v) more) ≡ o → LinesAre old to o n None new
      stop done none more n m name a e = subst (λ (o : Option (List ℕ)). LinesAre old to o n None new) e tt
      stop done (some v) more n m name a e = absurd a

  pub go_on : i < count → {next r : ℕ} {new : List ℕ} → IndexedWritten s at k d i out here (lines next r) new → Going s start k d count old to next r (i + 1) new
  go_on h {next} {r} {new} w = record {
    rest = λ l n e f q.
        let x = next' h e f q in
        let y = g.rest l n e f q in
        on l n f y.done y.wrote (element_text f.enum_values x.item) x.end x.others x.more (w.writes x.item x.end x.reads f q) x.text;
    size = w.size ∙ g.size;
  }
    where
      on : (l : List (Consumed Element)) (n : ℕ) (f : ValuePrototype) (done : List ℕ) → Wrote old to done here out → (v : Option (List ℕ)) (m : ℕ) (others : List (Consumed Element))
          → repeat (count - (i + 1)) (consumed (element_parser k)) m (drop m s) ≡ ok others n (drop n s) → LinesAre out here (map (field_line (indexed f.name i)) v) m (lines next r) new
          → append (some done) (append (map (field_line (indexed f.name i)) v) (element_lines f.name f.enum_values (i + 1) others)) ≡ element_lines f.name f.enum_values 0 l
          → Rest s k old to count next r (i + 1) new l n f
      on l n f done w none m others b c e = absurd c
      on l n f done w (some v) m others b c e = record {
        items = others;
        read = ap (λ (j : ℕ). repeat (count - (i + 1)) (consumed (element_parser k)) j (drop j s)) c.0 ∙ b;
        done = done ++ field_line (indexed f.name i) v;
        wrote = then w c.1;
        text = append_assoc_some done (field_line (indexed f.name i) v) (element_lines f.name f.enum_values (i + 1) others) ∙ e;
      }

-- ---- the whole value

lines_behind : {old : List ℕ} {to p : ℕ} {mid x : List ℕ} → Wrote old to x p mid → (o : Option (List ℕ)) (n : ℕ) (r : Answer Lines) (new : List ℕ) → LinesAre mid p o n r new → LinesAre old to (append (some x) o) n r new
unfolding append
lines_behind w none n (Some l) new h = absurd h
lines_behind w none n None new h = tt
lines_behind w (some t) n (Some l) new h = (h.0, then w h.1)
lines_behind w (some t) n None new h = absurd h

elements : (s : List ℕ) (at : ℕ) (k : Kind) {count first : ℕ} → number 4 at (drop at s) ≡ ok count first (drop first s) → {v : Value} {n : ℕ} → shape_parser (some (many k)) at (drop at s) ≡ ok v n (drop n s)
    → (l : List (Consumed Element)) × (array l ≡ v) × (repeat count (consumed (element_parser k)) first (drop first s) ≡ ok l n (drop n s))
unfolding shape_parser
elements s at k e f =
    let q = map_ok array (number 4 >>= (λ n. repeat n (consumed (element_parser k)))) at (drop at s) f in
    (q.0, q.1, sym (bind_ok (number 4) (λ n. repeat n (consumed (element_parser k))) e) ∙ q.2)

module _ (s : List ℕ) (at : ℕ) (k : Kind) (d : Definition) {old : List ℕ} {to : ℕ} where
  pub array_short : {x : Fault} → fault x ≡ number 4 at (drop at s) → ArrayWritten value_text s at k d old to None old
  array_short e = record { writes = λ v n f g q. fault≢ok (sym (many_short k at (drop at s) (sym e)) ∙ f); size = refl }

  module _ {count first : ℕ} (e : ok count first (drop first s) ≡ number 4 at (drop at s)) where
    pub array_lines : {p : ℕ} {mid : List ℕ} → Wrote old to (field_line (name_of s d) (decimal count)) p mid → {r : Answer Lines} {new : List ℕ} → VectorWritten s first k d count mid p r new
        → ArrayWritten value_text s at k d old to r new
    unfolding value_text
    array_lines w {r} {new} h = record {
      writes = λ v n f g q.
          let x = elements s at k (sym e) f in
          let line = being (ap₂ (λ (y : List ℕ) (c : ℕ). field_line y (decimal c)) q.name (sym (row_length count (consumed (element_parser k)) first (drop first s) x.2))) w in
          subst (λ (v : Value). LinesAre old to (value_text g v) n r new) x.1 (lines_behind line (element_lines g.name g.enum_values 0 x.0) n r new (h.writes x.0 n x.2 g q));
      size = h.size ∙ same w;
    }

module _ {version : ℕ} (s : List ℕ) (at type : ℕ) (d : Definition) {old : List ℕ} {to : ℕ} where
  pub field_unlisted : none ≡ shape_of version type → FieldWritten value_text version s at type d old to None old
  unfolding value_parser shape_parser fail
  field_unlisted e = record { writes = λ v n f g q. fault≢ok (ap (λ (o : Option Shape). shape_parser o at (drop at s)) e ∙ f); size = refl }

  pub field_array : {k : Kind} → shape_of version type ≡ some (many k) → {r : Answer Lines} {new : List ℕ} → ArrayWritten value_text s at k d old to r new → FieldWritten value_text version s at type d old to r new
  unfolding value_parser
  field_array e w = record { writes = λ v n f. w.writes v n (ap (λ (o : Option Shape). shape_parser o at (drop at s)) (sym e) ∙ f); size = w.size }

  pub field_single : {k : Kind} → shape_of version type ≡ some (one k) → {r : Answer Lines} {new : List ℕ} → SingleWritten s at k d old to r new → FieldWritten value_text version s at type d old to r new
  unfolding value_parser shape_parser value_text
  field_single {k} e {r} {new} h = record {
    writes = λ v n f g q.
        let x = map_ok single (consumed (element_parser k)) at (drop at s) (ap (λ (o : Option Shape). shape_parser o at (drop at s)) (sym e) ∙ f) in
        let y = step (element_exact k) s at x.2 in
        subst (λ (v : Value). LinesAre old to (value_text g v) n r new) x.1 (h.writes x.0.value n y.reads g q);
    size = h.size;
  }
