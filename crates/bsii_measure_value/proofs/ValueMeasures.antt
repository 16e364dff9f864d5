-- Values of one element and of a row of them.
use mathlib.Core.Path.{◌≡◌, refl, sym, ap, ◌∙◌, subst}
use Prim.Native.Nat.{ℕ, ◌+◌, ◌*◌, ◌≤◌}
use native.Mathlib.Omega.{arith}
use mathlib.Core.Option.{Option, none, some}
use mathlib.Core.List.{List}
use lib.ListN.{length, drop}
use Rattle.bsii_format.specs.Replies.{unlisted_type}
use Rattle.bsii_format.specs.Reader.{ok, fault, after, fail, ◌>>=◌, ◌<$>◌, consumed, repeat}
use Rattle.bsii_format.specs.Numbers.{number}
use Rattle.bsii_format.specs.Types.{Kind, Shape, one, many, shape_of}
use Rattle.bsii_format.specs.Values.{single, array, element_parser, shape_parser, value_parser}
use Rattle.bsii_format.specs.Digits.{decimal}
use Rattle.bsii_format.specs.File.{length_limit}
use Rattle.bsii_format.proofs.Readers.{consumed_exact, repeat_exact, map_fault}
use Rattle.bsii_format.proofs.Parsers.{number_exact, element_exact}
use Rattle.bsii_format.proofs.Positions.{moved, bind_fault, map_value}
use Rattle.bsii_length.specs.Bounds.{element_bound, line_bound}
use Rattle.bsii_length.proofs.Taken.{Bytes}
use Rattle.bsii_string.specs.Answers.{fault_is, refused_at}
use Rattle.bsii_string.specs.declared.answers.Refusal.{Refusal}
use Rattle.bsii_string.proofs.NumbersAt.{row_length}
use Rattle.bsii_prototype.proofs.Names.{number_front}
use Rattle.bsii_measure_string.specs.Measured.{long_at, measured, element_size, line_size, row_size, value_size}
use Rattle.bsii_measure_string.specs.declared.answers.Measured.{Measured}
use Rattle.std.specs.Prelude.{Ok, Err, Some, Result as Outcome}
use Rattle.bsii_value.specs.Kinds.{kind_is, shape_is}
use Rattle.bsii_value.specs.declared.types.Kind.{Kind as CodeKind}
use Rattle.bsii_value.specs.declared.types.Shape.{Shape as CodeShape}
use Rattle.bsii_value.specs.declared.types.Shape.TheVariants.{One}
use Rattle.bsii_measure_string.proofs.Measures.{measured_ok, measured_fault, measured_map, measured_consumed}
use Rattle.bsii_measure_value.specs.Rows.{RowFine, RowMeasured, line_of, Short, ShapeMeasured, ValueMeasured}
use Rattle.bsii_measure_value.proofs.ElementMeasures.{element_fine}

-- ---- a single element

module _ (s : List ℕ) (at : ℕ) (k : Kind) (b : Bytes s) (l : length s ≤ length_limit) where
  pub short_element : (x : Outcome Measured Refusal) → x ≡ measured element_size (element_parser k at (drop at s)) → Short x
  short_element (Ok m) e = (element_fine s at b l k e).most
  short_element (Err f) e = tt

  pub single_value : (name : ℕ) → name ≤ length_limit → (x : Outcome Measured Refusal) → x ≡ measured element_size (element_parser k at (drop at s)) → {r : Outcome Measured Refusal} → r ≡ line_of name x
      → ShapeMeasured s at (some (one k)) name r
  single_value name g x e h = subst (ShapeMeasured s at (some (one k)) name) (sym h) (go x e)
    where
      is_line : (x : Outcome Measured Refusal) → x ≡ measured element_size (element_parser k at (drop at s)) → line_of name x ≡ measured (value_size name) (shape_parser (some (one k)) at (drop at s))
      is_line (Ok m) e =
          let q = measured_ok (element_exact k) element_size s at e in
          let z : line_of name (Ok m) ≡ measured (λ v. name + 5 + element_size v) (element_parser k at (drop at s)) =
          ap (λ x. long_at m.at (name + 5 + x)) q.long ∙ sym (unfold measured in ap (measured (λ v. name + 5 + element_size v)) q.reads) in
          z ∙ sym (measured_consumed (λ v. name + 5 + element_size v) (element_parser k) at (drop at s))
          ∙ (unfold shape_parser value_size in sym (measured_map (value_size name) single (consumed (element_parser k)) at (drop at s)))
      is_line (Err f) e =
          unfold shape_parser measured consumed after ◌<$>◌ ◌>>=◌ in
          rw (measured_fault element_size (element_parser k at (drop at s)) e) refl

      go : (x : Outcome Measured Refusal) → x ≡ measured element_size (element_parser k at (drop at s)) → ShapeMeasured s at (some (one k)) name (line_of name x)
      go (Ok m) e = let f = element_fine s at b l k e in record { is = is_line (Ok m) e; fine = (f.later, f.inside, omega (arith, f.most, f.later)) }
      go (Err f) e = record { is = is_line (Err f) e; fine = tt }

-- at the case that was answered
pub short_by_law : {x : Outcome Measured Refusal} {m : Measured} → x ≡ Ok m → Short x → m.long ≤ element_bound
short_by_law e h = subst Short e h

-- ---- a row

module _ (s : List ℕ) (at name : ℕ) (k : Kind) where
  pub array_short : {f : Refusal} → number 4 at (drop at s) ≡ fault (fault_is f) → ShapeMeasured s at (some (many k)) name (Err f)
  unfolding shape_parser measured
  array_short e = record { is = sym (ap (measured (value_size name)) (map_fault array _ at (drop at s) (bind_fault (number 4) _ e))); fine = tt }

  module _ {c first : ℕ} (e : number 4 at (drop at s) ≡ ok c first (drop first s)) where
    pub first_at : at ≤ length s → (first ≡ at + 4) × (first ≤ length s)
    first_at i = ((number_front 4 at (drop at s) e).1.next, (moved (number_exact 4) s at e).inside i)

    body : shape_parser (some (many k)) at (drop at s) ≡ (array <$> (λ i r. repeat c (consumed (element_parser k)) i r)) first (drop first s)
    unfolding shape_parser ◌<$>◌ ◌>>=◌ after
    body = rw e refl

    pub array_fault : {f : Refusal} → RowMeasured s first c k name (Err f) → ShapeMeasured s at (some (many k)) name (Err f)
    unfolding measured
    array_fault w = record {
      is =
          sym (ap (measured (value_size name)) (body
          ∙ map_fault array (λ i r. repeat c (consumed (element_parser k)) i r) first (drop first s) (measured_fault (row_size (line_size name) 0) (repeat c (consumed (element_parser k)) first (drop first s)) w.is)));
      fine = tt;
    }

    pub array_fits : {n long : ℕ} → RowMeasured s first c k name (long_at n long) → long ≤ line_bound * length s
    array_fits {n} {long} w = let f : RowFine s first (long_at n long) = w.fine in omega (arith, f.0, f.1, f.2)

    pub array_next : {n long d : ℕ} → RowMeasured s first c k name (long_at n long) → d ≡ length (decimal c) → d ≤ 20 → name ≤ length_limit → at ≤ length s
        → ShapeMeasured s at (some (many k)) name (long_at n (name + 5 + d + long))
    unfolding measured value_size
    array_next {n} {long} {d} w h t l i = record {
      is =
          let q = measured_ok (repeat_exact c (consumed_exact (element_exact k))) (row_size (line_size name) 0) s first w.is in
          let m = row_length c (consumed (element_parser k)) first (drop first s) q.reads in
          let z : name + 5 + d + long ≡ name + 5 + length (decimal (length q.value)) + row_size (line_size name) 0 q.value =
          ap (λ y. name + 5 + y + long) (h ∙ ap (λ y. length (decimal y)) (sym m)) ∙ ap (λ y. name + 5 + length (decimal (length q.value)) + y) q.long in
          ap (λ y. long_at n y) z ∙ sym (ap (measured (value_size name)) (body ∙ map_value array (λ i r. repeat c (consumed (element_parser k)) i r) q.reads));
      fine = let f : RowFine s first (long_at n long) = w.fine in let g = first_at i in (omega (arith, f.0, g.0), f.1, omega (arith, f.0, f.2, g.0));
    }

-- ---- by type

-- a type of single elements of the kind k, as the code tells it apart
pub one_of : {x : Option Shape} {o : CodeShape} {code k : CodeKind} → shape_is (Some o) ≡ x → o ≡ One code → code ≡ k → some (one (kind_is k)) ≡ x
one_of e f g = ap (λ (k : CodeKind). some (one (kind_is k))) (sym g) ∙ ap (λ (o : CodeShape). shape_is (Some o)) (sym f) ∙ e

pub unlisted : (s : List ℕ) (at name : ℕ) {f : Refusal} → f ≡ refused_at unlisted_type at → ShapeMeasured s at none name (Err f)
unfolding shape_parser fail measured
unlisted s at name e = record { is = ap Err e; fine = tt }

pub value_by : {s : List ℕ} {at name version t : ℕ} {o : Option Shape} {r : Outcome Measured Refusal} → o ≡ shape_of version t → ShapeMeasured s at o name r → ValueMeasured version s at t name r
unfolding value_parser
value_by {s} {at} {name} e h = record { is = h.is ∙ ap (λ o. measured (value_size name) (shape_parser o at (drop at s))) e; fine = h.fine }
