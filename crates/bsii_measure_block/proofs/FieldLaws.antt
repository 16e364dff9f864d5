-- A field: what its value's lines, or an enum value's string, add to the sum.
use mathlib.Core.Path.{◌≡◌, sym, ap, ◌∙◌}
use Prim.Native.Nat.{ℕ, ◌+◌, ◌-◌, ◌*◌, ◌≤◌}
use native.Mathlib.Omega.{arith}
use mathlib.Core.Option.{Option, none, some, map}
use mathlib.Core.List.{List, [], ◌∷◌}
use lib.ListN.{length, take, drop, length-take, length-drop}
use lib.Seq.{length-take-le}
use Rattle.bsii_format.specs.Replies as replies
use Rattle.bsii_format.specs.Replies.{gives, enum_value}
use Rattle.bsii_format.specs.Reader.{ok, fault, after, ◌>>=◌, success, ◌<$>◌, with, consumed, repeat}
use Rattle.bsii_format.specs.Numbers.{number}
use Rattle.bsii_format.specs.Types.{width, arity, enum, type_table, shape_in, shape_of}
use Rattle.bsii_format.specs.Values.{nums, single, element_parser, shape_parser, value_parser}
use Rattle.bsii_format.specs.Prototypes.{ValuePrototype}
use Rattle.bsii_format.specs.File.{length_limit}
use Rattle.bsii_format.specs.Text.{string_text, enum_string, numeric_text, element_text, field_line, value_text}
use Rattle.bsii_format.specs.BlockText.{or_refuse}
use Rattle.bsii_format.proofs.Parsers.{number_exact, value_exact}
use Rattle.bsii_format.proofs.Positions.{moved}
use Rattle.bsii_length.specs.Bounds.{line_bound}
use Rattle.bsii_length.proofs.Elements.{string_text_length}
use Rattle.bsii_string.specs.Answers.{fault_is}
use Rattle.bsii_string.specs.declared.answers.Refusal.{Refusal}
use Rattle.bsii_string.specs.declared.answers.Text.{Text}
use Rattle.std.specs.Prelude.{Ok, Err, Some, None}
use Rattle.bsii_prototype.proofs.Names.{number_front}
use Rattle.bsii_definition.specs.Enums.{StringOf}
use Rattle.bsii_definition.specs.Pairs.{Describes, InFile}
use Rattle.bsii_definition.specs.declared.pairs.Definition.{Definition}
use Rattle.bsii_measure_string.specs.Measured.{value_size}
use Rattle.bsii_measure_value.specs.Rows.{ValueFine, ValueMeasured}
use Rattle.bsii_measure_string.specs.declared.answers.Measured.{Measured}
use Rattle.bsii_measure_block.specs.Sums.{measure_of, plus, sum_is, first_missing, sums, Room}
use Rattle.bsii_measure_block.specs.Fields.{field_sum, FieldSummed, EnumSummed}
use Rattle.bsii_measure_block.specs.declared.sums.Sum.{Sum}
use Rattle.bsii_measure_block.proofs.SumLaws.{sum_more, sum_missing}
use Rattle.bsii_measure_string.proofs.Measures.{measured_ok, measured_fault}
use Rattle.bsii_measure_value.proofs.TextSizes.{value_text_law, line_size_law}

abbrev pub with_more : Sum → ℕ → Sum
with_more sum long = record { to = sum.to + long; missing = sum.missing }

-- the name's length
named : (s : List ℕ) (d : Definition) (f : ValuePrototype) → InFile s d → Describes s d f → length f.name ≡ d.name_end - d.name
named s d f i h = ap length (sym h.name) ∙ length-take-le (d.name_end - d.name) (drop d.name s) (rw length-drop (omega (arith, i.inside)))

-- ---- a value that was read adds its text, or is the first one without any

module _ (version : ℕ) (s : List ℕ) (at : ℕ) (d : Definition) (sum : Sum) (f : ValuePrototype) {n : ℕ} where
  texted : {v : _} {x : List ℕ} {long : ℕ} → value_parser version d.type_id at (drop at s) ≡ ok v n (drop n s) → value_text f v ≡ some x → long ≡ length x
      → sums n (sum_is (sum.to + long) sum.missing) ≡ field_sum value_text (sum_is sum.to sum.missing) f at (value_parser version d.type_id at (drop at s))
  unfolding field_sum or_refuse measure_of
  texted {long = long} e t l =
      ap (sums n) (sym (sum_more sum.to sum.missing long)) ∙ ap (λ m. sums n (plus (sum_is sum.to sum.missing) (gives m))) l
      ∙ sym (ap (λ o. sums n (plus (sum_is sum.to sum.missing) (measure_of (or_refuse enum_value at o)))) t)
      ∙ sym (ap (field_sum value_text (sum_is sum.to sum.missing) f at) e)

  untexted : {v : _} → value_parser version d.type_id at (drop at s) ≡ ok v n (drop n s) → value_text f v ≡ none
      → sums n (sum_is sum.to (first_missing sum at).missing) ≡ field_sum value_text (sum_is sum.to sum.missing) f at (value_parser version d.type_id at (drop at s))
  unfolding field_sum or_refuse measure_of
  untexted e t =
      ap (sums n) (sym (sum_missing sum.to sum.missing at))
      ∙ sym (ap (λ o. sums n (plus (sum_is sum.to sum.missing) (measure_of (or_refuse enum_value at o)))) t)
      ∙ sym (ap (field_sum value_text (sum_is sum.to sum.missing) f at) e)

-- ---- a value by its measure

module _ {version : ℕ} {s : List ℕ} {at : ℕ} (d : Definition) {sum : Sum} where
  pub field_fault : {f : Refusal} → ValueMeasured version s at d.type_id (d.name_end - d.name) (Err f) → FieldSummed version s at d sum (Err f)
  unfolding field_sum
  field_fault w = record {
    is = λ f h.
        sym (ap (field_sum value_text (sum_is sum.to sum.missing) f at)
        (measured_fault (value_size (d.name_end - d.name)) (value_parser version d.type_id at (drop at s)) w.is));
    fine = tt;
  }

  module _ {m : Measured} (w : ValueMeasured version s at d.type_id (d.name_end - d.name) (Ok m)) (room : Room s at sum) where
    pub field_fits : (m.at ≤ length s) × (sum.to + m.long ≤ line_bound * m.at)
    field_fits = let f : ValueFine s at (Ok m) = w.fine in (f.1, omega (arith, room.fits, f.2))

    pub field_next : (d.type_id ≡ 0x37 → ⊥) → InFile s d → FieldSummed version s at d sum (Ok (record { at = m.at; sum = with_more sum m.long }))
    field_next other i = record {
      is = λ f h.
          let q = measured_ok (value_exact version d.type_id) (value_size (d.name_end - d.name)) s at w.is in
          let t = value_text_law version d.type_id other f at (drop at s) q.reads in
          texted version s at d sum f q.reads t.is (q.long ∙ ap (λ k. value_size k q.value) (sym (named s d f i h)) ∙ sym t.size);
      fine = let f : ValueFine s at (Ok m) = w.fine in (f.0, field_fits.0, field_fits.1);
    }

-- ---- an enum value

module _ (version : ℕ) (s : List ℕ) (at : ℕ) where
  enum_stop : {x : replies.Fault} → number 4 at (drop at s) ≡ fault x → value_parser version 0x37 at (drop at s) ≡ fault x
  unfolding value_parser shape_of shape_in type_table shape_parser element_parser arity width repeat consumed after ◌<$>◌ ◌>>=◌
  enum_stop e = rw e

  enum_value_law : {n next : ℕ} → number 4 at (drop at s) ≡ ok n next (drop next s)
      → value_parser version 0x37 at (drop at s) ≡ ok (single (with (nums enum (n ∷ [])) (take (next - at) (drop at s)))) next (drop next s)
  unfolding value_parser shape_of shape_in type_table shape_parser element_parser arity width repeat success consumed after ◌<$>◌ ◌>>=◌
  enum_value_law e = rw e

enum_text_is : (f : ValuePrototype) (n : ℕ) (l : List ℕ) {o : Option (List ℕ)} → o ≡ enum_string n f.enum_values
    → value_text f (single (with (nums enum (n ∷ [])) l)) ≡ map (field_line f.name) (map string_text o)
unfolding value_text element_text numeric_text
enum_text_is f n l e = ap (λ o. map (field_line f.name) (map string_text o)) (sym e)

enum_next : {s : List ℕ} {at : ℕ} {sum : Sum} {n next : ℕ} → number 4 at (drop at s) ≡ ok n next (drop next s) → Room s at sum → (next ≡ at + 4) × (next ≤ length s)
enum_next {s} {at} e room = ((number_front 4 at (drop at s) e).1.next, (moved (number_exact 4) s at e).inside room.inside)

pub part_short : (s : List ℕ) (x y : ℕ) → length s ≤ length_limit → length (take (y - x) (drop x s)) ≤ length_limit
part_short s x y h = simp (length-take, length-drop) (omega arith)

module _ {s : List ℕ} {at : ℕ} (d : Definition) {sum : Sum} (typed : d.type_id ≡ 0x37) where
  pub enum_fault : {f : Refusal} → number 4 at (drop at s) ≡ fault (fault_is f) → EnumSummed s at d sum (Err f)
  unfolding field_sum
  enum_fault e = record {
    in_version = λ version. record {
      is = λ f h. sym (ap (field_sum value_text (sum_is sum.to sum.missing) f at) (ap (λ t. value_parser version t at (drop at s)) typed ∙ enum_stop version s at e));
      fine = tt;
    };
  }

  module _ {n next : ℕ} (e : number 4 at (drop at s) ≡ ok n next (drop next s)) (room : Room s at sum) where
    moves : (next ≡ at + 4) × (next ≤ length s)
    moves = enum_next e room

    pub enum_absent : StringOf s d.name_end d.type_id n None → EnumSummed s at d sum (Ok (record { at = next; sum = first_missing sum at }))
    enum_absent a = record {
      in_version = λ version. record {
        is = λ f k.
            untexted version s at d sum f (ap (λ t. value_parser version t at (drop at s)) typed ∙ enum_value_law version s at e)
            (enum_text_is f n _ (a.is f.enum_values k.end (drop k.end s) k.enums));
        fine = (omega (arith, moves.0), moves.1, omega (arith, moves.0, room.fits));
      };
    }

    module _ {x : Text} (a : StringOf s d.name_end d.type_id n (Some x)) where
      -- a string's text is at most four times as long
      pub enum_fits : InFile s d → {long : ℕ} → long ≡ length (string_text (take (x.next - x.start) (drop x.start s))) → d.name_end - d.name + 5 + long ≤ 5 * length_limit + 7
      enum_fits i l = omega (arith, string_text_length (take (x.next - x.start) (drop x.start s)), part_short s x.start x.next room.short, l, i.inside, room.short)

      pub enum_text : (i : InFile s d) {long : ℕ} → long ≡ length (string_text (take (x.next - x.start) (drop x.start s)))
          → EnumSummed s at d sum (Ok (record { at = next; sum = with_more sum (d.name_end - d.name + 5 + long) }))
      enum_text i {long} l = record {
        in_version = λ version. record {
          is = λ f k.
              let t = string_text (take (x.next - x.start) (drop x.start s)) in
              let m : d.name_end - d.name + 5 + long ≡ length (field_line f.name t) = omega (arith, line_size_law f.name t, named s d f i k, l) in
              texted version s at d sum f (ap (λ t. value_parser version t at (drop at s)) typed ∙ enum_value_law version s at e)
              (enum_text_is f n _ (a.is f.enum_values k.end (drop k.end s) k.enums)) m;
          fine = (omega (arith, moves.0), moves.1, omega (arith, moves.0, enum_fits i l, room.fits));
        };
      }
