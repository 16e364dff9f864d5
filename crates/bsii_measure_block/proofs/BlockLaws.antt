-- A block: its first line, its values and its last line; and what its sum says of its text.
use mathlib.Core.Path.{◌≡◌, refl, sym, ap, ◌∙◌, subst}
use Prim.Native.Nat.{ℕ, ◌+◌, ◌*◌, ◌≤◌, ◌<◌}
use native.Mathlib.Omega.{arith}
use mathlib.Core.Bool.{true, cond}
use mathlib.Core.Option.{Option, some}
use mathlib.Core.List.{List}
use lib.ListN.{length, drop, get_or, length-append, length-drop}
use lib.Seq.{get_or-drop}
use lib.Dec.{T, eqb, eqb_refl}
use Rattle.bsii_format.specs.Replies.{Reply, gives, refuses, refusal, field_count}
use Rattle.bsii_format.specs.Reader.{ok}
use Rattle.bsii_format.specs.Strings.{Id, id_parser}
use Rattle.bsii_format.specs.Values.{Value}
use Rattle.bsii_format.specs.Prototypes.{ValuePrototype, Prototype, fields_parser}
use Rattle.bsii_format.specs.Blocks.{DataBlock, data_values_parser}
use Rattle.bsii_format.specs.File.{length_limit}
use Rattle.bsii_format.specs.Text.{id_text, value_text}
use Rattle.bsii_format.specs.BlockText.{joined, block_opening, closing, values_offset, fields_text, block_text}
use Rattle.bsii_format.proofs.Readers.{is_true}
use Rattle.bsii_format.proofs.Parsers.{id_exact}
use Rattle.bsii_format.proofs.Records.{values_good, values_length}
use Rattle.bsii_format.proofs.Positions.{moved}
use Rattle.bsii_length.proofs.Taken.{Input}
use Rattle.bsii_length.proofs.Elements.{id_takes}
use Rattle.bsii_string.specs.Answers.{end_of}
use Rattle.bsii_block.specs.Blocks.{DefinedAt}
use Rattle.bsii_string.specs.declared.answers.Refusal.{Refusal}
use Rattle.bsii_string.proofs.Ends.{next≢fault, next_same}
use Rattle.bsii_prototype.specs.Entries.{unchecked_head}
use Rattle.bsii_prototype.proofs.Beginnings.{head_past}
use Rattle.bsii_walk.proofs.Naming.{head_ends, name_inside, standing}
use Rattle.bsii_walk.proofs.Parts.{BlockParts}
use Rattle.bsii_measure_string.specs.Measured.{long_at, measured}
use Rattle.bsii_measure_block.specs.Sums.{measure_of, plus, sum_is, sums, BlockFits, Room}
use Rattle.bsii_measure_block.specs.Fields.{values_sum, ValuesSummed}
use Rattle.bsii_measure_block.specs.Blocks.{framed_by, Framed, block_sum, BlockSummed}
use Rattle.bsii_measure_block.specs.declared.sums.Sum.{Sum}
use Rattle.bsii_measure_block.specs.declared.sums.SummedBlock.{SummedBlock}
use Rattle.std.specs.Prelude.{Ok, Err, Result as Answer}
use Rattle.bsii_measure_block.proofs.SumLaws.{measure_joined, sum_more}
use Rattle.bsii_measure_string.proofs.Measures.{measured_ok, measured_fault}

abbrev id_size : Id → ℕ
id_size i = length (id_text i)

opening_size : (name : List ℕ) (i : Id) → length (block_opening name i) ≡ length name + id_size i + 6
unfolding block_opening
opening_size name i = simp length-append (omega arith)

-- the last line may be added first
frame : (a : Reply ℕ) (m k : ℕ) (f : Reply ℕ) → plus (plus a (gives (m + k))) f ≡ plus a (plus (plus (gives m) f) (gives k))
unfolding plus
frame (gives a) m k (gives f) = let z : a + (m + k) + f ≡ a + (m + f + k) = omega arith in ap gives z
frame (gives a) m k (refuses x) = refl
frame (refuses x) m k f = refl

-- ---- the block is written under the definition that it was read under, so that 8 cannot be

pub block_text_law : (text : ValuePrototype → Value → Option (List ℕ)) (version : ℕ) (before : Reply ℕ) (env : List Prototype) (s : List ℕ) (at n : ℕ) (b : DataBlock) (w : BlockParts version env s at n b)
    → block_sum text version before w.by (id_parser (at + length b.head) (drop (at + length b.head) s)) ≡ sums n (plus before (measure_of (block_text text at (some w.by) b)))
unfolding block_sum values_sum block_text values_offset measure_of
block_text_law text version before env s at n b w =
    let p = w.by in
    let x = at + length b.head + length b.id.raw in
    let g = values_good p.fields x (drop x s) b.values n (drop n s) w.values in
    let even : eqb (length p.fields) (length b.values) ≡ true =
    is_true (eqb (length p.fields) (length b.values)) (subst (λ m. T (eqb (length p.fields) m)) (values_length g.good) (eqb_refl (length p.fields))) in
    let opening = gives (block_opening p.name b.id.value) in
    let fields = fields_text text x p.fields b.values in
    let shown : measure_of (joined (joined opening fields) (gives closing)) ≡ plus (plus (measure_of opening) (measure_of fields)) (gives (length closing)) =
    measure_joined (joined opening fields) (gives closing) ∙ ap (λ z. plus z (gives (length closing))) (measure_joined opening fields) in
    ap (block_sum text version before p) w.id
    ∙ ap (λ q. values_sum text (plus before (gives (length (block_opening p.name b.id.value) + length closing))) x p.fields q) w.values
    ∙ ap (sums n) (frame before (length (block_opening p.name b.id.value)) (length closing) (measure_of fields) ∙ ap (plus before) (sym shown))
    ∙ ap (λ c. sums n (plus before (measure_of (cond c (joined (joined opening fields) (gives closing)) (refusal field_count at))))) (sym even)

-- ---- the code's answers

input_at : (s : List ℕ) (at : ℕ) → ((i : ℕ) → get_or s i 0 < 256) → length s ≤ length_limit → Input (drop at s)
input_at s at h k = record { bytes = λ i. rw get_or-drop (h (at + i)); short = rw length-drop (omega arith) }

-- the block's two lines fit into what the id's bytes allow
pub record Begins (s : List ℕ) (o first at start long : ℕ) (sum : Sum) : Type 0 where
  pub frame : Framed sum o first long
  pub late : at ≤ start
  pub room : Room s start (framed_by sum o first long)

pub begins : {s : List ℕ} (o at : ℕ) {sum : Sum} → Room s at sum → ((i : ℕ) → get_or s i 0 < 256) → {first : ℕ} → Ok first ≡ end_of (unchecked_head o (drop o s))
    → {start long : ℕ} → long_at start long ≡ measured id_size (id_parser at (drop at s)) → Begins s o first at start long sum
begins {s} o at r b e {start = start} {long} d =
    let q = measured_ok id_exact id_size s at d in
    let m = moved id_exact s at q.reads in
    let t = id_takes.taken at (drop at s) q.value start (drop start s) (input_at s at b r.short) q.reads in
    let n = name_inside s o e refl in
    let l : at < start = omega (arith, t.long, length-drop at s, length-drop start s, t.holds.some, m.inside r.inside) in
    let u : long ≤ 65 * length_limit + 100 = omega (arith, q.long, t.long, length-drop at s, t.holds.text, r.short) in
    record {
      frame = record { begun = omega (arith, r.fits, r.inside, r.short); named = n.0; inside = omega (arith, n.1, r.short); short = omega arith };
      late = omega arith;
      room = record { short = r.short; inside = m.inside r.inside; fits = omega (arith, r.fits, r.short, n.1) };
    }

-- the definitions behind the head of the prototype that stands there
listed : (s : List ℕ) (o : ℕ) {first : ℕ} → Ok first ≡ end_of (unchecked_head o (drop o s)) → (p : Prototype) (x : DefinedAt s o p)
    → fields_parser first (drop first s) ≡ ok (record { fields = p.fields; terminator = p.terminator }) x.next (drop x.next s)
listed s o e p x = ap (λ (k : ℕ). fields_parser k (drop k s)) (next_same (standing s o e p x)) ∙ x.list

module _ {version : ℕ} {s : List ℕ} {o at : ℕ} {sum : Sum} where
  pub block_absent : {f : Refusal} → Err f ≡ end_of (unchecked_head o (drop o s)) → (x : Refusal) → BlockSummed version s o at sum (Err x)
  block_absent e x = record { is = λ p d. next≢fault (sym (standing s o e p d)); counts = λ p d. tt; fine = tt }

  pub block_id_fault : {f : Refusal} → Err f ≡ measured id_size (id_parser at (drop at s)) → BlockSummed version s o at sum (Err f)
  unfolding block_sum
  block_id_fault d = record {
    is = λ p x. sym (ap (block_sum value_text version (sum_is sum.to sum.missing) p) (measured_fault id_size (id_parser at (drop at s)) d));
    counts = λ p d. tt;
    fine = tt;
  }

  module _ {first : ℕ} (e : Ok first ≡ end_of (unchecked_head o (drop o s))) {start long : ℕ} (d : long_at start long ≡ measured id_size (id_parser at (drop at s))) where
    pub block_values : {r : Answer SummedBlock Refusal} → at ≤ start → ValuesSummed version s first start (framed_by sum o first long) r → BlockSummed version s o at sum r
    unfolding block_sum closing
    block_values {r} late v = record {
      is = λ p x.
          let q = measured_ok id_exact id_size s at d in
          let there : x.fields ≡ first = next_same (sym (standing s o e p x)) in
          let name = head_ends s o (head_past o (drop o s) x.head) in
          let opening = length (block_opening p.name q.value) in
          let all : (framed_by sum o first long).to ≡ sum.to + (opening + 2) = omega (arith, name.end, there, q.long, opening_size p.name q.value) in
          v.is (record { fields = p.fields; terminator = p.terminator }) x.next (drop x.next s) (listed s o e p x)
          ∙ ap (λ y. values_sum value_text y start p.fields (data_values_parser version p.fields start (drop start s)))
          (ap (λ m. sum_is m sum.missing) all ∙ sym (sum_more sum.to sum.missing (opening + 2)))
          ∙ sym (ap (block_sum value_text version (sum_is sum.to sum.missing) p) q.reads);
      counts = λ p x. v.counts (record { fields = p.fields; terminator = p.terminator }) x.next (drop x.next s) (listed s o e p x);
      fine = widen r v.fine;
    }
      where
        widen : (r : Answer SummedBlock Refusal) → BlockFits s start r → BlockFits s at r
        widen (Ok m) h = (omega (arith, h.0, late), h.1, h.2)
        widen (Err f) h = tt
