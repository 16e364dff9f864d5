-- The whole file: the walk behind its header, the frame of its text, and where the sum is the text's length.
use mathlib.Core.Path.{◌≡◌, refl, sym, ap, ◌∙◌, subst}
use Prim.Native.Nat.{ℕ, ◌+◌, ◌*◌, ◌/◌, ◌≤◌, ◌<◌}
use native.Mathlib.Omega.{arith}
use mathlib.Core.List.{List, []}
use lib.ListN.{length, take, drop}
use lib.Seq.{length-take-le}
use Rattle.bsii_format.specs.Replies.{Reply, gives, input_long}
use Rattle.bsii_format.specs.Reader.{ok, fault}
use Rattle.bsii_format.specs.File.{record_bytes, header_parser, BsiiFile, bsii_file, length_limit, parse, prototypes_of, distinct_ids}
use Rattle.bsii_format.specs.Calls.{placed, placed_records, prototypes_in, steps_of}
use Rattle.bsii_format.specs.Text.{value_text}
use Rattle.bsii_format.specs.BlockText.{joined, closing, file_opening}
use Rattle.bsii_format.proofs.Readers.{ok_val}
use Rattle.bsii_format.proofs.Records.{records_good}
use Rattle.bsii_length.specs.Bounds.{line_bound}
use Rattle.bsii_derived.specs.IndexCalls.{once}
use Rattle.bsii_derived.proofs.Once.{counts_once}
use Rattle.bsii_string.specs.Answers.{fault_is, refused_at}
use Rattle.bsii_string.specs.declared.answers.Refusal.{Refusal}
use Rattle.bsii_tree.specs.Table.{Linked}
use Rattle.bsii_order.specs.Ordered.{Ordered}
use Rattle.bsii_parse.specs.Walks.{Growing, read, unread, ReadTree}
use Rattle.bsii_parse.specs.declared.walk.Totals.{Totals}
use Rattle.std.specs.Prelude.{Ok, Err, Some, None, Result as Outcome, Option}
use Rattle.bsii_parse.proofs.Records.{defined_length}
use Rattle.bsii_parse.proofs.Tables.{bare_all}
use Rattle.bsii_parse.proofs.Whole.{long_refused, header_refused, header, header_long, records_refused, records_read, file_parts, tree_linked, tree_ordered, tree_stopped}
use Rattle.bsii_measure_block.specs.Sums.{measure_of, plus, sum_is}
use Rattle.bsii_measure_block.proofs.SumLaws.{measure_joined}
use Rattle.bsii_measure.specs.InForce.{in_force_text}
use Rattle.bsii_measure.specs.Walks.{TallyOf, measured_as, SumWalks, walked, stopped}
use Rattle.bsii_measure.specs.Files.{BlocksSum, MeasuresTree, MeasuresFile}
use Rattle.bsii_measure.specs.declared.walk.Tally.{Tally}
use Rattle.bsii_measure.specs.declared.walk.Measuring.{Measuring}
use Rattle.bsii_measure.proofs.InForceLaws.{framed_last}

-- ---- in front of the records

pub measured_long : (s t : List ℕ) → length_limit < length s → MeasuresTree s t (Err (refused_at input_long 0)) t
measured_long s t h = record { reads = unread (long_refused (length t) s h) refl; sums = λ f n e. tt }

module _ (s t : List ℕ) (short : length s ≤ length_limit) where
  pub measured_header : {f : Refusal} → header_parser 0 s ≡ fault (fault_is f) → MeasuresTree s t (Err f) t
  measured_header e = record { reads = unread (header_refused s t short e) refl; sums = λ f n e. tt }

  pub measured_walk : {v : ℕ} → header_parser 0 s ≡ ok v 8 (drop 8 s) → {r : Outcome Measuring Refusal} {t' : List ℕ} → SumWalks v s 8 t r t' → MeasuresTree s t r t'
  unfolding bsii_file header placed_records
  measured_walk h {t' = t'} (walked q {rows = rows} {m = m} e k l tally fits) =
      let start : 8 ≡ length (take 8 s) = sym (length-take-le 8 s (header_long s t short h)) in
      let file = records_read s t short h q e in
      record {
        reads = read (bsii_file (header s t short h) q) file (subst (λ n. Growing s t' rows (prototypes_in (placed (λ r. length (record_bytes r)) n q.records) [])) start k) l;
        sums = λ f n g.
            let same : bsii_file (header s t short h) q ≡ f = ok_val (sym file ∙ g) in
            (subst (λ (f : BsiiFile). TallyOf (length f.header.raw) f.records m) same (subst (λ n. TallyOf n q.records m) start tally), omega (arith, fits, short));
      }
  measured_walk h (stopped e l) = record { reads = unread (records_refused s t short h e) l; sums = λ f n g. tt }

-- ---- with as many rows as prototypes

-- the file that was read, and what the totals say of it
record Counted (s t : List ℕ) (a : Totals) : Type 0 where
  file : BsiiFile
  next : ℕ
  reads : parse (length t) s ≡ ok file next (drop next s)
  rows : a.rows ≡ distinct_ids (prototypes_of file.records)
  prototypes : a.prototypes ≡ length (prototypes_of file.records)

counted_of : {s t : List ℕ} {x : Outcome Totals Refusal} {t' : List ℕ} → ReadTree s t x t' → {a : Totals} → x ≡ Ok a → Counted s t a
unfolding prototypes_of placed_records
counted_of {s} {t} (read f {rows = rows} {n = n} e k l) z =
    let all = defined_length f.records [] in
    subst (Counted s t) (read_is z) (record {
      file = f;
      next = n;
      reads = e;
      rows = k.holds.count ∙ ap distinct_ids (bare_all (λ r. length (record_bytes r)) (length f.header.raw) f.records []);
      prototypes = omega (arith, all);
    })
  where
    read_is : {a b : Totals} → ◌≡◌ {A = Outcome Totals Refusal} (Ok a) (Ok b) → a ≡ b
    read_is e = cc
counted_of (unread e l) z = cc

counted : {s t : List ℕ} {a : Totals} {t' : List ℕ} → ReadTree s t (Ok a) t' → Counted s t a
counted r = counted_of r refl

-- the frame has 13 bytes
framed_sum : (to : ℕ) (missing : Option ℕ) (x : Reply (List ℕ)) → sum_is to missing ≡ measure_of x → sum_is (to + 13) missing ≡ measure_of (joined (joined (gives file_opening) x) (gives closing))
unfolding file_opening closing measure_of
framed_sum to missing x h =
    go missing ∙ ap (λ y. plus (plus (gives 11) y) (gives 2)) h ∙ ap (λ y. plus y (gives 2)) (sym (measure_joined (gives file_opening) x))
    ∙ sym (measure_joined (joined (gives file_opening) x) (gives closing))
  where
    go : (missing : Option ℕ) → sum_is (to + 13) missing ≡ plus (plus (gives 11) (sum_is to missing)) (gives 2)
    go None = unfold sum_is plus in let z : to + 13 ≡ 11 + to + 2 = omega arith in ap gives z
    go (Some o) = unfold sum_is plus in refl

abbrev pub with_frame : Tally → Tally
with_frame m = record { text = record { to = m.text.to + 13; missing = m.text.missing }; steps = m.steps; largest = m.largest }

module _ {s t t' : List ℕ} where
  pub measured_fault : {f : Refusal} → MeasuresTree s t (Err f) t' → MeasuresFile s t (Err f) t'
  measured_fault w = record { reads = tree_stopped w.reads; sums = λ f n e. tt }

  module _ {a : Totals} {m : Tally} (w : MeasuresTree s t (measured_as a m) t') where
    pub measured_linked : Linked s t' a.rows
    measured_linked = tree_linked w.reads

    pub measured_fits : m.text.to ≤ line_bound * length_limit
    measured_fits = let c = counted w.reads in let b : BlocksSum c.file (measured_as a m) = w.sums c.file c.next c.reads in b.1

    pub measured_file : {t'' : List ℕ} → Ordered s t' a.rows t'' → MeasuresFile s t (measured_as a (with_frame m)) t''
    unfolding steps_of
    measured_file o = record {
      reads = tree_ordered w.reads o;
      sums = λ f n e.
          let blocks : BlocksSum f (measured_as a m) = w.sums f n e in
          let tally = blocks.0 in
          record {
            text = λ rows.
                let c = counted w.reads in
                let same : c.file ≡ f = ok_val (sym c.reads ∙ e) in
                let each = counts_once (prototypes_of c.file.records) (sym c.rows ∙ rows ∙ c.prototypes) in
                let p = file_parts (length t) s e in
                let g = records_good f.header.value (length t / 3) (length (drop 8 s)) [] 8 (drop 8 s) (record { records = f.records; end = f.end }) n (drop n s) p.reads in
                framed_sum m.text.to m.text.missing (in_force_text value_text [] (length f.header.raw) f.records) tally.text
                ∙ ap measure_of (framed_last value_text f g.good (ap (λ (x : BsiiFile). once (prototypes_of x.records)) (sym same) ∙ each));
            steps = tally.steps;
            largest = tally.largest;
          };
    }
