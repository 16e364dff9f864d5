-- The file's figures: what the walk has found and added up, and the length of its text. A file that is refused has its own fault, and one without a text the
-- text's.
use mathlib.Core.Path.{◌≡◌, refl, sym, ap, ◌∙◌, subst}
use Prim.Native.Nat.{ℕ, ◌*◌, ◌/◌, ◌≤◌, ◌<◌}
use native.Mathlib.Omega.{arith}
use mathlib.Core.List.{List, [], ◌∷◌}
use lib.ListN.{length, get_or, drop}
use Rattle.bsii_format.specs.Replies.{Reply, gives, refuses}
use Rattle.bsii_format.specs.Reader.{Result, ok, fault}
use Rattle.bsii_format.specs.File.{Record, prototype, block, BsiiFile, record_bytes, prototypes_of, distinct_ids, length_limit, parse}
use Rattle.bsii_format.specs.Text.{value_text}
use Rattle.bsii_format.specs.BlockText.{joined, file_opening, closing, every_block, records_text, file_text}
use Rattle.bsii_format.specs.Calls.{of_file, placed_records, blocks_of, record_steps, records_steps, steps_of, text_of}
use Rattle.bsii_format.proofs.ReplyLaws.{refuses≢gives, gives_inj}
use Rattle.bsii_derived.specs.Forecast.{largest_in, forecast_of, foretold, forecast_call}
use Rattle.bsii_format.proofs.File.{file_good, parse_ok}
use Rattle.bsii_derived.proofs.Claims.{was_read as was-parsed}
use Rattle.bsii_derived.proofs.Steps.{steps_few}
use Rattle.bsii_length.proofs.Bounded.{text_bounded}
use Rattle.bsii_string.specs.Answers.{fault_is}
use Rattle.bsii_string.specs.declared.answers.Refusal.{Refusal}
use Rattle.bsii_parse.specs.Walks.{block_count}
use Rattle.bsii_parse.specs.declared.walk.Totals.{Totals}
use Rattle.bsii_parse.proofs.Whole.{file_parts, blocks_counted}
use Rattle.bsii_walk.specs.Seek.{WalkAt}
use Rattle.bsii_file.proofs.Lookups.{WasRead, was_read, was_refused, read_answers, unread_refuses, holds_last}
use Rattle.bsii_file.proofs.Rereading.{walk_first}
use Rattle.bsii_measure_block.specs.Sums.{measure_of}
use Rattle.bsii_measure.specs.Files.{FileTally, FileSum, MeasuresFile}
use Rattle.bsii_measure.specs.declared.walk.Tally.{Tally}
use Rattle.bsii_measure.specs.Walks.{measured_as}
use Rattle.bsii_forecast.specs.Lengths.{framed_text, LengthIs, LengthTold}
use Rattle.bsii_forecast.specs.Foresees.{figures_of, Foresees, foreseen, unforeseen}
use Rattle.bsii_forecast.specs.Answers.{forecast_is}
use Rattle.bsii_forecast.specs.declared.answers.Figures.{Figures}
use Rattle.bsii_forecast.specs.declared.answers.Forecast.{Forecast}
use Rattle.std.specs.Prelude.{Ok, Err, Result as Outcome}

-- the file's text, from its records
pub file_framed : (f : BsiiFile) → length f.header.raw ≡ 8 → file_text value_text every_block f ≡ framed_text value_text every_block (prototypes_of f.records) f.records
unfolding file_text
file_framed f e = ap (λ (k : ℕ). joined (joined (gives file_opening) (records_text value_text every_block (prototypes_of f.records) k f.records)) (gives closing)) e

-- the figures are those of the file and its text
told_figures : {s t : List ℕ} (f : BsiiFile) {n : ℕ} (x : List ℕ) {t' : List ℕ} {version rows blocks text largest steps : ℕ} → parse (length t) s ≡ ok f n (drop n s)
    → file_text value_text every_block f ≡ gives x → WalkAt version s (length t / 3) rows (prototypes_of f.records) t' 8 [] f.records → length t' ≡ length t
    → version ≡ f.header.value → rows ≡ distinct_ids (prototypes_of f.records) → blocks ≡ length (blocks_of f) → text ≡ length x → largest ≡ largest_in f.records → steps ≡ steps_of f
    → Foresees s t (Ok (record { version = version; rows = rows; blocks = blocks; text = text; largest = largest; steps = steps })) t'
told_figures f x e h w l a b c d g k = rw (a, b, c, d, g, k) (foreseen f x e h (rw (a, b) at w) l)

module _ (s t : List ℕ) {t' : List ℕ} where
  pub file_refused : {f : Refusal} → MeasuresFile s t (Err f) t' → length t' ≡ length t → Foresees s t (Err f) t'
  unfolding text_of
  file_refused k l = unforeseen (unread_refuses (λ f at. file_text value_text every_block f) (length t) s (was_refused k.reads)) l

  module _ {n : Totals} {m : Tally} (k : MeasuresFile s t (measured_as n m) t') where
    pub walk_read : WasRead s t n t'
    walk_read = was_read k.reads

    framed : file_text value_text every_block walk_read.file ≡ framed_text value_text every_block (prototypes_of walk_read.file.records) walk_read.file.records
    framed = file_framed walk_read.file (file_parts (length t) s walk_read.parsed).header

    file_is : text_of (length t) s ≡ file_text value_text every_block walk_read.file
    unfolding text_of
    file_is = read_answers (λ f at. file_text value_text every_block f) walk_read

    tally : FileTally walk_read.file n.rows n.prototypes m
    tally = let w : FileSum walk_read.file (measured_as n m) = k.sums walk_read.file _ walk_read.parsed in w

    -- the length that was told is the text's
    module _ {t'' : List ℕ} (bytes : (i : ℕ) → get_or s i 0 < 256) where
      told : {q : Outcome ℕ Refusal} → LengthTold value_text every_block n s t' m.text q t''
          → LengthIs value_text every_block n.version s (length t / 3) n.rows (prototypes_of walk_read.file.records) walk_read.file.records q t''
      told v =
          v.answers (length t / 3) (prototypes_of walk_read.file.records) walk_read.file.records (walk_first walk_read)
          (λ x e. text_bounded (length t) s x bytes (file_parts (length t) s walk_read.parsed).short (file_is ∙ framed ∙ e))
          (λ e. tally.text e ∙ ap measure_of framed)

      pub text_refused : {f : Refusal} → LengthTold value_text every_block n s t' m.text (Err f) t'' → length t'' ≡ length t → Foresees s t (Err f) t''
      unfolding measure_of
      text_refused {f} v l = unforeseen (file_is ∙ go (file_text value_text every_block walk_read.file) ((told v).is ∙ ap measure_of (sym framed))) l
        where
          go : (x : Reply (List ℕ)) → ◌≡◌ {A = Reply ℕ} (refuses (fault_is f)) (measure_of x) → x ≡ refuses (fault_is f)
          go (gives x) e = refuses≢gives e
          go (refuses x) e = cc

      pub text_foreseen : {long : ℕ} → LengthTold value_text every_block n s t' m.text (Ok long) t'' → length t'' ≡ length t
          → Foresees s t (Ok (record { version = n.version; rows = n.rows; blocks = n.blocks; text = long; largest = m.largest; steps = m.steps })) t''
      unfolding measure_of blocks_of placed_records
      text_foreseen {long} v l = go (file_text value_text every_block f) refl ((told v).is ∙ ap measure_of (sym framed))
        where
          f : BsiiFile
          f = walk_read.file

          go : (o : Reply (List ℕ)) → file_text value_text every_block f ≡ o → ◌≡◌ {A = Reply ℕ} (gives long) (measure_of o)
              → Foresees s t (Ok (record { version = n.version; rows = n.rows; blocks = n.blocks; text = long; largest = m.largest; steps = m.steps })) t''
          go (refuses x) h d = refuses≢gives (sym d)
          go (gives x) h d =
              told_figures f x walk_read.parsed h ((told v).serves long refl) l (ap (λ (a : Totals). a.version) walk_read.counted) (holds_last walk_read).count
              (ap (λ (a : Totals). a.blocks) walk_read.counted ∙ sym (blocks_counted (λ r. length (record_bytes r)) (length f.header.raw) f.records))
              (gives_inj d) tally.largest tally.steps

-- ---- the call

-- a block is a step
blocks_few : (l : List Record) → block_count l ≤ records_steps l
unfolding block_count records_steps record_steps
blocks_few [] = omega arith
blocks_few (prototype p ∷ l) = omega (arith, blocks_few l)
blocks_few (block b ∷ l) = omega (arith, blocks_few l)

-- the products fit: no more ids than a third of the words, no more blocks than the limit has bytes
fit_of : {s t : List ℕ} {r : Outcome Figures Refusal} {t' : List ℕ} → Foresees s t r t' → {a : Figures} → r ≡ Ok a → (3 * a.rows ≤ length t) × (a.blocks ≤ length_limit)
unfolding prototypes_of blocks_of placed_records steps_of
fit_of {s} {t} (foreseen f x e h w l) {a} z =
    let same : figures_of f x ≡ a = cc in
    subst (λ (a : Figures). (3 * a.rows ≤ length t) × (a.blocks ≤ length_limit)) same (
      omega (arith, (file_good (length t / 3) s f _ _ (parse_ok (length t) s e).1).good.roomed),
      omega (arith, steps_few (was-parsed (length t) s e), blocks_few f.records, (parse_ok (length t) s e).0, blocks_counted (λ r. length (record_bytes r)) (length f.header.raw) f.records),
    )
fit_of (unforeseen e l) z = cc

pub figures_fit : {s t : List ℕ} {a : Figures} {t' : List ℕ} → Foresees s t (Ok a) t' → (3 * a.rows ≤ length t) × (a.blocks ≤ length_limit)
figures_fit k = fit_of k refl

pub table_size_law : {s t : List ℕ} {r : Outcome Figures Refusal} {t' : List ℕ} → Foresees s t r t' → length t' ≡ length t
table_size_law (foreseen f x e h w l) = l
table_size_law (unforeseen e l) = l

-- what the call makes of the figures
abbrev pub foretells : Figures → Forecast
foretells a = record { table_words = 3 * a.rows; text_length = a.text; index_length = a.blocks * 12; largest_block = a.largest; steps = a.steps }

abbrev foretold_of : Outcome Figures Refusal → Outcome Forecast Refusal
foretold_of (Ok a) = Ok (foretells a)
foretold_of (Err f) = Err f

call_of : {s t : List ℕ} {r : Outcome Figures Refusal} {t' : List ℕ} → Foresees s t r t' → forecast_is (foretold_of r) ≡ forecast_call (length t) s
unfolding forecast_call text_of of_file foretold forecast_of
call_of (foreseen f x e h w l) = rw (e, h) refl
call_of {s} {t} (unforeseen {f = g} e l) = go (parse (length t) s) e
  where
    go : (q : Result BsiiFile) → of_file (λ f at. file_text value_text every_block f) q ≡ refuses (fault_is g) → refuses (fault_is g) ≡ of_file (λ f at. foretold f (file_text value_text every_block f)) q
    go (ok f at r) e = sym (ap (foretold f) e)
    go (fault x) e = cc

module _ {s t t' : List ℕ} where
  pub call_refused : {f : Refusal} → Foresees s t (Err f) t' → refuses (fault_is f) ≡ forecast_call (length t) s
  call_refused k = call_of k

  pub call_gives : {a : Figures} → Foresees s t (Ok a) t' → forecast_is (Ok (foretells a)) ≡ forecast_call (length t) s
  call_gives k = call_of k
