-- What is foreseen of a file.
use Rattle.std.specs.Prelude.{◌≡◌, ℕ, ◌/◌, List, [], length, drop, Ok, Err, Result as Outcome}
use Rattle.bsii_format.specs.Replies.{gives, refuses}
use Rattle.bsii_format.specs.Reader.{ok}
use Rattle.bsii_format.specs.File.{BsiiFile, distinct_ids, prototypes_of, parse}
use Rattle.bsii_format.specs.Text.{value_text}
use Rattle.bsii_format.specs.BlockText.{every_block, file_text}
use Rattle.bsii_format.specs.Calls.{blocks_of, steps_of, text_of}
use Rattle.bsii_derived.specs.Forecast.{largest_in}
use Rattle.bsii_string.specs.Answers.{fault_is}
use Rattle.bsii_string.specs.declared.answers.Refusal.{Refusal}
use Rattle.bsii_walk.specs.Seek.{WalkAt}
use Rattle.bsii_forecast.specs.declared.answers.Figures.{Figures}

-- of a file with the text x
abbrev pub figures_of : BsiiFile → List ℕ → Figures
figures_of f x = record {
  version = f.header.value;
  rows = distinct_ids (prototypes_of f.records);
  blocks = length (blocks_of f);
  text = length x;
  largest = largest_in f.records;
  steps = steps_of f;
}

-- the figures of the file and its text, with a table fit for the walk that writes it; or the refusal of the file or of its text
pub data Foresees (s t : List ℕ) : Outcome Figures Refusal → List ℕ → Type 0 where
  foreseen : (f : BsiiFile) {n : ℕ} (x : List ℕ) {t' : List ℕ} → parse (length t) s ≡ ok f n (drop n s) → file_text value_text every_block f ≡ gives x
      → WalkAt f.header.value s (length t / 3) (distinct_ids (prototypes_of f.records)) (prototypes_of f.records) t' 8 [] f.records → length t' ≡ length t
      → Foresees s t (Ok (figures_of f x)) t'
  unforeseen : {f : Refusal} {t' : List ℕ} → text_of (length t) s ≡ refuses (fault_is f) → length t' ≡ length t → Foresees s t (Err f) t'
