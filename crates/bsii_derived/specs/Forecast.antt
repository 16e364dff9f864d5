-- What a save will need, told beforehand: document 02, E6; FORMAT.md, "The forecast".
use Rattle.std.specs.Prelude.{ℕ, ◌*◌, max, List, [], ◌∷◌, length}
use Rattle.bsii_format.specs.Replies.{Reply, gives, refuses}
use Rattle.bsii_format.specs.File.{Record, prototype, block, record_bytes, BsiiFile, distinct_ids, prototypes_of, parse}
use Rattle.bsii_format.specs.Text.{value_text}
use Rattle.bsii_format.specs.BlockText.{every_block, file_text}
use Rattle.bsii_format.specs.Calls.{of_file, blocks_of, steps_of}
use Rattle.bsii_derived.specs.Index.{index_width}

-- "largest block in bytes (0 without blocks)": from its prototype id to the end of its last value, as in an index
unfoldable pub largest_in : List Record → ℕ
largest_in [] = 0
largest_in (prototype p ∷ l) = largest_in l
largest_in (block b ∷ l) = max (length (record_bytes (block b))) (largest_in l)

-- "One call shall give table words, text length, index length, largest block in bytes .., and the walk's steps"
pub record Forecast : Type 0 where
  pub table_words : ℕ
  pub text_length : ℕ
  pub index_length : ℕ
  pub largest_block : ℕ
  pub steps : ℕ

-- of a file with the text t: three words for each distinct prototype id, four numbers of an index for each block
unfoldable pub forecast_of : BsiiFile → List ℕ → Forecast
forecast_of f t = record {
  table_words = 3 * distinct_ids (prototypes_of f.records);
  text_length = length t;
  index_length = length (blocks_of f) * (4 * index_width);
  largest_block = largest_in f.records;
  steps = steps_of f;
}

-- by the file's text: 8 and 9 are given as the text call gives them
unfoldable pub foretold : BsiiFile → Reply (List ℕ) → Reply Forecast
foretold f (gives t) = gives (forecast_of f t)
foretold f (refuses x) = refuses x

-- "The forecast takes the file and a table .., has no output, and gives the text call's replies except 11."
unfoldable pub forecast_call : ℕ → List ℕ → Reply Forecast
forecast_call words s = of_file (λ f at. foretold f (file_text value_text every_block f)) (parse words s)
