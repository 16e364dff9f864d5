-- What is written for the first line of a block.
use Rattle.std.specs.Prelude.{◌≡◌, ℕ, List, length}
use Rattle.bsii_format.specs.Reader.{WellFormed}
use Rattle.bsii_format.specs.Strings.{Id, id_parser}
use Rattle.bsii_format.specs.BlockText.{block_opening}
use Rattle.bsii_window.specs.Window.{Wrote}

-- `raw` are the bytes of an id that was accepted
pub record OpeningWritten (name raw old : List ℕ) (to r : ℕ) (new : List ℕ) : Type 0 where
  pub writes : (i : Id) → WellFormed id_parser i raw → Wrote old to (block_opening name i) r new
  pub size : length new ≡ length old
