-- An id by the bytes that were accepted for it.
use Rattle.std.specs.Prelude.{ℕ, zero, suc, ◌+◌, ◌*◌, ◌≤◌, ◌≡◌, List, [], ◌++◌, length}
use Rattle.bsii_format.specs.Ascii.{ascii}
use Rattle.bsii_format.specs.Reader.{WellFormed}
use Rattle.bsii_format.specs.Strings.{low63, Id, id_parser}
use Rattle.bsii_format.specs.Text.{id_text}
use Rattle.bsii_string.specs.NumbersAt.{number_at}
use Rattle.bsii_text_length.specs.Words.{spelling}
use Rattle.bsii_window.specs.Stored.{Stored}
use Rattle.bsii_window.specs.Window.{Wrote}

-- the word at a place, without its bit 63
unfoldable pub word_at : List ℕ → ℕ → List ℕ
word_at s at = spelling (low63 (number_at 8 s at))

-- n words, each with a dot in front
unfoldable pub dotted_at : ℕ → List ℕ → ℕ → List ℕ
dotted_at zero s at = []
dotted_at (suc n) s at = ascii "." ++ word_at s at ++ dotted_at n s (at + 8)

-- Nothing is said of the text where the bytes are no id: how much room it takes is said of all bytes.
pub record IdStored (raw old : List ℕ) (to r : ℕ) (new : List ℕ) : Type 0 where
  pub stores : (i : Id) → WellFormed id_parser i raw → Stored old to (id_text i) r new
  pub after : to ≤ r
  pub most : r ≤ to + 29 + 2 * length raw
  pub size : length new ≡ length old

pub record IdLength (raw : List ℕ) (r : ℕ) : Type 0 where
  pub counts : (i : Id) → WellFormed id_parser i raw → r ≡ length (id_text i)
  pub most : r ≤ 29 + 2 * length raw

pub record IdWritten (raw old : List ℕ) (at r : ℕ) (new : List ℕ) : Type 0 where
  pub writes : (i : Id) → WellFormed id_parser i raw → Wrote old at (id_text i) r new
  pub size : length new ≡ length old
