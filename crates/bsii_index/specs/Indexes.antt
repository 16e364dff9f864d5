-- What the walks of the index calls know.
use Rattle.std.specs.Prelude.{◌≡◌, ℕ, ◌*◌, ◌/◌, ◌≤◌, List, [], ◌++◌, length, drop, Result as Outcome}
use Rattle.bsii_format.specs.Reader.{ok}
use Rattle.bsii_format.specs.File.{Records, length_limit}
use Rattle.bsii_format.specs.Replies.{gives}
use Rattle.bsii_format.specs.Calls.{write_answer}
use Rattle.bsii_derived.specs.Index as index
use Rattle.bsii_derived.specs.Index.{index_bytes, agreeing}
use Rattle.bsii_derived.specs.IndexCalls.{checked}
use Rattle.bsii_parse.specs.Walks.{records_at, index_at}
use Rattle.bsii_index_record.specs.Records.{Width}
use Rattle.bsii_index.specs.Answers.{checked_is, length_is}
use Rattle.bsii_string.specs.declared.answers.Refusal.{Refusal}
use Rattle.bsii_string.specs.declared.answers.Unwritten.{Unwritten}

-- ---- check

-- of the records l, `agreed` stand at the front of the bytes i, and there are `blocks`
pub record Fitting (i : List ℕ) (w agreed blocks : ℕ) (r : Outcome (Unit {0}) Refusal) : Type 0 where
  pub fits : (l : List index.IndexRecord) → agreed ≡ agreeing w l i → blocks ≡ length l → checked_is r ≡ checked w l i

-- ---- write

-- an accepted file, whose records start at `start`, with an empty table and room for its index
pub record Writable (version : ℕ) (s : List ℕ) (start : ℕ) (t space : List ℕ) (w : ℕ) : Type 0 where
  pub short : length s ≤ length_limit
  pub inside : start ≤ length s
  pub width : Width w
  pub records : Records
  pub n : ℕ
  pub reads : records_at version (length t / 3) [] start s ≡ ok records n (drop n s)
  pub room : length (index_at start records.records) * (4 * w) ≤ length space

-- all records, and behind them what was there
pub record RecordsWritten (version : ℕ) (s : List ℕ) (start : ℕ) (t space : List ℕ) (w : ℕ) (t' space' : List ℕ) : Type 0 where
  pub written : (q : Records) (n : ℕ) → records_at version (length t / 3) [] start s ≡ ok q n (drop n s)
      → space' ≡ index_bytes w (index_at start q.records) ++ drop (length (index_at start q.records) * (4 * w)) space
  pub size : length t' ≡ length t

-- an accepted file with so many blocks
pub record Readable (version : ℕ) (s t : List ℕ) (w blocks : ℕ) : Type 0 where
  pub short : length s ≤ length_limit
  pub inside : 8 ≤ length s
  pub width : Width w
  pub records : Records
  pub n : ℕ
  pub reads : records_at version (length t / 3) [] 8 s ≡ ok records n (drop n s)
  pub counted : blocks ≡ length (index_at 8 records.records)
  pub few : blocks ≤ length_limit

pub record ReadWritten (version : ℕ) (s t space : List ℕ) (w : ℕ) (r : Outcome ℕ Unwritten) (t' space' : List ℕ) : Type 0 where
  pub answers : (q : Records) (n : ℕ) → records_at version (length t / 3) [] 8 s ≡ ok q n (drop n s)
      → length_is r space' ≡ write_answer length space (gives (index_bytes w (index_at 8 q.records)))
  pub size : length t' ≡ length t
