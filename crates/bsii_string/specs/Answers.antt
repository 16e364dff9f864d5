-- What the code's answers mean: for each case the specification's result.
use Rattle.std.specs.Prelude.{ℕ, ◌-◌, List, take, drop, Ok, Err, Result as Outcome}
use Rattle.bsii_format.specs.declared.Cause.{Cause}
use Rattle.bsii_format.specs.Replies as replies
use Rattle.bsii_format.specs.Reader.{Result, ok, fault, Reader, bytes, ◌>>=◌}
use Rattle.bsii_format.specs.Numbers.{le_u32}
use Rattle.bsii_string.specs.declared.answers.Refusal.{Refusal}
use Rattle.bsii_string.specs.declared.answers.Text.{Text}

-- what a refusal of the code means, and back: laws that only hand a refusal on name none of its fields
abbrev pub fault_is : Refusal → replies.Fault
fault_is f = record { cause = f.cause; offset = f.offset; lacking = f.lacking }

abbrev pub refusal_is : replies.Fault → Refusal
refusal_is f = record { lacking = f.lacking; cause = f.cause; offset = f.offset }

abbrev pub refused_at : Cause → ℕ → Refusal
refused_at c at = record { lacking = 0; cause = c; offset = at }

abbrev pub short_by : ℕ → ℕ → Refusal
short_by at k = record { lacking = k; cause = replies.malformed; offset = at }

-- a position of the file stands for the bytes from there on
abbrev pub num_of : List ℕ → Outcome (ℕ × ℕ) Refusal → Result ℕ
num_of s (Ok (v, next)) = ok v next (drop next s)
num_of s (Err f) = fault (fault_is f)

abbrev pub str_of : List ℕ → Outcome Text Refusal → Result (List ℕ)
str_of s (Ok t) = ok (take (t.next - t.start) (drop t.start s)) t.next (drop t.next s)
str_of s (Err f) = fault (fault_is f)

-- a result without its value and the bytes after it
unfoldable pub end_of : {A : Type 0} → Result A → Outcome ℕ Refusal
end_of (ok a at s) = Ok at
end_of (fault f) = Err (refusal_is f)

-- a string whose bytes nobody checks: they were checked before
unfoldable pub unchecked_str : Reader (List ℕ)
unchecked_str = do
  n ← le_u32
  bytes n
