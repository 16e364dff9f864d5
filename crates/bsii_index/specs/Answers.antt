-- What the calls' answers mean.
use Rattle.std.specs.Prelude.{List, ℕ, Ok, Err, Result as Outcome}
use Rattle.bsii_format.specs.Replies.{Reply, gives, refuses}
use Rattle.bsii_format.specs.Calls.{WriteAnswer}
use Rattle.bsii_string.specs.Answers.{fault_is}
use Rattle.bsii_string.specs.declared.answers.Refusal.{Refusal}
use Rattle.bsii_string.specs.declared.answers.Unwritten.{Unwritten}

abbrev pub checked_is : Outcome (Unit {0}) Refusal → Reply (Unit {0})
checked_is (Ok u) = gives u
checked_is (Err f) = refuses (fault_is f)

-- with the space after the call
abbrev pub length_is : Outcome ℕ Unwritten → List ℕ → WriteAnswer ℕ
length_is (Ok n) space = record { reply = gives n; needed = 0; output = space }
length_is (Err r) space = record { reply = refuses (fault_is r.refusal); needed = r.needed; output = space }
