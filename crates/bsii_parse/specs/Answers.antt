-- What the reading call's answer means.
use Rattle.std.specs.Prelude.{Ok, Err, Result as Outcome}
use Rattle.bsii_format.specs.Replies.{Reply, gives, refuses}
use Rattle.bsii_format.specs.Calls.{Reading as ReadingOf}
use Rattle.bsii_string.specs.Answers.{fault_is}
use Rattle.bsii_string.specs.declared.answers.Refusal.{Refusal}
use Rattle.bsii_parse.specs.declared.reading.Reading.{Reading}

abbrev pub reading_is : Outcome Reading Refusal → Reply ReadingOf
reading_is (Ok r) = gives (record { prototypes = r.prototypes; blocks = r.blocks; next = r.next })
reading_is (Err f) = refuses (fault_is f)
