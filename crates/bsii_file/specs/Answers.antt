-- What the calls' answers mean.
use Rattle.std.specs.Prelude.{ℕ, Ok, Err, Result as Outcome}
use Rattle.bsii_format.specs.Replies.{Reply, gives, refuses}
use Rattle.bsii_format.specs.Calls.{PrototypeAnswer, BlockAnswer}
use Rattle.bsii_string.specs.Answers.{fault_is}
use Rattle.bsii_string.specs.declared.answers.Refusal.{Refusal}
use Rattle.bsii_file.specs.declared.prototypes.PrototypeHead.{PrototypeHead}
use Rattle.bsii_file.specs.declared.blocks.BlockHead.{BlockHead}

abbrev pub prototype_is : Outcome PrototypeHead Refusal → Reply PrototypeAnswer
prototype_is (Ok p) = gives (record { name = record { offset = p.name; size = p.name_size }; fields = p.fields })
prototype_is (Err f) = refuses (fault_is f)

abbrev pub block_is : Outcome BlockHead Refusal → Reply BlockAnswer
block_is (Ok b) = gives (record { prototype_id = b.prototype_id; id = record { offset = b.id; size = b.id_size } })
block_is (Err f) = refuses (fault_is f)

abbrev pub number_is : Outcome ℕ Refusal → Reply ℕ
number_is (Ok n) = gives n
number_is (Err f) = refuses (fault_is f)
