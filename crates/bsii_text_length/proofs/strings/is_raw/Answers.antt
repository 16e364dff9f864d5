use mathlib.Core.Path.{sym}
use native.Mathlib.Omega.{arith}
use Rattle.bsii_text_length.proofs.StringLaws.{inside, before, past}
use Rattle.bsii_text_length.proofs.strings.is_raw.Goals as goal

pub returns-in-32-to-127 : goal.returns-in-32-to-127
returns-in-32-to-127 c = sym (inside 32 127 c.args.b (omega arith) (omega arith))

pub returns-in_default : goal.returns-in_default
returns-in_default c = sym (before 32 127 c.args.b (omega arith))

pub returns-in_default-2 : goal.returns-in_default-2
returns-in_default-2 c = sym (past 32 127 c.args.b (omega arith))
