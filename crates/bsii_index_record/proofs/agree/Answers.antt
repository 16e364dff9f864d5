use mathlib.Core.Path.{sym, ◌∙◌}
use native.Mathlib.Omega.{arith}
use Rattle.bsii_index_record.proofs.Agreeing.{agree_differs, agree_more, agree_less, few_bytes}
use Rattle.bsii_index_record.proofs.agree.Goals as goal

pub returns-then-agreed-number : goal.returns-then-agreed-number
returns-then-agreed-number c = agree_differs c.if-agreed-number.true

pub overflow_mul-agreed : goal.overflow_mul-agreed
overflow_mul-agreed c = omega (arith, few_bytes c.args.agreed c.args.width (omega arith) c.requires.0.1)

pub returns-then-record_is : goal.returns-then-record_is
returns-then-record_is c = agree_more c.if-agreed-number.false (sym c.if-record_is.true ∙ c.record_is.ensures)

pub returns : goal.returns
returns c = agree_less c.if-agreed-number.false (sym c.if-record_is.false ∙ c.record_is.ensures)
