-- `accepted::accepted_at`: The law of the branch that was taken.
use mathlib.Core.Path.{sym, ◌∙◌}
use native.Mathlib.Omega.{arith}
use Rattle.bsii_prototype.proofs.AcceptedLaws.{accepted_short, accepted_last, accepted_cut, accepted_plain, accepted_unlisted, accepted_listed}
use Rattle.bsii_prototype.proofs.accepted.accepted_at.Goals as goal

pub returns-then-s-lt8 : goal.returns-then-s-lt8
returns-then-s-lt8 c = let a = c.args in accepted_short a.s.now a.at (omega arith)

pub returns-then-s-at : goal.returns-then-s-at
returns-then-s-at c = let a = c.args in accepted_short a.s.now a.at (omega arith)

pub returns-then-type_id-eq0 : goal.returns-then-type_id-eq0
returns-then-type_id-eq0 c = let a = c.args in accepted_last a.s.now a.at (omega arith) c.quad-type_id.ensures c.if-type_id-eq0.true

pub returns-then-s-name_end : goal.returns-then-s-name_end
returns-then-s-name_end c = let a = c.args in accepted_cut a.s.now a.at (omega arith) c.quad-type_id.ensures c.if-type_id-eq0.false (c.size-count.ensures ∙ c.quad.ensures) (omega arith)

pub returns-then-type_id-ne55 : goal.returns-then-type_id-ne55
returns-then-type_id-ne55 c = let a = c.args in accepted_plain a.s.now a.at (omega arith) c.quad-type_id.ensures c.if-type_id-eq0.false (c.size-count.ensures ∙ c.quad.ensures) (omega arith) c.if-type_id-ne55.true

pub returns-in_default : goal.returns-in_default
returns-in_default c = let a = c.args in accepted_unlisted a.s.now a.at (omega arith) c.quad-type_id.ensures c.if-type_id-eq0.false (c.size-count.ensures ∙ c.quad.ensures) (omega arith) c.if-type_id-ne55.false (sym c.in_default.is ∙ c.enum_values_with.ensures)

pub returns : goal.returns
returns c = let a = c.args in accepted_listed a.s.now a.at (omega arith) c.quad-type_id.ensures c.if-type_id-eq0.false (c.size-count.ensures ∙ c.quad.ensures) (omega arith) c.if-type_id-ne55.false (sym c.in-Ok.is ∙ c.enum_values_with.ensures)
