use native.Mathlib.Omega.{arith}
use Rattle.bsii_prototype.proofs.Inside.{field_inside}
use Rattle.bsii_definition.proofs.PairLaws.{pair_ends, pair_both}
use Rattle.bsii_definition.proofs.pairs.same_pair.Goals as goal

pub returns-in_default : goal.returns-in_default
returns-in_default c = let a = c.args in pair_ends a.s.now a.field a.field c.in_default.ensures c.in_default.ensures

pub overflow_add-result : goal.overflow_add-result
overflow_add-result c = let a = c.args in omega (arith, field_inside a.s.now a.field c.in-Some.ensures.1)

pub returns : goal.returns
returns c = let a = c.args in pair_both a.s.now a.field a.field c.in-Some.ensures.1 c.in-Some.ensures.1
