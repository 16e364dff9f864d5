use mathlib.Core.Path.{subst}
use native.Mathlib.Omega.{arith}
use Rattle.bsii_prototype.specs.Accepted.{AcceptedIs}
use Rattle.bsii_prototype.proofs.Inside.{field_inside}
use Rattle.bsii_definition.proofs.PairLaws.{pair_ends, pair_longer, pair_shorter, pair_both}
use Rattle.bsii_definition.proofs.pairs.unlike_pair.Goals as goal

pub overflow_add-result : goal.overflow_add-result
overflow_add-result c = let a = c.args in omega (arith, field_inside a.s.now a.last_field c.in-Some-Some.ensures'.1)

pub returns-in-Some-Some : goal.returns-in-Some-Some
returns-in-Some-Some c = let a = c.args in pair_both a.s.now a.field a.last_field c.in-Some-Some.ensures.1 c.in-Some-Some.ensures'.1

pub returns-in-None-None : goal.returns-in-None-None
returns-in-None-None c =
    let a = c.args in
    pair_ends a.s.now a.field a.last_field (subst (AcceptedIs a.s.now a.field) c.in-None-None.is-0 c.accepted_at.ensures) c.in-None-None.ensures

pub returns-in-None-Some : goal.returns-in-None-Some
returns-in-None-Some c =
    let a = c.args in
    pair_longer a.s.now a.field a.last_field (subst (AcceptedIs a.s.now a.field) c.in-None-Some.is-0 c.accepted_at.ensures) c.in-None-Some.ensures.1

pub returns-in-Some-None : goal.returns-in-Some-None
returns-in-Some-None c = let a = c.args in pair_shorter a.s.now a.field a.last_field c.in-Some-None.ensures.1 c.in-Some-None.ensures'
