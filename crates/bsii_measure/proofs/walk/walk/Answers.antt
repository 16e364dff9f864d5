use Rattle.bsii_string.proofs.Passed.{passed_on}
use Rattle.bsii_measure.proofs.WalkLaws.{walking_start, walking_stands, walking_go, walking_end, walking_stop}
use Rattle.bsii_measure.proofs.walk.walk.Goals as goal

pub loop-next-init : goal.loop-next-init
loop-next-init c = walking_start c.args.s.now c.args.start c.args.table.now c.requires.1

pub record_step-requires : goal.record_step-requires
record_step-requires c = walking_stands c.loop-next.invariant c.requires.0

pub returns-in_err-next : goal.returns-in_err-next
returns-in_err-next c = rw (passed_on c.from_residual.ensures.1) (walking_stop c.loop-next.invariant c.in_err-next.ensures)

pub returns-in-End : goal.returns-in-End
returns-in-End c = walking_end c.loop-next.invariant c.in_ok-next.ensures c.in-End.is

pub loop-next-smaller : goal.loop-next-smaller
loop-next-smaller c = (walking_go c.loop-next.invariant c.in_ok-next.ensures c.in-Go.is).less

pub loop-next-preserved : goal.loop-next-preserved
loop-next-preserved c = (walking_go c.loop-next.invariant c.in_ok-next.ensures c.in-Go.is).walking
