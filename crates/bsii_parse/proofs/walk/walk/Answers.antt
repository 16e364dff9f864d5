use Rattle.bsii_string.proofs.Passed.{passed_on}
use Rattle.bsii_parse.proofs.Along.{along_ready}
use Rattle.bsii_parse.proofs.Passed.{prototype_less, block_less, block_later}
use Rattle.bsii_parse.proofs.Comparing.{comparing_start, comparing_few, comparing_meets, comparing_prototype, comparing_block, comparing_end, comparing_stop}
use Rattle.bsii_parse.proofs.walk.walk.Goals as goal

pub loop-next-init : goal.loop-next-init
loop-next-init c = comparing_start c.args.s.now c.args.start c.args.table.now c.args.index.now c.args.width c.requires.1

pub record_step-requires : goal.record_step-requires
record_step-requires c = along_ready c.requires.0 c.loop-next.invariant.along

pub returns-in_err-next : goal.returns-in_err-next
returns-in_err-next c = rw (passed_on c.from_residual.ensures.1) (comparing_stop c.loop-next.invariant c.in_err-next.ensures)

pub returns-in-End : goal.returns-in-End
returns-in-End c = comparing_end c.loop-next.invariant c.in_ok-next.ensures c.in-End.is

pub loop-next-smaller-in-Prototype : goal.loop-next-smaller-in-Prototype
loop-next-smaller-in-Prototype c =
    prototype_less c.loop-next.invariant.along (comparing_meets c.loop-next.invariant c.in_ok-next.ensures) c.in-Prototype.is

pub loop-next-preserved-in-Prototype : goal.loop-next-preserved-in-Prototype
loop-next-preserved-in-Prototype c = comparing_prototype c.loop-next.invariant c.in_ok-next.ensures c.in-Prototype.is

pub entry_of-entry-requires : goal.entry_of-entry-requires
entry_of-entry-requires c = block_later c.loop-next.invariant.along (comparing_meets c.loop-next.invariant c.in_ok-next.ensures) c.in-Block.is

pub agree-agreed-requires : goal.agree-agreed-requires
agree-agreed-requires c = (c.requires.2, comparing_few c.loop-next.invariant c.requires.0)

pub loop-next-smaller : goal.loop-next-smaller
loop-next-smaller c = block_less c.loop-next.invariant.along (comparing_meets c.loop-next.invariant c.in_ok-next.ensures) c.in-Block.is

pub loop-next-preserved : goal.loop-next-preserved
loop-next-preserved c =
    comparing_block c.loop-next.invariant c.in_ok-next.ensures c.in-Block.is c.entry_of-entry.ensures c.agree-agreed.ensures
