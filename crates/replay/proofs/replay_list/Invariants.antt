-- No more of the records so far were equal than there are records so far.
use Rattle.std.proofs.Common.{◌≤◌}
use Rattle.replay.proofs.replay_list.Given as goal

abbrev pub invariant-loop-index : goal.invariant-loop-index
invariant-loop-index g l = l.equal ≤ l.index
