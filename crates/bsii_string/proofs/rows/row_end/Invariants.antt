-- `rows::row_end`: Invariant: the items that are left end as the whole row does.
use Rattle.std.proofs.Common.{◌≡◌, drop, ◌-◌}
use Rattle.bsii_format.specs.Reader.{repeat}
use Rattle.bsii_string.specs.Answers.{end_of}
use Rattle.bsii_string.proofs.rows.row_end.Given as goal

abbrev pub invariant-loop : goal.invariant-loop
invariant-loop g l = end_of (repeat (l.count - l.counter) (g.I.Item.reader l.item) l.at (drop l.at l.s)) ≡ end_of (repeat l.count (g.I.Item.reader l.item) l.start (drop l.start l.s))
