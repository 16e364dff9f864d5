-- `enums::last_pair`: Invariant: the string among the pairs left, or else the one found so far, is the whole list's.
use Prim.Native.Nat.{◌-◌}
use Rattle.bsii_definition.proofs.EnumLaws.{Searching}
use Rattle.bsii_definition.proofs.enums.last_pair.Given as goal

abbrev pub invariant-loop : goal.invariant-loop
invariant-loop l = Searching l.s l.start l.count l.wanted l.found l.at (l.count - l.counter)
