-- `utf8::ascii_end`: Each byte in front of the first one past 0x7f is ASCII; where there is none, all are.
use Prim.Native.Nat.{◌≤◌, ◌<◌}
use borrow.Author.Tests.{tests}
use Rattle.std.proofs.Common.{rules}
use Rattle.std.proofs.lemmas.Iterator.{IsFirst-from_position, YieldsList-from_slice}
use Rattle.bsii_string.proofs.Sequences.{ascii_run}
use Rattle.bsii_string.proofs.utf8.ascii_end.Goals as goal

pub returns-clause-rest : goal.returns-clause-rest
returns-clause-rest c =
    let s = c.args.part.now in
    let first = IsFirst-from_position _ _ c.position.result (λ b. 0x7f < b) (λ b. b ≤ 0x7f) c.position.ensures.ran (YieldsList-from_slice s cc) (λ x q k. search (rules, tests)) (λ x q k. search (rules, tests)) in
    rw c.unwrap_or.ensures (ascii_run s c.position.result first)
