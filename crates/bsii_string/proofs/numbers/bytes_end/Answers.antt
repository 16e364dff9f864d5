-- `numbers::bytes_end`: Where as many bytes are there they are passed; where fewer are, they run out.
use mathlib.Core.Path.{sym, ap}
use native.Mathlib.Omega.{arith}
use Rattle.bsii_format.proofs.Positions.{bytes_at, bytes_short}
use Rattle.bsii_string.specs.Answers.{end_of}
use Rattle.bsii_string.proofs.Items.{short_of}
use Rattle.bsii_string.proofs.numbers.bytes_end.Goals as goal

pub returns-then-rest-size : goal.returns-then-rest-size
unfolding end_of
returns-then-rest-size c =
    let a = c.args in
    rw c.short.ensures (ap end_of (short_of a.count c.left-rest.ensures (bytes_short a.count a.s.now a.at (omega arith))))

pub returns : goal.returns
unfolding end_of
returns c =
    let a = c.args in
    rw c.size-2.ensures (sym (ap end_of (bytes_at a.count a.s.now a.at (omega arith))))
