use Prim.Native.Nat.{◌<◌}
use mathlib.Core.Path.{sym, ◌∙◌}
use native.Mathlib.Omega.{arith}
use lib.ListN.{length, take, length-take}
use borrow.Author.Tests.{eq-eqb, ne_eqb}
use lib.Dec.{eqb}
use lib.Pointwise.{pointwise, bytes_decides}
use lib.Seq.{length-take-le}
use Rattle.replay.proofs.Bytes.{told, shorter}
use Rattle.replay.proofs.compare.same_bytes.Goals as goal

pub returns-then-n-text : goal.returns-then-n-text
returns-then-n-text c = let a = c.args in rw (ne_eqb a.n (length a.text.now) c.if-n-text.true)

pub returns-then-output-n : goal.returns-then-output-n
returns-then-output-n c =
    let a = c.args in
    let h : length (take a.n a.output.now) < length a.text.now = omega (arith, length-take a.n a.output.now) in
    rw (eq-eqb a.n (length a.text.now) c.if-n-text.false, shorter (take a.n a.output.now) a.text.now h)

pub slice_bounds-eq-end : goal.slice_bounds-eq-end
slice_bounds-eq-end c = sym (length-take-le _ _ c.if-output-n.false)

pub returns : goal.returns
returns c =
    let a = c.args in
    let s = take a.n a.output.now in
    rw (eq-eqb a.n (length a.text.now) c.if-n-text.false) (c.eq.ensures ∙ told (pointwise eqb s a.text.now) s a.text.now (bytes_decides s a.text.now))
