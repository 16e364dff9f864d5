use Prim.Native.Nat.{◌+◌, ◌-◌}
use mathlib.Core.Path.{sym, ap, ◌∙◌}
use native.Mathlib.Omega.{arith}
use lib.ListN.{length, take, drop}
use Rattle.std.proofs.lemmas.List.{take_rest}
use Rattle.bsii_format.specs.Utf8.{steps, complete, utf8}
use Rattle.bsii_string.specs.States.{to_come}
use Rattle.bsii_string.proofs.Sequences.{steps_more, steps_end}
use Rattle.bsii_string.proofs.utf8.is_utf8.Goals as goal

pub loop-byte-init : goal.loop-byte-init
unfolding utf8
loop-byte-init c =
    let s = c.args.part.now in
    let i = c.ascii_end.result in
    ap utf8 (take_rest s i) ∙ c.ascii_end.ensures.rest

pub loop-byte-preserved : goal.loop-byte-preserved
loop-byte-preserved c =
    let s = c.args.part.now in
    let i = c.ascii_end.result in
    let b = take (length s - i) (drop i s) in
    ap (λ o. complete (steps o (drop (c.loop-byte.byte-index + 1) b))) c.step-state.ensures
    ∙ ap complete (sym (steps_more (to_come c.loop-byte.state) b c.loop-byte.byte-index c.loop-byte-test.true))
    ∙ c.loop-byte.invariant

pub returns : goal.returns
returns c =
    let s = c.args.part.now in
    let i = c.ascii_end.result in
    let b = take (length s - i) (drop i s) in
    c.complete.ensures
    ∙ ap complete (sym (steps_end (to_come c.loop-byte.state) b c.loop-byte.byte-index (omega arith)))
    ∙ c.loop-byte.invariant
