use Prim.Native.Nat.{◌/◌}
use mathlib.Core.Path.{sym, ap, ◌∙◌}
use native.Mathlib.Nat.{add-zero}
use native.Mathlib.Omega.{arith}
use Rattle.bsii_word.proofs.Base38.{behind, behind_none, behind_two, length_of, length_none, last_not, last_one, last_two, two_more, two_not}
use Rattle.std.specs.Prelude.{Some}
use Rattle.bsii_word.proofs.words.spelled_length.Goals as goal

pub loop-rest-init : goal.loop-rest-init
loop-rest-init c = (behind_none (length_of c.args.n), omega arith)

pub overflow_mul-above : goal.overflow_mul-above
overflow_mul-above c = omega arith

pub overflow_sub-rest : goal.overflow_sub-rest
overflow_sub-rest c = omega arith

pub has_zero-requires : goal.has_zero-requires
has_zero-requires c = omega arith

pub returns-then-has_zero : goal.returns-then-has_zero
returns-then-has_zero c = let l = c.loop-rest in sym (ap (behind l.long) (two_not l.rest _ (omega arith) (omega arith) (sym c.has_zero.ensures ∙ c.if-has_zero.true))) ∙ l.invariant.0

pub overflow_add-long : goal.overflow_add-long
overflow_add-long c = omega arith

pub loop-rest-smaller : goal.loop-rest-smaller
loop-rest-smaller c = omega arith

pub loop-rest-preserved : goal.loop-rest-preserved
loop-rest-preserved c =
    let l = c.loop-rest in
    (sym (behind_two l.long 2 (length_of (l.rest / 1444))) ∙ sym (ap (behind l.long) (two_more l.rest _ (omega arith) (omega arith) (sym c.has_zero.ensures ∙ c.if-has_zero.false))) ∙ l.invariant.0, omega arith)

pub returns-then-rest-eq0 : goal.returns-then-rest-eq0
returns-then-rest-eq0 c = let l = c.loop-rest in ap Some (sym (add-zero l.long)) ∙ sym (ap (behind l.long) (length_none l.rest (omega arith))) ∙ l.invariant.0

pub low_zero-requires : goal.low_zero-requires
low_zero-requires c = omega arith

pub returns-then-low_zero : goal.returns-then-low_zero
returns-then-low_zero c = let l = c.loop-rest in sym (ap (behind l.long) (last_not l.rest (omega arith) (sym c.low_zero.ensures ∙ c.if-low_zero.true))) ∙ l.invariant.0

pub overflow_add-result : goal.overflow_add-result
overflow_add-result c = omega arith

pub returns-then-rest-lt38 : goal.returns-then-rest-lt38
returns-then-rest-lt38 c = let l = c.loop-rest in sym (ap (behind l.long) (last_one l.rest (omega arith) (sym c.low_zero.ensures ∙ c.if-low_zero.false) (omega arith))) ∙ l.invariant.0

pub overflow_add-result-2 : goal.overflow_add-result-2
overflow_add-result-2 c = omega arith

pub returns : goal.returns
returns c = let l = c.loop-rest in sym (ap (behind l.long) (last_two l.rest (omega arith) (sym c.low_zero.ensures ∙ c.if-low_zero.false) (omega arith) (omega arith))) ∙ l.invariant.0
