use Prim.Native.Nat.{◌/◌}
use mathlib.Core.Path.{refl}
use native.Mathlib.Omega.{arith}
use lib.ListN.{length-set}
use Rattle.bsii_text_length.proofs.WordLaws.{spelling_none, count_more, count_two, at_most_thirteen}
use Rattle.bsii_write_word.proofs.WordLaws.{store_none, store_one, store_two}
use borrow.Author.Rules.{rules}
use Rattle.bsii_write_word.proofs.words.store_word.Goals as goal

pub loop-rest-init : goal.loop-rest-init
loop-rest-init c = (refl, omega arith, omega (arith, at_most_thirteen c.args.word (omega arith)), λ r new w. w)

pub overflow_mul-above : goal.overflow_mul-above
overflow_mul-above c = omega arith

pub bounds-out-i : goal.bounds-out-i
bounds-out-i c = omega (arith, count_two c.loop-rest.rest (omega arith))

pub overflow_add-out : goal.overflow_add-out
overflow_add-out c = omega (arith, count_two c.loop-rest.rest (omega arith))

pub bounds-out-i-in-loop-rest : goal.bounds-out-i-in-loop-rest
bounds-out-i-in-loop-rest c = simp length-set (omega (arith, count_two c.loop-rest.rest (omega arith)))

pub overflow_add-i : goal.overflow_add-i
overflow_add-i c = omega (arith, count_two c.loop-rest.rest (omega arith))

pub loop-rest-smaller : goal.loop-rest-smaller
loop-rest-smaller c = omega arith

pub loop-rest-preserved : goal.loop-rest-preserved
loop-rest-preserved c =
    let l = c.loop-rest in
    let k = count_two l.rest (omega arith) in
    (search rules, omega arith, omega arith, λ r new w. l.invariant.3 r new (store_two l.out l.i l.rest (omega arith) c.pair_at-pair.ensures c.first.ensures c.second.ensures (omega arith) w))

pub returns-then-rest-eq0 : goal.returns-then-rest-eq0
returns-then-rest-eq0 c = let l = c.loop-rest in (l.invariant.3 _ _ (store_none (spelling_none l.rest (omega arith))), omega arith)

pub bounds-out-i-2 : goal.bounds-out-i-2
bounds-out-i-2 c = omega (arith, count_more c.loop-rest.rest (omega arith))

pub overflow_add-result : goal.overflow_add-result
overflow_add-result c = omega (arith, count_more c.loop-rest.rest (omega arith))

pub returns-then-rest-lt38 : goal.returns-then-rest-lt38
returns-then-rest-lt38 c =
    let l = c.loop-rest in
    (l.invariant.3 _ _ (store_one l.out l.i l.rest (omega arith) c.pair_at-pair-2.ensures c.first-2.ensures (omega arith) (omega arith)), omega (arith, count_more l.rest (omega arith)))

pub overflow_add-out-2 : goal.overflow_add-out-2
overflow_add-out-2 c = omega (arith, count_two c.loop-rest.rest (omega arith))

pub bounds-out-i-3 : goal.bounds-out-i-3
bounds-out-i-3 c = simp length-set (omega (arith, count_two c.loop-rest.rest (omega arith)))

pub overflow_add-result-2 : goal.overflow_add-result-2
overflow_add-result-2 c = omega (arith, count_two c.loop-rest.rest (omega arith))

pub returns : goal.returns
returns c =
    let l = c.loop-rest in
    (l.invariant.3 _ _ (store_two l.out l.i l.rest (omega arith) c.pair_at-pair-2.ensures c.first-2.ensures c.second-2.ensures (omega arith) (store_none (spelling_none (l.rest / 1444) (omega arith)))), omega (arith, count_two l.rest (omega arith)))
