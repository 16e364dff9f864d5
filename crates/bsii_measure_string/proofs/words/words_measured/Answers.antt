use mathlib.Core.Path.{refl, ◌∙◌}
use Prim.Native.Nat.{◌-◌}
use native.Mathlib.Omega.{arith}
use native.Mathlib.Numerals.{unary_clauses}
use Rattle.bsii_format.specs.Strings.{encoded_str_parser}
use Rattle.bsii_string.proofs.Passed.{passed_on}
use Rattle.bsii_measure_string.proofs.Measures.{sum_start, sum_fault, sum_done}
use Rattle.bsii_measure_string.proofs.WordMeasures.{dotted_size, word_fault, word_few, words_next, words_fault, words_done}
use Rattle.bsii_measure_string.proofs.words.words_measured.Goals as goal

pub loop-init : goal.loop-init
loop-init c = simp unary_clauses (omega arith, omega arith, sum_start dotted_size (omega arith) _)

pub returns-in_err-word : goal.returns-in_err-word
returns-in_err-word c =
    let a = c.args in
    let s = a.s.now in
    let l = c.loop in
    rw (passed_on c.from_residual.ensures.1)
    (words_fault s a.start a.count
    (sum_fault encoded_str_parser dotted_size s (a.count - l.counter) l.at l.counter l.long (omega arith) (word_fault s l.at c.in_err-word.ensures refl) ∙ l.invariant.2))

pub overflow_add-long : goal.overflow_add-long
overflow_add-long c = omega (arith, word_few c.args.s.now c.loop.at c.in_ok-word.ensures refl)

pub overflow_add-long-in-loop : goal.overflow_add-long-in-loop
overflow_add-long-in-loop c = omega (arith, word_few c.args.s.now c.loop.at c.in_ok-word.ensures refl)

pub loop-preserved : goal.loop-preserved
loop-preserved c =
    let a = c.args in
    let l = c.loop in
    let w = c.in_ok-word.ensures in (
      omega arith,
      omega (arith, word_few a.s.now l.at w refl),
      words_next a.s.now a.count l.counter l.at l.long w (omega arith) refl ∙ l.invariant.2,
    )

pub overflow_sub-result : goal.overflow_sub-result
overflow_sub-result c = omega arith

pub returns : goal.returns
returns c =
    let a = c.args in
    let l = c.loop in
    words_done a.s.now a.start a.count (omega arith) (sum_done encoded_str_parser dotted_size a.s.now (a.count - l.counter) l.at l.counter l.long (omega arith) ∙ l.invariant.2)
