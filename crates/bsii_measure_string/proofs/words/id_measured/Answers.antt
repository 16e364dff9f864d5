use mathlib.Core.Path.{sym, ◌∙◌}
use native.Mathlib.Omega.{arith}
use Rattle.bsii_string.proofs.Passed.{passed_on}
use Rattle.bsii_measure_string.proofs.WordMeasures.{id_fault, id_nameless, id_named, id_none}
use Rattle.bsii_measure_string.proofs.words.id_measured.Goals as goal

pub returns-in_err-n : goal.returns-in_err-n
returns-in_err-n c = let a = c.args in rw (passed_on c.from_residual.ensures.1) (id_fault a.s.now a.at (sym c.in_err-n.ensures))

pub returns-in-255 : goal.returns-in-255
returns-in-255 c =
    let a = c.args in
    c.nameless_measured.ensures ∙ id_nameless a.s.now a.at _ _ (sym c.in_ok-n.ensures) c.in-255.is

pub returns-in-0 : goal.returns-in-0
returns-in-0 c =
    let a = c.args in
    id_none a.s.now a.at _ _ (sym c.in_ok-n.ensures) c.in-0.is

pub returns-in_default : goal.returns-in_default
returns-in_default c =
    let a = c.args in
    c.words_measured.ensures ∙ id_named a.s.now a.at _ _ (sym c.in_ok-n.ensures) (λ h. omega arith)
