use mathlib.Core.Path.{sym, subst}
use Rattle.bsii_value.specs.Kinds.{kind_is}
use Rattle.bsii_value.specs.declared.types.Kind.{Kind}
use Rattle.bsii_measure_value.specs.Rows.{RowMeasured}
use Rattle.bsii_measure_value.proofs.values.row_measured.Goals as goal

pub returns-in-Numbers : goal.returns-in-Numbers
returns-in-Numbers c =
    let a = c.args in
    subst (λ (k : Kind). RowMeasured a.s.now a.start a.count (kind_is k) a.name c.numbers_measured.result) (sym c.in-Numbers.is) c.numbers_measured.ensures
