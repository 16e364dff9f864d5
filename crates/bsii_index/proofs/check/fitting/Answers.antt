use mathlib.Core.Logic.{⊎_elim}
use native.Mathlib.Omega.{arith}
use Rattle.bsii_index_record.proofs.Agreeing.{few_bytes}
use Rattle.bsii_index.proofs.Checking.{fits_all, fits_not}
use Rattle.bsii_index.proofs.check.fitting.Goals as goal

pub overflow_mul-end-2 : goal.overflow_mul-end-2
overflow_mul-end-2 c = omega (arith, few_bytes c.args.agreed c.args.width c.requires.1 c.requires.0.1)

pub returns-then-index-end : goal.returns-then-index-end
returns-then-index-end c = fits_all c.if-agreed-blocks.true c.if-index-end.true

pub returns : goal.returns
returns c = rw c.refused.ensures (fits_not (⊎_elim (λ w x y. w.1 y) (λ w x y. w x) c.else-agreed-blocks.either))
