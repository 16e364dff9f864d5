use mathlib.Core.Path.{sym}
use native.Mathlib.Omega.{arith}
use Rattle.bsii_string.proofs.Passed.{passed_on}
use Rattle.bsii_index_field.proofs.BlockHeads.{head_cut, head_zero, head_other, head_own}
use Rattle.bsii_index_field.proofs.blocks.block_head.Goals as goal

pub returns-in_err-n : goal.returns-in_err-n
returns-in_err-n c = rw (passed_on c.from_residual.ensures.1) (head_cut (sym c.in_err-n.ensures))

pub returns-then-n-eq0 : goal.returns-then-n-eq0
returns-then-n-eq0 c = rw c.refused.ensures (head_zero (sym c.in_ok-n.ensures) (omega arith))

pub returns-then-n-id : goal.returns-then-n-id
returns-then-n-id c = rw c.refused-then-n-id.ensures (head_other (sym c.in_ok-n.ensures) (λ x. omega (arith, x)))

pub returns : goal.returns
returns c = head_own (sym c.in_ok-n.ensures) (λ x. omega (arith, x)) (omega arith) c.id_parser.ensures
