-- The product fits, since there are no more rows than ids.
use Prim.Native.Nat.{◌-◌, ◌*◌, ◌≤◌}
use native.Mathlib.Nat.{mul-le-mul}
use native.Mathlib.Omega.{arith}
use Rattle.bsii_table.specs.Rows.{id_at}
use Rattle.bsii_table.proofs.Search.{id_from_law}
use Rattle.bsii_table.proofs.interpolated_row.Goals as goal

pub overflow_mul-result : goal.overflow_mul-result
overflow_mul-result c =
    let l : c.args.rows - 1 ≤ 0xffff_ffff = omega (arith, c.type_inv.table (3 * (c.args.rows - 1)), id_from_law c.requires.0 (c.args.rows - 1) (omega arith)) in
    omega (arith, mul-le-mul {n₁ = c.args.id - id_at c.args.table.now 0} {m₁ = c.args.rows - 1} {n₂ = 0xffff_ffff} {m₂ = 0xffff_ffff} (omega arith) l)
