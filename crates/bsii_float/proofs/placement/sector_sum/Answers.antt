use Rattle.std.proofs.Common.{◌<◌, ap, ◌∙◌, arith, to_z-of_z}
use lib.Ieee.{binary32, add, of_int}
use Rattle.bsii_float.proofs.Sums.{difference_fits, offset_fits, offset_is}
use Rattle.bsii_float.proofs.placement.sector_sum.Goals as goal

pub overflow_sub-k : goal.overflow_sub-k
overflow_sub-k c = difference_fits c.args.k (omega arith)

pub overflow_mul-k : goal.overflow_mul-k
overflow_mul-k c = offset_fits c.args.k (omega arith)

pub returns : goal.returns
returns c =
    let a = c.args in
    let small : a.k < 4096 = omega arith in
    ap (add binary32 a.f) (c.nearest_i32_to_f32.ensures ∙ ap (of_int binary32) (to_z-of_z (offset_fits a.k small) ∙ offset_is a.k small))
