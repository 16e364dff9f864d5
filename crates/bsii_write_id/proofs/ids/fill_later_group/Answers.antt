use Prim.Native.Nat.{ℕ, suc, ◌-◌}
use mathlib.Core.Path.{◌≡◌, ap, ◌∙◌}
use native.Mathlib.Omega.{arith}
use lib.ListN.{length, set, length-set}
use lib.Seq.{sets, length-sets}
use Rattle.bsii_format.specs.Digits.{hex_padded}
use Rattle.bsii_write_id.proofs.ids.fill_later_group.Goals as goal

pub fill_four-requires : goal.fill_four-requires
fill_four-requires c = let a = c.args in omega (arith, c.requires, length-set a.out.now (a.end - 5) 46)

pub shape_of-out : goal.shape_of-out
shape_of-out c =
    let a = c.args in
    let dot = set a.out.now (a.end - 5) 46 in
    ap length c.fill_four.ensures ∙ length-sets dot (a.end - 4) (hex_padded 4 a.n) ∙ length-set a.out.now (a.end - 5) 46

pub returns : goal.returns
returns c =
    let a = c.args in
    let dot = set a.out.now (a.end - 5) 46 in
    let z : a.end - 4 ≡ suc (a.end - 5) = omega (arith, c.requires) in
    c.fill_four.ensures ∙ ap (λ (k : ℕ). sets dot k (hex_padded 4 a.n)) z
