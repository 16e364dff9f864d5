use Prim.Native.Nat.{ℕ, suc, ◌+◌, ◌-◌}
use mathlib.Core.Path.{◌≡◌, ap, ◌∙◌}
use native.Mathlib.Omega.{arith}
use lib.ListN.{length, set, length-set}
use lib.Seq.{sets, length-sets}
use Rattle.bsii_format.specs.Digits.{hex_padded}
use Rattle.bsii_write_id.proofs.ids.fill_group.Goals as goal

pub shape_of-out : goal.shape_of-out
shape_of-out c =
    let a = c.args in
    let dot = set a.out.now (a.end - (a.count + 1)) 46 in
    ap length c.fill_hex.ensures ∙ length-sets dot (a.end - a.count) (hex_padded a.count a.n) ∙ length-set a.out.now (a.end - (a.count + 1)) 46

pub returns : goal.returns
returns c =
    let a = c.args in
    let dot = set a.out.now (a.end - (a.count + 1)) 46 in
    let z : a.end - a.count ≡ suc (a.end - (a.count + 1)) = omega arith in
    c.fill_hex.ensures ∙ ap (λ (k : ℕ). sets dot k (hex_padded a.count a.n)) z
