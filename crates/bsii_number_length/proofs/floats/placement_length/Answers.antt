-- The bits that are measured for the position are those that placement_text writes there: the sectors and the sums are the definition's.
use Prim.Native.Nat.{ℕ}
use mathlib.Core.Path.{ap, ap₂, ◌∙◌}
use lib.ListN.{length, length-append, get_or}
use Rattle.bsii_format.specs.Floats.{float_text, vec3_text, sector_sum, placement_text}
use native.Mathlib.Omega.{arith}
use Rattle.bsii_number_length.proofs.floats.placement_length.Goals as goal

pub returns : goal.returns
unfolding placement_text
returns c =
    let v = c.args.v.items in
    let sectors = c.sectors_of-sectors.ensures in
    let x = c.in_sector.ensures ∙ ap (sector_sum (get_or v 0 0)) sectors.0 in
    let z = c.in_sector-2.ensures ∙ ap (sector_sum (get_or v 2 0)) sectors.1 in
    let three = c.floats_length.ensures.0 ∙ ap₂ (λ (x z : ℕ). length (vec3_text (float_text x) (float_text (get_or v 1 0)) (float_text z))) x z in
    (simp length-append (omega (arith, three)), omega arith)
