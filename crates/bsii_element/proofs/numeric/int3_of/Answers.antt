use Rattle.std.proofs.Common.{◌∙◌, rules}
use lib.ListN.{get_or}
use mir.Syntax.{w32}
use mir.Facts.{to_z-of_z}
use Rattle.bsii_element.proofs.SignedBits.{signed_is}
use Rattle.bsii_element.proofs.numeric.int3_of.Goals as goal

pub returns : goal.returns
returns c =
    let i = c.args.bits.items in
    cc (
      to_z-of_z {w = w32} (record { sfits = c.cast_signed.type_inv }) ∙ c.cast_signed.ensures ∙ signed_is w32 (get_or i 0 0) (search rules),
      to_z-of_z {w = w32} (record { sfits = c.cast_signed-2.type_inv }) ∙ c.cast_signed-2.ensures ∙ signed_is w32 (get_or i 1 0) (search rules),
      to_z-of_z {w = w32} (record { sfits = c.cast_signed-3.type_inv }) ∙ c.cast_signed-3.ensures ∙ signed_is w32 (get_or i 2 0) (search rules),
    )
