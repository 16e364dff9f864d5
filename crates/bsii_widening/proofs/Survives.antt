-- The text in any form, and the field call, survive every allowed list: the new file is read (`widens`), and both are laws of what was read.
use mathlib.Core.Path.{refl, sym, ap, ◌∙◌}
use Prim.Native.Nat.{ℕ}
use mathlib.Core.Option.{Option}
use mathlib.Core.List.{List}
use Rattle.bsii_format.specs.Replies.{absent}
use Rattle.bsii_format.specs.Values.{Value}
use Rattle.bsii_format.specs.Prototypes.{ValuePrototype}
use Rattle.bsii_format.specs.File.{parse}
use Rattle.bsii_format.specs.BlockText.{or_refuse, every_block, file_text}
use Rattle.bsii_format.specs.Calls.{or_absent, field_of}
use Rattle.bsii_format.proofs.ReplyLaws.{gives_inj, or_back, of_read}
use Rattle.bsii_widening.specs.Parts.{renumber}
use Rattle.bsii_widening.specs.Claim.{widened, new_save, new_file, new_text}
use Rattle.bsii_widening.specs.Observers.{TextSurvives, FieldSurvives}
use Rattle.bsii_widening.proofs.Says.{HasText}
use Rattle.bsii_widening.proofs.Text.{new_text_law, old_text}
use Rattle.bsii_widening.proofs.Start.{silent}
use Rattle.bsii_widening.proofs.Lookups.{field_found}
use Rattle.bsii_widening.proofs.Core.{widened_sound, widens}

pub text_survives : (text : ValuePrototype → Value → Option (List ℕ)) → HasText text → TextSurvives text
text_survives text has words s f at r o a e l allowed u words' m =
    let M = widened f l in
    let w = widens o l allowed m in
    let h = widened_sound o l allowed text has e in (
      new_text text M,
      of_read (λ f at. file_text text every_block f) (parse words' (new_file f r M)) w.reads ∙ new_text_law text f M h,
      (refl, gives_inj (sym e ∙ ap (λ z. file_text text every_block (record { header = f.header; records = z; end = f.end })) (sym w.before) ∙ old_text text f M h)),
    )

pub field_survives : FieldSurvives
field_survives k name words s f at r o a e l allowed u words' m =
    let M = widened f l in
    let w = widens o l allowed m in
    let b = field_found silent f (new_save f M) M w.sound w.before refl k name a (or_back absent 0 (field_of k name f) e) in (
      b.0,
      of_read (λ f at. or_absent (field_of (renumber M k) name f)) (parse words' (new_file f r M)) w.reads ∙ ap (or_refuse absent 0) b.1 ∙ unfold or_refuse in refl,
      (b.2, b.3),
    )
