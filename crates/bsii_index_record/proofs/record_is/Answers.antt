-- Each number that agrees leaves it to the next one.
use Prim.Native.Nat.{◌+◌, ◌*◌}
use mathlib.Core.Path.{◌≡◌, refl, sym, ◌∙◌}
use mathlib.Core.Bool.{◌&&◌}
use native.Mathlib.Omega.{arith}
use Rattle.bsii_index_record.specs.Records.{record_is}
use Rattle.bsii_index_record.proofs.Records.{same_lacks, same_number, same_record, goes_on, ends_there}
use Rattle.bsii_index_record.proofs.record_is.Goals as goal
use Rattle.bsii_index_record.proofs.record_is.Goals.{then-number_is, else-number_is, then-number_is-2, else-number_is-2}

pub returns-then-left-width : goal.returns-then-left-width
returns-then-left-width c =
    let a = c.args in
    sym (same_lacks a.width a.at a.index.now (record_is a.entry) (omega arith))

pub returns-then-number_is-3 : goal.returns-then-number_is-3
returns-then-number_is-3 c =
    let a = c.args in
    let offset = same_number a.width a.at a.index.now a.entry.offset in
    let size = same_number a.width (a.at + a.width) a.index.now a.entry.size in
    let prototype = same_number a.width (a.at + 2 * a.width) a.index.now a.entry.prototype in
    let two : c.if-number_is.value ≡ offset && size = elim c.if-number_is.branch [
      | then-number_is w ↦ goes_on c.number_is.ensures w.if-number_is.true (w.value-is ∙ w.number_is-then-number_is.ensures)
      | else-number_is w ↦ ends_there size c.number_is.ensures w.if-number_is.false w.value-is
    ] in
    let three : c.if-number_is-2.value ≡ (offset && size) && prototype = elim c.if-number_is-2.branch [
      | then-number_is-2 w ↦ goes_on two w.if-number_is-2.true (w.value-is ∙ w.number_is-then-number_is-2.ensures)
      | else-number_is-2 w ↦ ends_there prototype two w.if-number_is-2.false w.value-is
    ] in
    goes_on three c.if-number_is-3.true c.number_is-then-number_is-3.ensures ∙ sym (same_record a.width a.at a.index.now (record_is a.entry))

pub returns-else-number_is-3 : goal.returns-else-number_is-3
returns-else-number_is-3 c =
    let a = c.args in
    let offset = same_number a.width a.at a.index.now a.entry.offset in
    let size = same_number a.width (a.at + a.width) a.index.now a.entry.size in
    let prototype = same_number a.width (a.at + 2 * a.width) a.index.now a.entry.prototype in
    let two : c.if-number_is.value ≡ offset && size = elim c.if-number_is.branch [
      | then-number_is w ↦ goes_on c.number_is.ensures w.if-number_is.true (w.value-is ∙ w.number_is-then-number_is.ensures)
      | else-number_is w ↦ ends_there size c.number_is.ensures w.if-number_is.false w.value-is
    ] in
    let three : c.if-number_is-2.value ≡ (offset && size) && prototype = elim c.if-number_is-2.branch [
      | then-number_is-2 w ↦ goes_on two w.if-number_is-2.true (w.value-is ∙ w.number_is-then-number_is-2.ensures)
      | else-number_is-2 w ↦ ends_there prototype two w.if-number_is-2.false w.value-is
    ] in
    ends_there _ three c.if-number_is-3.false refl ∙ sym (same_record a.width a.at a.index.now (record_is a.entry))
