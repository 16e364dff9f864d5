use Prim.Native.Nat.{◌-◌}
use mathlib.Core.Bool.{true}
use lib.ListN.{take, drop}
use Rattle.bsii_format.specs.Utf8.{utf8}
use mathlib.Core.Path.{◌≡◌, sym, ◌∙◌}
use native.Mathlib.Omega.{arith}
use Rattle.bsii_text_length.proofs.ClassLaws.{below_high, worst_ascii}
use Rattle.bsii_measure_string.proofs.StringMeasures.{part_refused, part_next}
use Rattle.bsii_measure_string.proofs.strings.part_measured.Goals as goal
use Rattle.bsii_measure_string.proofs.strings.part_measured.Goals.{in-High+else-not-is_utf8, in_default}

pub returns-then-not-is_utf8 : goal.returns-then-not-is_utf8
returns-then-not-is_utf8 c =
    let a = c.args in
    part_refused a.s.now a.start a.next (omega arith) (omega arith) (sym c.is_utf8.ensures ∙ c.if-not-is_utf8.true) c.refused.ensures

pub returns : goal.returns
returns c =
    let a = c.args in
    let w = c.worst-all in
    let u : utf8 (take (a.next - a.start) (drop a.start a.s.now)) ≡ true =
    elim c.match-all.branch [ in-High+else-not-is_utf8 t ↦ sym t.is_utf8.ensures ∙ t.if-not-is_utf8.false | in_default t ↦ worst_ascii _ (rw (← w.ensures) (below_high w.result t.in_default.not-High)) ] in
    part_next a.s.now a.start a.next (omega arith) (omega arith) u c.length_by.ensures
