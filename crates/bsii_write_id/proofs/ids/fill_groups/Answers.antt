use Prim.Native.Nat.{ℕ, ◌+◌, ◌-◌, ◌%◌}
use mathlib.Core.Path.{◌≡◌, sym, ap, ◌∙◌}
use mathlib.Core.List.{List, ◌++◌}
use native.Mathlib.Omega.{arith}
use lib.ListN.{length}
use lib.Seq.{sets, length-sets}
use Rattle.bsii_format.specs.Ascii.{ascii}
use Rattle.bsii_format.specs.Digits.{hex_padded}
use Rattle.bsii_format.specs.Text.{groups}
use Rattle.bsii_digits.proofs.DigitLaws.{padded_length}
use Rattle.bsii_digits.proofs.Fills.{fill_none, fill_more, fill_room, fill_length, fill_within, fill_rest}
use Rattle.bsii_write_id.proofs.IdLaws.{groups_end, groups_start, five_more}
use Rattle.bsii_write_id.proofs.ids.fill_groups.Goals as goal

pub loop-rest-init : goal.loop-rest-init
loop-rest-init c = let a = c.args in (fill_none a.out.now a.end (groups 3 a.n), c.requires.0, c.requires.1, omega arith)

pub fill_later_group-requires : goal.fill_later_group-requires
fill_later_group-requires c =
    let l = c.loop-rest in
    (omega (arith, five_more l.rest l.invariant.3 (omega arith) (fill_room l.invariant.0 l.invariant.1)), fill_within l.invariant.0 l.invariant.2)

pub overflow_sub-i : goal.overflow_sub-i
overflow_sub-i c =
    let l = c.loop-rest in
    five_more l.rest l.invariant.3 (omega arith) (fill_room l.invariant.0 l.invariant.1)

pub loop-rest-smaller : goal.loop-rest-smaller
loop-rest-smaller c = omega arith

pub loop-rest-preserved : goal.loop-rest-preserved
loop-rest-preserved c =
    let l = c.loop-rest in
    let group = ascii "." ++ hex_padded 4 (l.rest % 0x1_0000) in
    let r : l.i - 5 + length group ≡ l.i = omega (arith, five_more l.rest l.invariant.3 (omega arith) (fill_room l.invariant.0 l.invariant.1), padded_length 4 (l.rest % 0x1_0000)) in
    let f = fill_more group (l.i - 5) l.invariant.0 r (groups_end l.rest l.invariant.3 (omega arith)) in
    (rw c.fill_later_group.ensures f, l.invariant.1, l.invariant.2, omega arith)

pub fill_group-requires : goal.fill_group-requires
fill_group-requires c =
    let l = c.loop-rest in
    let k = c.hex_count in
    let e = ap length (groups_start l.rest k.result (omega arith) k.ensures.0) in
    (omega (arith, e, padded_length k.result l.rest, fill_room l.invariant.0 l.invariant.1), fill_within l.invariant.0 l.invariant.2)

pub shape_of-out : goal.shape_of-out
shape_of-out c =
    let l = c.loop-rest in
    let k = c.hex_count.result in
    ap length c.fill_group.ensures ∙ length-sets l.out (l.i - (k + 1)) (ascii "." ++ hex_padded k l.rest) ∙ fill_length l.invariant.0

pub returns : goal.returns
returns c =
    let l = c.loop-rest in
    let k = c.hex_count in
    let e = groups_start l.rest k.result (omega arith) k.ensures.0 in
    let z : k.result + 1 ≡ length (groups 3 l.rest) = omega (arith, ap length e, padded_length k.result l.rest) in
    c.fill_group.ensures
    ∙ ap (λ (x : List ℕ). sets l.out (l.i - (k.result + 1)) x) (sym e)
    ∙ ap (λ (d : ℕ). sets l.out (l.i - d) (groups 3 l.rest)) z
    ∙ fill_rest l.invariant.0 l.invariant.1
