use mathlib.Core.Path.{◌≡◌, refl, sym, ◌∙◌}
use Prim.Native.Nat.{◌+◌, ◌-◌}
use native.Mathlib.Numerals.{unary_clauses}
use native.Mathlib.Omega.{arith}
use Rattle.bsii_window.proofs.Stores.{stored_then, stored_being, stored_same}
use Rattle.bsii_write_id.proofs.IdLaws.{word_text, dotted_more, dotted_none}
use Rattle.bsii_write_word.proofs.WordLaws.{store_none}
use Rattle.bsii_write_id.proofs.ids.store_dotted.Goals as goal

pub loop-init : goal.loop-init
loop-init c = simp unary_clauses (refl, omega arith, omega arith, λ r new w. w)

pub store_byte-next-requires : goal.store_byte-next-requires
store_byte-next-requires c = omega arith

pub store_word-here-requires : goal.store_word-here-requires
store_word-here-requires c = omega (arith, c.store_byte-next.ensures.next, stored_same c.store_byte-next.ensures)

pub overflow_add-place : goal.overflow_add-place
overflow_add-place c = omega arith

pub loop-preserved : goal.loop-preserved
loop-preserved c =
    let l = c.loop in
    let s = c.args.raw.now in
    let b = c.store_byte-next.ensures in
    let w = c.store_word-here.ensures in
    let one_less : c.args.count - (l.counter + 1) ≡ c.args.count - l.counter - 1 = omega arith in
    let t = stored_then b (stored_being (word_text s l.place c.u64_at.ensures) w.0) in rw one_less (
      stored_same t ∙ l.invariant.0,
      omega (arith, w.1, b.next),
      omega arith,
      λ r new x. l.invariant.3 r new (stored_being (sym (dotted_more (c.args.count - l.counter) s l.place (omega arith))) (stored_then t x)),
    )

pub shape_of-out : goal.shape_of-out
shape_of-out c = c.loop.invariant.0

pub returns : goal.returns
returns c =
    let l = c.loop in
    (l.invariant.3 _ _ (store_none (dotted_none (c.args.count - l.counter) c.args.raw.now l.place (omega arith))), omega arith)
