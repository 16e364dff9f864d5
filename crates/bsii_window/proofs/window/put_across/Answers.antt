-- Four places, each with its law of `written`: a text that ends before the window, one that starts before it (its first bytes are dropped), one past the end,
-- and one that starts in it. The end is `further`'s answer in all of them.
use mathlib.Core.Path.{sym, ap, ◌∙◌}
use native.Mathlib.Omega.{arith}
use Prim.Native.Nat.{◌-◌}
use lib.ListN.{length}
use lib.Seq.{sets}
use Rattle.bsii_window.proofs.Laws.{rest, capped_low, capped_high, written_none, written_before, written_past, written_in}
use Rattle.bsii_window.proofs.window.put_across.Goals as goal

pub returns-then-end-le-ORIGIN : goal.returns-then-end-le-ORIGIN
returns-then-end-le-ORIGIN c =
    let a = c.args in
    record { next = c.further-end.ensures; window = sym (written_none a.out.now a.at a.text.now (capped_low a.at (length a.text.now) (omega (arith, c.further-end.ensures)))); room = omega arith }

pub slice_bounds-store-count : goal.slice_bounds-store-count
slice_bounds-store-count c = let a = c.args in omega (arith, capped_high a.at (length a.text.now) (omega (arith, c.further-end.ensures)))

pub slice_bounds-store-start : goal.slice_bounds-store-start
slice_bounds-store-start c = let a = c.args in omega (arith, capped_high a.at (length a.text.now) (omega (arith, c.further-end.ensures)))

pub returns-then-at-lt-ORIGIN : goal.returns-then-at-lt-ORIGIN
returns-then-at-lt-ORIGIN c =
    let a = c.args in
    record { next = c.further-end.ensures; window = c.store.ensures ∙ ap (sets a.out.now 0) (rest (0x8000_0000_0000_0000 - a.at) a.text.now) ∙ sym (written_before a.out.now a.at a.text.now (omega arith)); room = omega arith }

pub returns-then-out-start : goal.returns-then-out-start
returns-then-out-start c =
    let a = c.args in
    record { next = c.further-end.ensures; window = sym (written_past a.out.now a.at a.text.now (omega arith) (omega arith)); room = omega arith }

pub returns : goal.returns
returns c =
    let a = c.args in
    record { next = c.further-end.ensures; window = c.store-2.ensures ∙ sym (written_in a.out.now a.at a.text.now (omega arith)); room = omega arith }
