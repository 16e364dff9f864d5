-- By the first byte, as in `store_id`, with the same law of each case.
use Prim.Native.Nat.{◌%◌}
use mathlib.Core.List.{[]}
use mathlib.Core.Path.{refl}
use native.Mathlib.Omega.{arith}
use lib.ListN.{length-append}
use Rattle.bsii_text_length.proofs.WordLaws.{at_most_thirteen}
use Rattle.bsii_write_id.proofs.IdLaws.{nameless_text, null_text, named_text, named_length, id_counted}
use Rattle.bsii_write_id.proofs.ids.id_length.Goals as goal

pub returns-then-n-eq255 : goal.returns-then-n-eq255
returns-then-n-eq255 c =
    let k = c.nameless_length.ensures in
    id_counted (nameless_text c.args.raw.now c.u8_at-n.ensures c.if-n-eq255.true c.u64_at.ensures) k.0 (omega (arith, k.1))

pub returns-then-n-eq0 : goal.returns-then-n-eq0
returns-then-n-eq0 c = id_counted (null_text c.args.raw.now c.u8_at-n.ensures c.if-n-eq0.true) refl (omega arith)

pub returns-then-raw-n : goal.returns-then-raw-n
returns-then-raw-n c = id_counted {x = []} (λ i h. absurd (omega (arith, named_length c.args.raw.now c.u8_at-n.ensures c.if-n-eq255.false i h))) refl (omega arith)

pub overflow_add-result : goal.overflow_add-result
overflow_add-result c = omega (arith, c.word_length.ensures, at_most_thirteen (c.u64_at-2.result % 0x8000_0000_0000_0000) (omega arith), c.dotted_length.ensures.1)

pub returns : goal.returns
returns c =
    let w = c.word_length.ensures in
    let d = c.dotted_length.ensures in
    let k = at_most_thirteen (c.u64_at-2.result % 0x8000_0000_0000_0000) (omega arith) in
    id_counted (named_text c.args.raw.now c.u8_at-n.ensures c.if-n-eq255.false c.if-n-eq0.false c.u64_at-2.ensures) (simp length-append (omega (arith, w, d.0))) (omega (arith, w, k, d.1, c.if-raw-n.false))
