-- The first byte decides as in `id_parser`: 0xff is nameless, and any other counts the words, where none is `null`. One law for each of the three says what
-- the text of an accepted id is by its bytes, and eight bytes a word are what the room is counted by.
use mathlib.Core.Path.{refl}
use native.Mathlib.Omega.{arith}
use Rattle.bsii_window.proofs.Stores.{stored_then}
use Rattle.bsii_write_id.proofs.IdLaws.{nameless_text, null_text, named_text, named_length, id_stored}
use Rattle.bsii_write_word.proofs.WordLaws.{store_none}
use Rattle.bsii_write_id.proofs.ids.store_id.Goals as goal

pub returns-then-n-eq255 : goal.returns-then-n-eq255
returns-then-n-eq255 c =
    let w = c.store_nameless.ensures in
    id_stored (nameless_text c.args.raw.now c.u8_at-n.ensures c.if-n-eq255.true c.u64_at.ensures) w.0 (omega (arith, w.1))

pub returns-then-n-eq0 : goal.returns-then-n-eq0
returns-then-n-eq0 c =
    let w = c.store_text.ensures in
    id_stored (null_text c.args.raw.now c.u8_at-n.ensures c.if-n-eq0.true) w (omega (arith, w.next))

pub returns-then-raw-n : goal.returns-then-raw-n
returns-then-raw-n c = id_stored (λ i h. absurd (omega (arith, named_length c.args.raw.now c.u8_at-n.ensures c.if-n-eq255.false i h))) (store_none refl) (omega arith)

pub returns : goal.returns
returns c =
    let w = c.store_word-next.ensures in
    let d = c.store_dotted.ensures in
    id_stored (named_text c.args.raw.now c.u8_at-n.ensures c.if-n-eq255.false c.if-n-eq0.false c.u64_at-2.ensures) (stored_then w.0 d.0) (omega (arith, w.1, d.1, c.if-raw-n.false))
