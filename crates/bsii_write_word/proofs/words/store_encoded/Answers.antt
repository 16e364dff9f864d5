-- `encoded_text` is two quotes for 0 (`encoded_none`) and the spelling for every other word (`encoded_word`), which is what the branch stores.
use mathlib.Core.Path.{sym}
use native.Mathlib.Omega.{arith}
use Rattle.bsii_text_length.specs.Words.{encoded_text}
use Rattle.bsii_text_length.proofs.WordLaws.{encoded_none, encoded_word}
use Rattle.bsii_window.proofs.Stores.{stored_being}
use Rattle.bsii_write_word.proofs.words.store_encoded.Goals as goal

pub returns-then-word-eq0 : goal.returns-then-word-eq0
unfolding encoded_text
returns-then-word-eq0 c = (stored_being (sym (encoded_none c.args.word c.if-word-eq0.true)) c.store_text.ensures, omega (arith, c.store_text.ensures.next))

pub returns : goal.returns
returns c = (stored_being (sym (encoded_word c.args.word (omega arith))) c.store_word.ensures.0, c.store_word.ensures.1)
