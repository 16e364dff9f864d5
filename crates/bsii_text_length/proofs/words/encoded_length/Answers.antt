use mathlib.Core.Path.{sym, ap, ◌∙◌}
use lib.ListN.{length}
use native.Mathlib.Omega.{arith}
use Rattle.bsii_text_length.specs.Words.{encoded_text}
use Rattle.bsii_text_length.proofs.WordLaws.{encoded_none, encoded_word}
use Rattle.bsii_text_length.proofs.words.encoded_length.Goals as goal

pub returns-then-word-eq0 : goal.returns-then-word-eq0
unfolding encoded_text
returns-then-word-eq0 c = sym (ap length (encoded_none c.args.word (omega arith)))

pub returns : goal.returns
returns c = c.word_length.ensures ∙ sym (ap length (encoded_word c.args.word (omega arith)))
