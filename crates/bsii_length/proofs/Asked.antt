-- Every text has the 13 bytes of the file's own lines, so the text call with an output of length 0 tells how long a text is.
use mathlib.Core.Path.{◌≡◌, ap, ◌∙◌}
use Prim.Native.Nat.{ℕ, ◌+◌, ◌≤◌}
use native.Mathlib.Omega.{arith}
use mathlib.Core.List.{List, []}
use lib.ListN.{length, length-append}
use Rattle.bsii_format.specs.Replies.{Reply, gives, refuses, refusal, output_short}
use Rattle.bsii_format.specs.Reader.{Result, ok, fault}
use Rattle.bsii_format.specs.File.{BsiiFile, parse}
use Rattle.bsii_format.specs.Text.{value_text}
use Rattle.bsii_format.specs.BlockText.{joined, closing, file_opening, every_block, file_text}
use Rattle.bsii_format.specs.Calls.{of_file, steps_in, text_of, converted, text_answer, text_call}
use Rattle.bsii_format.proofs.ReplyLaws.{write_short}
use Rattle.bsii_length.proofs.Lines.{answered}

framed_long : (a c : List ℕ) (q : Reply (List ℕ)) {t : List ℕ} → joined (joined (gives a) q) (gives c) ≡ gives t → length a + length c ≤ length t
unfolding joined
framed_long a c (gives b) e = omega (arith, simp length-append at (ap answered e))
framed_long a c (refuses f) e = let z : ◌≡◌ {A = ℕ} 0 1 = cc in absurd (omega arith)

text_long : (words : ℕ) (s : List ℕ) {t : List ℕ} → text_of words s ≡ gives t → 13 ≤ length t
unfolding text_of file_text file_opening closing
text_long words s {t} e = go (parse words s) e
  where
    go : (q : Result BsiiFile) → of_file (λ f at. file_text value_text every_block f) q ≡ gives t → 13 ≤ length t
    go (ok f at r) e = unfold of_file in framed_long file_opening closing _ e
    go (fault x) e = unfold of_file in let z : ◌≡◌ {A = ℕ} 0 1 = cc in absurd (omega arith)

pub length_asked : (words : ℕ) (s : List ℕ) {t : List ℕ} → text_of words s ≡ gives t → text_call words s [] ≡ record { reply = refusal output_short 0; needed = length t; output = [] }
unfolding text_call
length_asked words s {t} e =
    ap (text_answer (steps_in (parse words s)) []) e ∙ write_short (converted (steps_in (parse words s))) [] t (omega (arith, text_long words s e))
