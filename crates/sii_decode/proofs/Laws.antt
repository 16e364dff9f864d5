-- What stands at the output's start is what the program prints.
use Prim.Native.Nat.{ℕ, ◌+◌, ◌-◌, ◌^◌, ◌≤◌, ◌<◌}
use mathlib.Core.Path.{◌≡◌, refl, sym, ap, subst, ◌∙◌}
use mathlib.Core.Logic.{⊎_elim}
use mathlib.Core.Bool.{Bool, true, false, cond}
use mathlib.Core.List.{List, ◌++◌}
use native.Mathlib.Omega.{arith}
use borrow.Author.Tests.{le-leb, lt-leb}
use lib.ListN.{length, take, drop, length-append, length-take}
use lib.Seq.{sets-eq, take_all, take-append_seam}
use lib.Dec.{leb}
use Rattle.bsii_format.specs.declared.Cause.{Cause}
use Rattle.bsii_format.specs.declared.Cause.TheVariants.{InvalidHeader, Malformed, NotUtf8, ZeroDigit, UndefinedPrototype, UnlistedType, FieldCount, EnumValue, TableFull, OutputShort, InputLong, Absent, Misfit, BadMark}
use Rattle.bsii_format.specs.Replies.{number_of, Fault, Reply, gives, refuses, refusal, input_long, output_short}
use Rattle.bsii_format.specs.File.{parse}
use Rattle.bsii_format.specs.Calls.{steps_in, write_answer, Converted, converted, TextAnswer, text_of, text_answer, text_call, printed, of_size, program}
use Rattle.bsii_length.proofs.Digits.{digits_length}
use Rattle.bsii_window.specs.Window.{Wrote}
use Rattle.bsii_window.proofs.Laws.{lt_or_le, capped_less, same, written_in}
use Rattle.sii_decode.specs.Starts.{Starts}

-- ---- refusals

number_small : (c : Cause) → number_of c < 2 ^ 64
number_small InvalidHeader = omega arith
number_small Malformed = omega arith
number_small NotUtf8 = omega arith
number_small ZeroDigit = omega arith
number_small UndefinedPrototype = omega arith
number_small UnlistedType = omega arith
number_small FieldCount = omega arith
number_small EnumValue = omega arith
number_small TableFull = omega arith
number_small OutputShort = omega arith
number_small InputLong = omega arith
number_small Absent = omega arith
number_small Misfit = omega arith
number_small BadMark = omega arith

pub refusal_length : (f : Fault) → f.offset < 2 ^ 64 → length (printed (refuses f)) ≤ 65_536
unfolding printed
refusal_length f l = simp length-append (omega (arith, digits_length 10 64 (number_of f.cause) (omega arith) (number_small f.cause), digits_length 10 64 f.offset (omega arith) l))

-- a text that was written at the window's start, where there is room for it
module _ {old new text : List ℕ} {r : ℕ} (w : Wrote old 0x8000_0000_0000_0000 text r new) (h : length text ≤ 65_536) (k : length old ≡ 65_536) where
  pub behind : r ≡ 0x8000_0000_0000_0000 + length text
  behind = w.next ∙ capped_less 0x8000_0000_0000_0000 (length text) (omega arith)

  pub wrote_starts : Starts new (r - 0x8000_0000_0000_0000) text
  wrote_starts =
      let z : r - 0x8000_0000_0000_0000 ≡ length text = omega (arith, behind) in
      record {
        inside = omega (arith, same w);
        bytes =
            ap (λ n. take n new) z
            ∙ ap (take (length text)) (w.window ∙ written_in old 0x8000_0000_0000_0000 text (omega arith) ∙ sets-eq text old 0 (omega arith))
            ∙ take-append_seam text (drop (0 + length text) old);
      }

-- ---- the program

fits : (s : List ℕ) → length s ≤ 65_536 → program s ≡ printed (of_size 65_536 (text_of 768 s))
unfolding program
fits s h = rw (le-leb (length s) 65_536 h)

pub longer : (s : List ℕ) → 65_536 < length s → program s ≡ printed (refusal input_long 0)
unfolding program
longer s h = rw (lt-leb (length s) 65_536 h)

-- the bytes behind those that the program reads change nothing
pub unread : (s : List ℕ) → program (take 65_537 s) ≡ program s
unread s =
    ⊎_elim (λ h. longer (take 65_537 s) (omega (arith, length-take 65_537 s)) ∙ sym (longer s h)) (λ h. ap program (take_all 65_537 s (omega arith)))
    (lt_or_le 65_536 (length s))

-- ---- the text call

-- a text that is printed stands at the output's start already, and a refusal is yet to be written
abbrev Shows : List ℕ → Reply Converted → List ℕ → Type 0
Shows p (gives a) output = Starts output a.size p
Shows p (refuses f) output = p ≡ printed (refuses f)

abbrev Answers : List ℕ → TextAnswer → Type 0
Answers p a = Shows p a.reply a.output

text_answers : (steps : ℕ) (output t : List ℕ) (b : Bool) → Answers (printed (cond b (gives t) (refusal output_short 0)))
    (cond b (record { reply = gives (converted steps t); needed = 0; output = t ++ drop (length t) output }) (record { reply = refusal output_short 0; needed = length t; output = output }))
unfolding printed
text_answers steps output t true = record { inside = omega (arith, length-append t (drop (length t) output)); bytes = take-append_seam t (drop (length t) output) }
text_answers steps output t false = refl

answers : (steps : ℕ) (output : List ℕ) (r : Reply (List ℕ)) → Answers (printed (of_size (length output) r)) (text_answer steps output r)
unfolding of_size write_answer
answers steps output (gives t) = text_answers steps output t (leb (length t) (length output))
answers steps output (refuses f) = refl

pub call_answers : (s output : List ℕ) {words : ℕ} {a : TextAnswer} → length s ≤ 65_536 → words ≡ 768 → length output ≡ 65_536 → a ≡ text_call words s output → Answers (program s) a
unfolding text_call
call_answers s output {words} {a} h w k e =
    let steps = steps_in (parse 768 s) in
    rw (fits s h, e, w) (subst (λ n. Answers (printed (of_size n (text_of 768 s))) (text_answer steps output (text_of 768 s))) k (answers steps output (text_of 768 s)))
