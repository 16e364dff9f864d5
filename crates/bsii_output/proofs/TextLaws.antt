-- The text call: what was foreseen, written and answered.
use mathlib.Core.Path.{◌≡◌, refl, sym, ap, ap₂, ◌∙◌, subst}
use Prim.Native.Nat.{ℕ, ◌/◌, ◌≤◌, ◌<◌}
use native.Mathlib.Nat.{zero-add}
use native.Mathlib.Omega.{arith}
use mathlib.Core.Bool.{Bool}
use mathlib.Core.Option.{Option}
use mathlib.Core.List.{List, ◌++◌}
use lib.ListN.{length, drop}
use lib.Seq.{sets-eq}
use Rattle.bsii_format.specs.Replies.{Reply, output_short}
use Rattle.bsii_format.specs.Values.{Value}
use Rattle.bsii_format.specs.Prototypes.{ValuePrototype}
use Rattle.bsii_format.specs.Blocks.{DataBlock}
use Rattle.bsii_format.specs.File.{Record, prototypes_of, parse}
use Rattle.bsii_format.specs.Text.{value_text}
use Rattle.bsii_format.specs.BlockText.{every_block}
use Rattle.bsii_format.specs.Calls.{of_file, steps_in, write_answer, converted, text_answer, text_of, text_call}
use Rattle.bsii_format.proofs.ReplyLaws.{write_fits, write_short}
use Rattle.bsii_string.specs.Answers.{refused_at}
use Rattle.bsii_string.specs.declared.answers.Refusal.{Refusal}
use Rattle.bsii_parse.proofs.Whole.{file_parts}
use Rattle.bsii_walk.specs.Seek.{Readable}
use Rattle.bsii_window.specs.Window.{Wrote}
use Rattle.bsii_window.proofs.Laws.{written_in}
use Rattle.bsii_text.specs.Records.{TextsAre, BsiiWritten}
use Rattle.std.specs.Prelude.{Ok, Err, Result as Outcome}
use Rattle.bsii_forecast.specs.Foresees.{Foresees, foreseen, unforeseen}
use Rattle.bsii_forecast.specs.declared.answers.Figures.{Figures}
use Rattle.bsii_forecast.proofs.ForeseeLaws.{file_framed}
use Rattle.bsii_output.specs.Answers.{text_is, TextWritten}
use Rattle.bsii_output.specs.declared.text.Converted.{Converted}
use Rattle.bsii_string.specs.declared.answers.Unwritten.{Unwritten}

-- a window that has room for the whole text
whole : (old x : List ℕ) {r : ℕ} {new : List ℕ} → length x ≤ length old → Wrote old 0x8000_0000_0000_0000 x r new → new ≡ x ++ drop (length x) old
whole old x {new = new} h w =
    w.window ∙ written_in old 0x8000_0000_0000_0000 x (omega arith)
    ∙ sets-eq x old 0 (omega arith)
    ∙ ap (λ (n : ℕ). x ++ drop n old) (zero-add (length x))

-- `text` gives the lines of a value; `prints` tells of a block and the records behind it whether it is in the text
module _ (text : ValuePrototype → Value → Option (List ℕ)) (prints : DataBlock → List Record → Bool) where
  module _ (a : Figures) (s t old : List ℕ) where
    pub text_short : {f : Refusal} → f ≡ refused_at output_short 0 → length old < a.text → TextWritten text prints a s t old (Err (record { refusal = f; needed = a.text })) old
    text_short e h = record {
      answers = λ rooms last rest w x q z.
          ap₂ (λ (f : Refusal) (n : ℕ). text_is (Err (record { refusal = f; needed = n })) old) e z ∙ sym (write_short (converted a.steps) old x (omega (arith, z)));
    }

    -- what has a text is not refused
    pub text_unrefused : {f : Refusal} {t' new : List ℕ} → BsiiWritten text prints a.version s 8 t a.rows old (Err f) t' new → {r : Outcome Converted Unwritten} → TextWritten text prints a s t old r new
    text_unrefused {f} {t'} {new} b = record {
      answers = λ rooms last rest w x q z. absurd (subst (λ (o : Reply (List ℕ)). TextsAre old 0x8000_0000_0000_0000 o (Err f) new) q (b.writes rooms last rest w).0);
    }

    pub text_fits : a.text ≤ length old → {n : ℕ} {t' new : List ℕ} → BsiiWritten text prints a.version s 8 t a.rows old (Ok n) t' new
        → TextWritten text prints a s t old (Ok (record { length = a.text; steps = a.steps })) new
    text_fits h {n} {t'} {new} b = record {
      answers = λ rooms last rest w x q z.
          let fits : length x ≤ length old = omega (arith, z) in
          let is = whole old x fits (subst (λ (o : Reply (List ℕ)). TextsAre old 0x8000_0000_0000_0000 o (Ok n) new) q (b.writes rooms last rest w).0) in
          ap₂ (λ (n : ℕ) (o : List ℕ). text_is (Ok (record { length = n; steps = a.steps })) o) z is ∙ sym (write_fits (converted a.steps) old x fits);
    }

-- ---- the call: its text is `value_text` of every block

pub call_refused : {s t : List ℕ} {f : Refusal} {t' : List ℕ} → Foresees s t (Err f) t' → (out : List ℕ) → text_is (Err (record { refusal = f; needed = 0 })) out ≡ text_call (length t) s out
unfolding text_call write_answer
call_refused {s} {t} (unforeseen e l) out = sym (ap (text_answer (steps_in (parse (length t) s)) out) e)

-- the table that is left is what the writing walk starts from
pub foreseen_readable : {s t : List ℕ} {a : Figures} {t' : List ℕ} → Foresees s t (Ok a) t' → Readable a.version s 8 t' a.rows
foreseen_readable {s} {t} {t' = t'} (foreseen f x e h w l) =
    let p = file_parts (length t) s e in
    record { short = p.short; inside = p.inside; rooms = length t / 3; last = prototypes_of f.records; rest = f.records; standing = w }

pub call_written : {s t : List ℕ} {a : Figures} {t' : List ℕ} → Foresees s t (Ok a) t' → {out : List ℕ} {reply : Outcome Converted Unwritten} {new : List ℕ}
    → TextWritten value_text every_block a s t' out reply new → text_is reply new ≡ text_call (length t) s out
unfolding text_call text_of of_file steps_in
call_written {s} {t} {t' = t'} (foreseen f x e h w l) v =
    v.answers (length t / 3) (prototypes_of f.records) f.records w x (sym (file_framed f (file_parts (length t) s e).header) ∙ h) refl
    ∙ rw (e, h) refl
