-- "Exactly when": a call that gives 7 wherever a block carries the last definition, and no 7 where none does, gives 7 exactly there, since `first_carried`
-- is one or the other.
use mathlib.Core.Path.{◌≡◌, refl, sym, ap, ◌∙◌}
use mathlib.Core.Logic.{◌↔◌}
use Prim.Native.Nat.{ℕ}
use native.Mathlib.Omega.{arith}
use mathlib.Core.Option.{Option, none, some}
use mathlib.Core.List.{List}
use Rattle.bsii_format.specs.declared.Cause.{Cause}
use Rattle.bsii_format.specs.Replies.{number_of, Fault, Reply, gives, refusal, output_short, unlisted_type, absent}
use Rattle.bsii_format.specs.File.{BsiiFile}
use Rattle.bsii_format.specs.Text.{value_text}
use Rattle.bsii_format.specs.Calls.{reading_call, field_call, steps_of, write_answer, Converted, converted, TextAnswer, text_call}
use Rattle.bsii_format.proofs.ReplyLaws.{refuses_inj, refuses≢gives, write_cases}
use Rattle.bsii_widening.specs.Marks.{MarkedRecords}
use Rattle.bsii_widening.specs.Claim.{new_save, new_file, new_text, StillConverts, Refused, ExactlyWhen}
use Rattle.bsii_widening.proofs.Environments.{none≢some}

pub both_ways : {A : Type 0} (q : Reply A) (o : Option ℕ) → ((x : ℕ) → o ≡ some x → q ≡ refusal unlisted_type x) → ((x : ℕ) → o ≡ none → q ≡ refusal unlisted_type x → ⊥)
    → (x : ℕ) → (q ≡ refusal unlisted_type x) ↔ (o ≡ some x)
both_ways q none c u x = ((λ e. absurd (u x refl e)), (λ e. none≢some e))
both_ways q (some y) c u x = ((λ e. ap some (ap (λ (z : Fault). z.offset) (refuses_inj (sym (c y refl) ∙ e)))), (λ e. c x e))

pub same_number : {c d : Cause} {x y : ℕ} {A : Type 0} → ◌≡◌ {A = Reply A} (refusal c x) (refusal d y) → number_of c ≡ number_of d
same_number e = ap (λ (z : Fault). number_of z.cause) (refuses_inj e)

pub not_seven : {A : Type 0} (answer : List ℕ → A) (out t : List ℕ) (x : ℕ) → (write_answer answer out (gives t)).reply ≡ refusal unlisted_type x → ⊥
not_seven answer out t x e =
    write_cases answer out t (λ a. a.reply ≡ refusal unlisted_type x → ⊥) (λ e. refuses≢gives (sym e)) (λ e. let z : number_of output_short ≡ number_of unlisted_type = same_number e in omega arith) e

pub exactly_when : {words : ℕ} {s out : List ℕ} {f : BsiiFile} {r : List ℕ} {made : Converted} {words' : ℕ} (M : MarkedRecords) (o : Option ℕ) → ((x : ℕ) → o ≡ some x → Refused words' x (new_file f r M))
    → (o ≡ none → StillConverts words s out f r made words' M) → ExactlyWhen words' (new_file f r M) o
exactly_when {f = f} {r} {words' = words'} M o c u = record {
  reading = both_ways (reading_call words' (new_file f r M)) o (λ x e. (c x e).reading) (λ x n e. refuses≢gives (sym e ∙ (u n).reading));
  field = λ k name. both_ways (field_call words' (new_file f r M) k name) o (λ x e. (c x e).field k name)
      (λ x n e. let z : number_of unlisted_type ≡ number_of absent = same_number (sym e ∙ (u n).field k name _ e) in omega arith);
  text = λ out. both_ways (text_call words' (new_file f r M) out).reply o (λ x e. ap (λ (z : TextAnswer). z.reply) ((c x e).text out))
      (λ x n e. not_seven (converted (steps_of (new_save f M))) out (new_text value_text M) x (sym (ap (λ (z : TextAnswer). z.reply) ((u n).text out)) ∙ e));
}
