-- The promises: forecast and conversion are two accounts of one reading of the file, which every table with room repeats and no smaller one does.
use mathlib.Core.Path.{◌≡◌, refl, sym, ap, ap₂, ◌∙◌, subst}
use Prim.Native.Nat.{ℕ, ◌*◌, ◌≤◌}
use native.Mathlib.Omega.{arith}
use mathlib.Core.List.{List}
use lib.ListN.{length}
use Rattle.bsii_format.specs.Replies.{Fault, Reply, gives, refuses, output_short}
use Rattle.bsii_format.specs.Reader.{Result, ok, fault}
use Rattle.bsii_format.specs.File.{BsiiFile, distinct_ids, prototypes_of, parse, file_bytes}
use Rattle.bsii_format.specs.Text.{value_text}
use Rattle.bsii_format.specs.BlockText.{every_block, file_text}
use Rattle.bsii_format.specs.Calls.{of_file, steps_of, WriteAnswer, write_answer, Converted, converted, TextAnswer, text_answer, text_call}
use Rattle.bsii_format.proofs.ReplyLaws.{refuses≢gives, gives_inj, refuses_inj, of_read, text_read, text_fault, write_cases, write_fits, write_short}
use Rattle.bsii_derived.specs.Index.{index_width, index_bytes_of}
use Rattle.bsii_derived.specs.IndexCalls.{write_index_call, check_index_call, index_field_call}
use Rattle.bsii_derived.specs.IndexRefusals.{check_numbers, index_field_numbers}
use Rattle.bsii_derived.specs.Forecast.{Forecast, forecast_of, foretold, forecast_call}
use Rattle.bsii_derived.specs.ForecastRefusals.{forecast_numbers}
use Rattle.bsii_derived.specs.ForecastClaims.{AsText, RepliesAsText, StepsAgree, Enough, Needed, Exact}
use Rattle.bsii_derived.proofs.Claims.{was_read, reads_again, one_per_block}
use Rattle.bsii_derived.proofs.Rooms.{read_alike, full_below}
use Rattle.bsii_derived.proofs.Steps.{steps_few}
use Rattle.bsii_derived.proofs.IndexRefusals.{check_refusals, index_field_refusals}
use Rattle.bsii_derived.proofs.ForecastRefusals.{forecast_refusals, never}

-- ---- one reading

-- read with these words, as f, whose text is t
pub record Convertible (words : ℕ) (s : List ℕ) (f : BsiiFile) (t : List ℕ) : Type 0 where
  pub at : ℕ
  pub rest : List ℕ
  pub reads : parse words s ≡ ok f at rest
  pub text : file_text value_text every_block f ≡ gives t

module _ {words : ℕ} {s : List ℕ} {f : BsiiFile} {t : List ℕ} (d : Convertible words s f t) where
  foretold_read : forecast_call words s ≡ gives (forecast_of f t)
  unfolding forecast_call foretold
  foretold_read = of_read _ (parse words s) d.reads ∙ ap (foretold f) d.text

  converted_read : (out : List ℕ) → text_call words s out ≡ text_answer (steps_of f) out (gives t)
  converted_read out = text_read words s d.reads out ∙ ap (text_answer (steps_of f) out) d.text

  -- with every table that has room
  pub read_again : (words' : ℕ) → 3 * distinct_ids (prototypes_of f.records) ≤ words' → Convertible words' s f t
  read_again words' h = record {
    at = length (file_bytes f);
    rest = d.rest;
    reads = reads_again (was_read words s d.reads) words' (omega arith);
    text = d.text;
  }

-- what the two calls make of the file: one refusal of both, or its text
data Outcome (words : ℕ) (s : List ℕ) : Type 0 where
  stops : (x : Fault) → forecast_call words s ≡ refuses x → ((out : List ℕ) → text_call words s out ≡ record { reply = refuses x; needed = 0; output = out }) → Outcome words s
  goes : (f : BsiiFile) (t : List ℕ) → Convertible words s f t → Outcome words s

outcome : (words : ℕ) (s : List ℕ) → Outcome words s
outcome words s = go (parse words s) refl
  where
    go : (q : Result BsiiFile) → parse words s ≡ q → Outcome words s
    go (fault x) e = stops x (unfold forecast_call of_file in rw e refl) (text_fault words s e)
    go (ok f at r) e = text (file_text value_text every_block f) refl
      where
        text : (q : Reply (List ℕ)) → file_text value_text every_block f ≡ q → Outcome words s
        text (gives t) k = goes f t (record { at = at; rest = r; reads = e; text = k })
        text (refuses x) k =
            stops x (unfold forecast_call foretold of_file in rw (e, k) refl) (λ out. text_read words s e out ∙ (unfold write_answer in rw k refl))

pub forecast_read : (words : ℕ) (s : List ℕ) {a : Forecast} → forecast_call words s ≡ gives a → (f : BsiiFile) × (t : List ℕ) × Convertible words s f t × (forecast_of f t ≡ a)
forecast_read words s {a} e = go (outcome words s)
  where
    go : Outcome words s → (f : BsiiFile) × (t : List ℕ) × Convertible words s f t × (forecast_of f t ≡ a)
    go (stops x h k) = refuses≢gives (sym h ∙ e)
    go (goes f t d) = (f, t, d, gives_inj (sym (foretold_read d) ∙ e))

converted_back : (words : ℕ) (s out : List ℕ) {c : Converted} → (text_call words s out).reply ≡ gives c → (f : BsiiFile) × (t : List ℕ) × Convertible words s f t × (converted (steps_of f) t ≡ c)
converted_back words s out {c} e = go (outcome words s)
  where
    go : Outcome words s → (f : BsiiFile) × (t : List ℕ) × Convertible words s f t × (converted (steps_of f) t ≡ c)
    go (stops x h k) = refuses≢gives (sym (ap (λ (z : TextAnswer). z.reply) (k out)) ∙ e)
    go (goes f t d) = (
      f,
      t,
      d,
      write_cases (converted (steps_of f)) out t (λ z. z.reply ≡ gives c → converted (steps_of f) t ≡ c) gives_inj refuses≢gives
          (sym (ap (λ (z : TextAnswer). z.reply) (converted_read d out)) ∙ e),
    )

-- ---- the text call's replies, but 11

pub replies_as_text : RepliesAsText
replies_as_text words s out = go (outcome words s)
  where
    go : Outcome words s → AsText words s out
    go (stops y h k) = record {
      refused = λ x. (
        (λ e. (ap (λ (z : TextAnswer). z.reply) (k out) ∙ ap refuses (refuses_inj (sym h ∙ e)), never forecast_numbers output_short refl (forecast_call words s) (forecast_refusals.only (words, s)) x e)),
        (λ (e, n). h ∙ ap refuses (refuses_inj (sym (ap (λ (z : TextAnswer). z.reply) (k out)) ∙ e))),
      );
      short = λ a e x z. refuses≢gives (sym h ∙ e);
    }
    go (goes f t d) = record {
      refused = λ x. (
        (λ e. refuses≢gives (sym e ∙ foretold_read d)),
        (λ (e, n). absurd (n (ap (λ (y : Fault). y.cause) (too_short x e)))),
      );
      short = λ a e x z. too_short x z;
    }
      where
        too_short : (x : Fault) → (text_call words s out).reply ≡ refuses x → x ≡ record { cause = output_short; offset = 0; lacking = 0 }
        too_short x e =
            write_cases (converted (steps_of f)) out t (λ z. z.reply ≡ refuses x → x ≡ record { cause = output_short; offset = 0; lacking = 0 })
            (λ z. refuses≢gives (sym z)) (λ z. sym (refuses_inj z)) (sym (ap (λ (z : TextAnswer). z.reply) (converted_read d out)) ∙ e)

-- ---- agreeing

-- there is one forecast, whatever the table
forecast_alike : {words : ℕ} {s : List ℕ} {f : BsiiFile} {t : List ℕ} → Convertible words s f t → (words' : ℕ) {a : Forecast} → forecast_call words' s ≡ gives a → forecast_of f t ≡ a
forecast_alike {words} {s} {f} {t} d words' e =
    let (f', t', d', z) = forecast_read words' s e in
    let p : f ≡ f' = read_alike words words' s d.reads d'.reads in
    let q : t ≡ t' = gives_inj (sym d.text ∙ ap (file_text value_text every_block) p ∙ d'.text) in
    ap₂ forecast_of p q ∙ z

pub steps_agree : StepsAgree
unfolding forecast_of
steps_agree = record {
  converts = λ s c. record {
    told = λ words out e. let (f, t, d, z) = converted_back words s out e in (forecast_of f t, foretold_read d);
    agree = λ words out e words' a e'.
        let (f, t, d, z) = converted_back words s out e in
        let p = sym (forecast_alike d words' e') in
        (ap (λ (x : Forecast). x.text_length) p ∙ ap (λ (x : Converted). x.size) z, ap (λ (x : Forecast). x.steps) p ∙ ap (λ (x : Converted). x.steps) z);
  };
  few = λ words s a e.
      let (f, t, d, z) = forecast_read words s e in
      subst (λ (x : Forecast). x.steps ≤ length s) z (steps_few (was_read words s d.reads));
  few_made = λ words s out c e.
      let (f, t, d, z) = converted_back words s out e in
      subst (λ (x : Converted). x.steps ≤ length s) z (steps_few (was_read words s d.reads));
}

-- ---- enough, and needed

enough : {words : ℕ} {s : List ℕ} {f : BsiiFile} {t : List ℕ} → Convertible words s f t → Enough s (forecast_of f t)
unfolding forecast_of write_index_call
enough {words} {s} {f} {t} d = record {
  text = λ words' out h l. ap (λ (z : TextAnswer). z.reply) (converted_read (read_again d words' h) out ∙ write_fits (converted (steps_of f)) out t l);
  write_index = λ words' space h l.
      let long = one_per_block index_width words s f d.at d.rest d.reads in
      ap (λ q. (write_answer length space q).reply) (of_read _ (parse words' s) (read_again d words' h).reads)
      ∙ ap (λ (z : WriteAnswer ℕ). z.reply) (write_fits length space (index_bytes_of index_width f) (omega (arith, long, l))) ∙ ap gives long;
}

needed : {words : ℕ} {s : List ℕ} {f : BsiiFile} {t : List ℕ} → Convertible words s f t → Needed s (forecast_of f t)
unfolding forecast_of
needed {words} {s} {f} {t} d = record {
  table = λ words' out h. let (x, z) = full_below words' words s d.reads h in (x, text_fault words' s z out);
  output = λ words' out h l. converted_read (read_again d words' h) out ∙ write_short (converted (steps_of f)) out t l;
}

pub exact : Exact
exact = record {
  enough = λ words s a e. let (f, t, d, z) = forecast_read words s e in subst (Enough s) z (enough d);
  needed = λ words s a e. let (f, t, d, z) = forecast_read words s e in subst (Needed s) z (needed d);
  check_index = λ w words s i. never check_numbers output_short refl (check_index_call w words s i) (check_refusals.only (w, words, s, i));
  index_field = λ w s i k name. never index_field_numbers output_short refl (index_field_call w s i k name) (index_field_refusals.only (w, s, i, (k, name)));
}
