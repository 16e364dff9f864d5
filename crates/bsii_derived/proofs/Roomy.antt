-- No call gives 10 with enough words: each reads the whole file first, and makes no 10 of what it has read.
use mathlib.Core.Path.{◌≡◌, refl, sym, ◌∙◌, subst}
use Prim.Native.Nat.{ℕ, ◌≤◌}
use mathlib.Core.Bool.{false, cond}
use mathlib.Core.Option.{Option, map}
use mathlib.Core.List.{List, [], ◌∷◌}
use lib.ListN.{length, get_elem?}
use Rattle.bsii_format.specs.declared.Cause.{Cause}
use Rattle.bsii_format.specs.Replies.{Reply, gives, refuses, table_full, output_short, absent, misfit}
use Rattle.bsii_format.specs.Reader.{Result, ok, fault}
use Rattle.bsii_format.specs.File.{BsiiFile, prototypes_of, parse}
use Rattle.bsii_format.specs.Text.{value_text}
use Rattle.bsii_format.specs.BlockText.{every_block, file_text}
use Rattle.bsii_format.specs.Calls.{of_file, or_absent, blocks_of, reading_of, reading_call, prototype_of, prototype_call, block_answer, block_call, blocks_by_prototype_name, named_block_call, field_of, field_call, element_call, steps_of, steps_in, write_answer, converted, text_answer, text_of, text_call}
use Rattle.bsii_format.specs.Refusals.{element_numbers, among, Within}
use Rattle.bsii_format.proofs.ReplyLaws.{of_read}
use Rattle.bsii_format.proofs.Refusals.{Told}
use Rattle.bsii_format.proofs.CallRefusals.{more_within, or_within, written_within, print_numbers, file_within, element_refusals}
use Rattle.bsii_derived.specs.Index.{index_of, index_bytes_of}
use Rattle.bsii_derived.specs.IndexCalls.{write_index_call, checked, check_index_call, index_field_call, once, defines_once_call}
use Rattle.bsii_derived.specs.IndexRefusals.{index_field_numbers}
use Rattle.bsii_derived.specs.Forecast.{Forecast, forecast_of, foretold, forecast_call}
use Rattle.bsii_derived.specs.ForecastClaims.{Roomy, ReadsFirst, EachCall, ByLength, ByForecast, NeverFull}
use Rattle.bsii_derived.proofs.Rooms.{roomy_numbers, parse_roomy}
use Rattle.bsii_derived.proofs.IndexRefusals.{checked_within, index_field_refusals}
use Rattle.bsii_derived.proofs.ForecastRefusals.{foretold_within, never}
use Rattle.bsii_derived.proofs.Forecasts.{read_again, forecast_read}

module _ {A : Type 0} {call : ℕ → List ℕ → Reply A} (c : ReadsFirst call) where
  by_length_law : ByLength call
  by_length_law words s h x e k = go (parse words s) (parse_roomy words s h) (sym (c.reads words s) ∙ e)
    where
      go : (q : Result BsiiFile) → Told roomy_numbers q → of_file c.answer q ≡ refuses x → ⊥
      go (ok f at r) t z = unfold of_file in c.roomy f at x z k
      go (fault y) t z = unfold of_file in never roomy_numbers table_full refl {A = A} (refuses y) t x z k

  by_forecast_law : ByForecast call
  unfolding forecast_of
  by_forecast_law known s a e words h x z k =
      let (f, t, d, p) = forecast_read known s e in
      let g = read_again d words (subst (λ (y : Forecast). y.table_words ≤ words) (sym p) h) in
      c.roomy f g.at x (sym (of_read c.answer (parse words s) g.reads) ∙ sym (c.reads words s) ∙ z) k

pub each_call : {P Q : (A : Type 0) → (ℕ → List ℕ → Reply A) → Type 0} → ((A : Type 0) (call : ℕ → List ℕ → Reply A) → P A call → Q A call) → EachCall P → EachCall Q
each_call g e = record {
  reading = g _ _ e.reading;
  prototype = λ n. g _ _ (e.prototype n);
  block = λ k. g _ _ (e.block k);
  named_block = λ name n. g _ _ (e.named_block name n);
  field = λ k name. g _ _ (e.field k name);
  text = λ out. g _ _ (e.text out);
  write_index = λ w space. g _ _ (e.write_index w space);
  check_index = λ w i. g _ _ (e.check_index w i);
  defines_once = g _ _ e.defines_once;
  forecast = g _ _ e.forecast;
}

-- no 10 of its own: the causes l of what it makes of a file that was read are without it
roomy_of : (l : List Cause) → among l table_full ≡ false → {A : Type 0} (q : Reply A) → Within l q → Roomy q
roomy_of l e q h = never l table_full e q h

found_roomy : {A : Type 0} (o : Option A) → Roomy (or_absent o)
found_roomy o = roomy_of (absent ∷ []) refl (or_absent o) (or_within (absent ∷ []) absent 0 tt o)

text_reads : (out : List ℕ) (q : Result BsiiFile)
    → (text_answer (steps_in q) out (of_file (λ f at. file_text value_text every_block f) q)).reply ≡ of_file (λ f at. (text_answer (steps_of f) out (file_text value_text every_block f)).reply) q
unfolding of_file steps_in write_answer
text_reads out (ok f at r) = refl
text_reads out (fault x) = refl

index_reads : (w : ℕ) (space : List ℕ) (q : Result BsiiFile)
    → (write_answer length space (of_file (λ f at. gives (index_bytes_of w f)) q)).reply ≡ of_file (λ f at. (write_answer {A = ℕ} length space (gives (index_bytes_of w f))).reply) q
unfolding of_file write_answer
index_reads w space (ok f at r) = refl
index_reads w space (fault x) = refl

every_call : EachCall (λ A call. ReadsFirst call)
unfolding reading_call prototype_call block_call named_block_call field_call text_call text_of write_index_call check_index_call defines_once_call forecast_call
every_call = record {
  reading = record { answer = λ f at. gives (reading_of f at); reads = λ words s. refl; roomy = λ f at. roomy_of [] refl (gives (reading_of f at)) tt };
  prototype = λ n. record { answer = λ f at. or_absent (prototype_of n f); reads = λ words s. refl; roomy = λ f at. found_roomy (prototype_of n f) };
  block = λ k. record {
    answer = λ f at. or_absent (map block_answer (get_elem? (blocks_of f) k));
    reads = λ words s. refl;
    roomy = λ f at. found_roomy (map block_answer (get_elem? (blocks_of f) k));
  };
  named_block = λ name n. record {
    answer = λ f at. or_absent (get_elem? (blocks_by_prototype_name name f) n);
    reads = λ words s. refl;
    roomy = λ f at. found_roomy (get_elem? (blocks_by_prototype_name name f) n);
  };
  field = λ k name. record { answer = λ f at. or_absent (field_of k name f); reads = λ words s. refl; roomy = λ f at. found_roomy (field_of k name f) };
  text = λ out. record {
    answer = λ f at. (text_answer (steps_of f) out (file_text value_text every_block f)).reply;
    reads = λ words s. text_reads out (parse words s);
    roomy = λ f at.
        let own = output_short ∷ print_numbers in
        let text = file_text value_text every_block f in
        roomy_of own refl _ (written_within own tt (converted (steps_of f)) out text (more_within own print_numbers tt text (file_within value_text every_block f)));
  };
  write_index = λ w space. record {
    answer = λ f at. (write_answer length space (gives (index_bytes_of w f))).reply;
    reads = λ words s. index_reads w space (parse words s);
    roomy = λ f at. roomy_of (output_short ∷ []) refl _ (written_within (output_short ∷ []) tt length space (gives (index_bytes_of w f)) tt);
  };
  check_index = λ w i. record {
    answer = λ f at. checked w (index_of f) i;
    reads = λ words s. refl;
    roomy = λ f at. roomy_of (misfit ∷ []) refl (checked w (index_of f) i) (checked_within w (index_of f) i);
  };
  defines_once = record {
    answer = λ f at. gives (cond (once (prototypes_of f.records)) 1 0);
    reads = λ words s. refl;
    roomy = λ f at. roomy_of [] refl (gives (cond (once (prototypes_of f.records)) 1 0)) tt;
  };
  forecast = record {
    answer = λ f at. foretold f (file_text value_text every_block f);
    reads = λ words s. refl;
    roomy = λ f at. roomy_of print_numbers refl (foretold f (file_text value_text every_block f)) (foretold_within f);
  };
}

pub never_full : NeverFull
never_full = record {
  by_length = each_call (λ A call. by_length_law) every_call;
  by_forecast = each_call (λ A call. by_forecast_law) every_call;
  index_field = λ w s i k name. never index_field_numbers table_full refl (index_field_call w s i k name) (index_field_refusals.only (w, s, i, (k, name)));
  element = λ version t s i. never element_numbers table_full refl (element_call version t s i) (element_refusals.only (version, t, s, i));
}
