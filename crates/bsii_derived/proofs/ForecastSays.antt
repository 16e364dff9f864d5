-- What follows from the forecast's promises, from the statements alone: each part by itself, so that a promise that says less is not enough for it. At the end
-- what they say of the worked save A.
use mathlib.Core.Path.{◌≡◌, refl, ap}
use Prim.Native.Nat.{ℕ, suc, ◌+◌, ◌*◌, ◌/◌, ◌≤◌, ◌<◌}
use native.Mathlib.Omega.{arith}
use mathlib.Core.List.{List, []}
use lib.ListN.{length}
use Rattle.bsii_format.specs.Replies.{table_full, output_short, Fault, gives, refuses, refusal}
use Rattle.bsii_format.specs.Calls.{reading_call, prototype_call, block_call, named_block_call, field_call, element_call, Converted, TextAnswer, text_call}
use Rattle.bsii_derived.specs.IndexCalls.{write_index_call, check_index_call, index_field_call, defines_once_call}
use Rattle.bsii_derived.specs.Forecast.{Forecast, forecast_call}
use Rattle.bsii_derived.specs.ForecastClaims.{RepliesAsText, StepsAgree, Roomy, EachCall, NeverFull, Exact}
use Rattle.bsii_derived.specs.WorkedIndex.{save_a}
use Rattle.bsii_derived.specs.WorkedForecast.{small_save}
use Rattle.bsii_derived.proofs.Computes.{computes_forecast}
use Rattle.bsii_derived.proofs.Forecasts.{exact}
use Rattle.bsii_derived.proofs.Roomy.{each_call}

-- ---- refused alike

module _ (claim : RepliesAsText) (words : ℕ) (s out : List ℕ) (x : Fault) where
  pub refused_as_text : forecast_call words s ≡ refuses x → (text_call words s out).reply ≡ refuses x
  refused_as_text e = (((claim words s out).refused x).0 e).0

  pub no_eleven : forecast_call words s ≡ refuses x → x.cause ≡ output_short → ⊥
  no_eleven e = (((claim words s out).refused x).0 e).1

  -- 8 and 9, and every other refusal of the text call but 11
  pub refused_as_foretold : (text_call words s out).reply ≡ refuses x → (x.cause ≡ output_short → ⊥) → forecast_call words s ≡ refuses x
  refused_as_foretold e n = ((claim words s out).refused x).1 (e, n)

  -- and where the forecast answers nothing stops the text but the output
  pub only_the_output : {a : Forecast} → forecast_call words s ≡ gives a → (text_call words s out).reply ≡ refuses x → x.cause ≡ output_short
  only_the_output {a} e z = ap (λ (y : Fault). y.cause) ((claim words s out).short a e x z)

-- ---- agreeing

module _ (claim : StepsAgree) (words : ℕ) (s out : List ℕ) (c : Converted) (e : (text_call words s out).reply ≡ gives c) where
  pub foretold_steps : (words' : ℕ) (a : Forecast) → forecast_call words' s ≡ gives a → c.steps ≡ a.steps
  foretold_steps words' a z = let x : a.steps ≡ c.steps = ((claim.converts s c).agree words out e words' a z).1 in omega arith

  pub foretold_length : (words' : ℕ) (a : Forecast) → forecast_call words' s ≡ gives a → c.size ≡ a.text_length
  foretold_length words' a z = let x : a.text_length ≡ c.size = ((claim.converts s c).agree words out e words' a z).0 in omega arith

  -- the steps are foretold at all, and are few
  pub told_and_few : (a : Forecast) × (forecast_call words s ≡ gives a) × (a.steps ≤ length s)
  told_and_few = let (a, z) = (claim.converts s c).told words out e in (a, z, claim.few words s a z)

  pub few_made_law : c.steps ≤ length s
  few_made_law = claim.few_made words s out c e

-- ---- no 10

module _ (claim : NeverFull) (s : List ℕ) where
  -- fewer than 34 bytes, whatever they are: three words do
  pub one_prototype : length s < 34 → (k : ℕ) (name : List ℕ) (x : Fault) → field_call 3 s k name ≡ refuses x → x.cause ≡ table_full → ⊥
  one_prototype h k name x e = claim.by_length.field k name 3 s (omega arith) x e

  -- and so do more words, for check and for the forecast itself
  pub any_more : (n : ℕ) (x : Fault) → forecast_call (3 * (length s / 17) + n) s ≡ refuses x → x.cause ≡ table_full → ⊥
  any_more n x e = claim.by_length.forecast (3 * (length s / 17) + n) s (omega arith) x e

  pub check_any_more : (w n : ℕ) (i : List ℕ) (x : Fault) → check_index_call w (3 * (length s / 17) + n) s i ≡ refuses x → x.cause ≡ table_full → ⊥
  check_any_more w n i x e = claim.by_length.check_index w i (3 * (length s / 17) + n) s (omega arith) x e

  -- with the words of a forecast that was made with another table, and with more
  pub foretold_words : (known : ℕ) (a : Forecast) → forecast_call known s ≡ gives a → (n : ℕ) (x : Fault) → reading_call (a.table_words + n) s ≡ refuses x → x.cause ≡ table_full → ⊥
  foretold_words known a e n x z = claim.by_forecast.reading known s a e (a.table_words + n) (omega arith) x z

  pub foretold_writes : (known : ℕ) (a : Forecast) → forecast_call known s ≡ gives a → (w n : ℕ) (space : List ℕ) (x : Fault)
      → (write_index_call w (a.table_words + n) s space).reply ≡ refuses x → x.cause ≡ table_full → ⊥
  foretold_writes known a e w n space x z = claim.by_forecast.write_index w space known s a e (a.table_words + n) (omega arith) x z

-- ---- the same of every call, written out

-- no call that takes a table is refused with x
abbrev NoneRefused : ℕ → List ℕ → Fault → Type 0
NoneRefused words s x =
    (reading_call words s ≡ refuses x → ⊥) × ((n : ℕ) → prototype_call words s n ≡ refuses x → ⊥) × ((k : ℕ) → block_call words s k ≡ refuses x → ⊥)
    × ((name : List ℕ) (n : ℕ) → named_block_call words s name n ≡ refuses x → ⊥) × ((k : ℕ) (name : List ℕ) → field_call words s k name ≡ refuses x → ⊥)
    × ((out : List ℕ) → (text_call words s out).reply ≡ refuses x → ⊥) × ((w : ℕ) (space : List ℕ) → (write_index_call w words s space).reply ≡ refuses x → ⊥)
    × ((w : ℕ) (i : List ℕ) → check_index_call w words s i ≡ refuses x → ⊥) × (defines_once_call words s ≡ refuses x → ⊥) × (forecast_call words s ≡ refuses x → ⊥)

none_refused : (words : ℕ) (s : List ℕ) → EachCall (λ A call. Roomy (call words s)) → (x : Fault) → x.cause ≡ table_full → NoneRefused words s x
none_refused words s e x h = (
  (λ z. e.reading x z h),
  (λ n z. e.prototype n x z h),
  (λ k z. e.block k x z h),
  (λ name n z. e.named_block name n x z h),
  (λ k name z. e.field k name x z h),
  (λ out z. e.text out x z h),
  (λ w space z. e.write_index w space x z h),
  (λ w i z. e.check_index w i x z h),
  (λ z. e.defines_once x z h),
  (λ z. e.forecast x z h),
)

module _ (claim : NeverFull) (words : ℕ) (s : List ℕ) (x : Fault) (ten : x.cause ≡ table_full) where
  pub none_by_length : 3 * (length s / 17) ≤ words → NoneRefused words s x
  none_by_length h = none_refused words s (each_call (λ A call f. f words s h) claim.by_length) x ten

  pub none_by_forecast : (known : ℕ) (a : Forecast) → forecast_call known s ≡ gives a → a.table_words ≤ words → NoneRefused words s x
  none_by_forecast known a e h = none_refused words s (each_call (λ A call f. f known s a e words h) claim.by_forecast) x ten

  -- those that take none
  pub none_without_a_table : ((w : ℕ) (i : List ℕ) (k : ℕ) (name : List ℕ) → index_field_call w s i k name ≡ refuses x → ⊥) × ((version t i : ℕ) → element_call version t s i ≡ refuses x → ⊥)
  none_without_a_table = ((λ w i k name z. claim.index_field w s i k name x z ten), (λ version t i z. claim.element version t s i x z ten))

-- ---- no 11, and either with less

module _ (claim : Exact) (s i : List ℕ) (x : Fault) (eleven : x.cause ≡ output_short) where
  pub no_space_asked : ((w words : ℕ) → check_index_call w words s i ≡ refuses x → ⊥) × ((w k : ℕ) (name : List ℕ) → index_field_call w s i k name ≡ refuses x → ⊥)
  no_space_asked = ((λ w words z. claim.check_index w words s i x z eleven), (λ w k name z. claim.index_field w s i k name x z eleven))

module _ (claim : Exact) (words : ℕ) (s : List ℕ) (a : Forecast) (e : forecast_call words s ≡ gives a) where
  pub converts_in : (n : ℕ) (out : List ℕ) → a.text_length ≤ length out → (text_call (a.table_words + n) s out).reply ≡ gives (record { size = a.text_length; steps = a.steps })
  converts_in n out h = (claim.enough words s a e).text (a.table_words + n) out (omega arith) h

  pub indexes_in : (n : ℕ) (space : List ℕ) → a.index_length ≤ length space → (write_index_call 3 (a.table_words + n) s space).reply ≡ gives a.index_length
  indexes_in n space h = (claim.enough words s a e).write_index (a.table_words + n) space (omega arith) h

  -- one word fewer, and none
  pub one_word_fewer : (n : ℕ) → a.table_words ≡ suc n → (out : List ℕ) → (x : ℕ) × ((text_call n s out).reply ≡ refusal table_full x)
  one_word_fewer n h out = let (x, z) = (claim.needed words s a e).table n out (omega arith) in (x, ap (λ (y : TextAnswer). y.reply) z)

  pub no_words : 0 < a.table_words → (out : List ℕ) → (x : ℕ) × ((text_call 0 s out).reply ≡ refusal table_full x)
  no_words h out = let (x, z) = (claim.needed words s a e).table 0 out h in (x, ap (λ (y : TextAnswer). y.reply) z)

  -- one byte fewer, and none
  pub one_byte_fewer : (out : List ℕ) → a.text_length ≡ suc (length out) → (n : ℕ) → (text_call (a.table_words + n) s out).reply ≡ refusal output_short 0
  one_byte_fewer out h n = ap (λ (y : TextAnswer). y.reply) ((claim.needed words s a e).output (a.table_words + n) out (omega arith) (omega arith))

  pub no_bytes : 0 < a.text_length → text_call a.table_words s [] ≡ record { reply = refusal output_short 0; needed = a.text_length; output = [] }
  no_bytes h = (claim.needed words s a e).output a.table_words [] (omega arith) h

-- ---- three words for each whole 17 bytes: a file that is refused with one word fewer

pub no_word_too_many : (length small_save ≡ 47) × (3 * (47 / 17) ≡ 6) × (reading_call 5 small_save ≡ refusal table_full 25)
unfolding computes_forecast small_save
no_word_too_many = (refl, refl, refl)

-- ---- save A, whatever is lent

abbrev forecast_a : Forecast
forecast_a = record { table_words = 3; text_length = 50; index_length = 24; largest_block = 15; steps = 6 }

told_a : forecast_call 3 save_a ≡ gives forecast_a
unfolding computes_forecast save_a
told_a = refl

pub A_converts : (words : ℕ) (out : List ℕ) → 3 ≤ words → 50 ≤ length out → (text_call words save_a out).reply ≡ gives (record { size = 50; steps = 6 })
A_converts = (exact.enough 3 save_a forecast_a told_a).text

pub A_starves : (words : ℕ) (out : List ℕ) → words < 3 → (x : ℕ) × (text_call words save_a out ≡ record { reply = refusal table_full x; needed = 0; output = out })
A_starves = (exact.needed 3 save_a forecast_a told_a).table

pub A_asks : (words : ℕ) (out : List ℕ) → 3 ≤ words → length out < 50 → text_call words save_a out ≡ record { reply = refusal output_short 0; needed = 50; output = out }
A_asks = (exact.needed 3 save_a forecast_a told_a).output
