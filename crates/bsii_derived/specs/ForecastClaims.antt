-- What is promised of a forecast: document 02, E6. Theorems about the calls' own definitions, for every file and every size of what is lent.
use Rattle.std.specs.Prelude.{◌≡◌, ◌↔◌, ℕ, ◌*◌, ◌/◌, ◌≤◌, ◌<◌, List, length}
use Rattle.bsii_format.specs.Replies.{Fault, Reply, gives, refuses, refusal, table_full, output_short}
use Rattle.bsii_format.specs.File.{BsiiFile, parse}
use Rattle.bsii_format.specs.Calls.{of_file, Reading, reading_call, PrototypeAnswer, prototype_call, BlockAnswer, block_call, named_block_call, FieldAnswer, field_call, element_call, Converted, text_call}
use Rattle.bsii_derived.specs.Index.{index_width}
use Rattle.bsii_derived.specs.IndexCalls.{write_index_call, check_index_call, index_field_call, defines_once_call}
use Rattle.bsii_derived.specs.Forecast.{Forecast, forecast_call}

-- ---- "gives the text call's replies except 11"

-- with the same table, whatever the output: a forecast is refused exactly as the text call is, but for 11, and answers where the text is given or too long
pub record AsText (words : ℕ) (s out : List ℕ) : Type 0 where
  pub refused : (x : Fault) → (forecast_call words s ≡ refuses x) ↔ (((text_call words s out).reply ≡ refuses x) × (x.cause ≡ output_short → ⊥))
  pub short : (a : Forecast) → forecast_call words s ≡ gives a → (x : Fault) → (text_call words s out).reply ≡ refuses x → x ≡ record { cause = output_short; offset = 0; lacking = 0 }

abbrev pub RepliesAsText : Type 0
RepliesAsText = (words : ℕ) (s out : List ℕ) → AsText words s out

-- ---- "For every save that converts, the two agree, and the steps are at most the file's length."

-- the conversion with a table is foretold with the same one, and with every other one with which there is a forecast
pub record ToldOf (s : List ℕ) (c : Converted) : Type 0 where
  pub told : (words : ℕ) (out : List ℕ) → (text_call words s out).reply ≡ gives c → (a : Forecast) × (forecast_call words s ≡ gives a)
  pub agree : (words : ℕ) (out : List ℕ) → (text_call words s out).reply ≡ gives c → (words' : ℕ) (a : Forecast) → forecast_call words' s ≡ gives a
      → (a.text_length ≡ c.size) × (a.steps ≡ c.steps)

pub record StepsAgree : Type 0 where
  pub converts : (s : List ℕ) (c : Converted) → ToldOf s c
  pub few : (words : ℕ) (s : List ℕ) (a : Forecast) → forecast_call words s ≡ gives a → a.steps ≤ length s
  pub few_made : (words : ℕ) (s out : List ℕ) (c : Converted) → (text_call words s out).reply ≡ gives c → c.steps ≤ length s

-- ---- 10: "three words for each whole 17 bytes of the file always do"; "With lent sizes at least as large as foretold, no call gives 10"

-- no reply 10
abbrev pub Roomy : {A : Type 0} → Reply A → Type 0
Roomy q = (x : Fault) → q ≡ refuses x → x.cause ≡ table_full → ⊥

-- a call that reads the whole file first: `answer` is what it makes of a file that was read, and of the offset behind its end record
pub record ReadsFirst {A : Type 0} (call : ℕ → List ℕ → Reply A) : Type 0 where
  pub answer : BsiiFile → ℕ → Reply A
  pub reads : (words : ℕ) (s : List ℕ) → call words s ≡ of_file answer (parse words s)
  pub roomy : (f : BsiiFile) (at : ℕ) → Roomy (answer f at)

-- every call that takes a table, as a function of its words and of the file
pub record EachCall (P : (A : Type 0) → (ℕ → List ℕ → Reply A) → Type 0) : Type 0 where
  pub reading : P Reading reading_call
  pub prototype : (n : ℕ) → P PrototypeAnswer (λ words s. prototype_call words s n)
  pub block : (k : ℕ) → P BlockAnswer (λ words s. block_call words s k)
  pub named_block : (name : List ℕ) (n : ℕ) → P ℕ (λ words s. named_block_call words s name n)
  pub field : (k : ℕ) (name : List ℕ) → P FieldAnswer (λ words s. field_call words s k name)
  pub text : (out : List ℕ) → P Converted (λ words s. (text_call words s out).reply)
  pub write_index : (w : ℕ) (space : List ℕ) → P ℕ (λ words s. (write_index_call w words s space).reply)
  pub check_index : (w : ℕ) (i : List ℕ) → P (Unit {0}) (λ words s. check_index_call w words s i)
  pub defines_once : P ℕ defines_once_call
  pub forecast : P Forecast forecast_call

-- for every file, accepted or not: a prototype has at least 17 bytes
abbrev pub ByLength : {A : Type 0} → (ℕ → List ℕ → Reply A) → Type 0
ByLength call = (words : ℕ) (s : List ℕ) → 3 * (length s / 17) ≤ words → Roomy (call words s)

abbrev pub ByForecast : {A : Type 0} → (ℕ → List ℕ → Reply A) → Type 0
ByForecast call = (known : ℕ) (s : List ℕ) (a : Forecast) → forecast_call known s ≡ gives a → (words : ℕ) → a.table_words ≤ words → Roomy (call words s)

pub record NeverFull : Type 0 where
  pub by_length : EachCall (λ A call. ByLength call)
  pub by_forecast : EachCall (λ A call. ByForecast call)
  -- and no call without a table gives 10
  pub index_field : (w : ℕ) (s i : List ℕ) (k : ℕ) (name : List ℕ) → Roomy (index_field_call w s i k name)
  pub element : (version t : ℕ) (s : List ℕ) (i : ℕ) → Roomy (element_call version t s i)

-- ---- 11 and 10: "no text or index call 11"; "for a save that converts with them, the text call gives one with any smaller table or output"

-- with at least the words and bytes of the forecast
pub record Enough (s : List ℕ) (a : Forecast) : Type 0 where
  pub text : (words : ℕ) (out : List ℕ) → a.table_words ≤ words → a.text_length ≤ length out → (text_call words s out).reply ≡ gives (record { size = a.text_length; steps = a.steps })
  pub write_index : (words : ℕ) (space : List ℕ) → a.table_words ≤ words → a.index_length ≤ length space → (write_index_call index_width words s space).reply ≡ gives a.index_length

-- with fewer: 10, whatever the output; 11 with the needed length
pub record Needed (s : List ℕ) (a : Forecast) : Type 0 where
  pub table : (words : ℕ) (out : List ℕ) → words < a.table_words → (x : ℕ) × (text_call words s out ≡ record { reply = refusal table_full x; needed = 0; output = out })
  pub output : (words : ℕ) (out : List ℕ) → a.table_words ≤ words → length out < a.text_length
      → text_call words s out ≡ record { reply = refusal output_short 0; needed = a.text_length; output = out }

pub record Exact : Type 0 where
  pub enough : (words : ℕ) (s : List ℕ) (a : Forecast) → forecast_call words s ≡ gives a → Enough s a
  pub needed : (words : ℕ) (s : List ℕ) (a : Forecast) → forecast_call words s ≡ gives a → Needed s a
  -- the other index calls have no output
  pub check_index : (w words : ℕ) (s i : List ℕ) (x : Fault) → check_index_call w words s i ≡ refuses x → x.cause ≡ output_short → ⊥
  pub index_field : (w : ℕ) (s i : List ℕ) (k : ℕ) (name : List ℕ) (x : Fault) → index_field_call w s i k name ≡ refuses x → x.cause ≡ output_short → ⊥
