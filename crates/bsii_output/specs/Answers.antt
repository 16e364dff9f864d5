-- What the text call's answer means, and what is written of a file whose figures are known.
use Rattle.std.specs.Prelude.{◌≡◌, ℕ, Bool, List, [], length, Ok, Err, Result as Outcome}
use Rattle.std.proofs.Math.Option.{Option}
use Rattle.bsii_format.specs.Replies.{gives, refuses}
use Rattle.bsii_format.specs.Values.{Value}
use Rattle.bsii_format.specs.Prototypes.{ValuePrototype, Prototype}
use Rattle.bsii_format.specs.Blocks.{DataBlock}
use Rattle.bsii_format.specs.File.{Record}
use Rattle.bsii_format.specs.Calls.{TextAnswer, text_answer}
use Rattle.bsii_string.specs.Answers.{fault_is}
use Rattle.bsii_walk.specs.Seek.{WalkAt}
use Rattle.bsii_forecast.specs.Lengths.{framed_text}
use Rattle.bsii_forecast.specs.declared.answers.Figures.{Figures}
use Rattle.bsii_output.specs.declared.text.Converted.{Converted}
use Rattle.bsii_string.specs.declared.answers.Unwritten.{Unwritten}

-- with the output after the call
abbrev pub text_is : Outcome Converted Unwritten → List ℕ → TextAnswer
text_is (Ok a) output = record { reply = gives (record { size = a.length; steps = a.steps }); needed = 0; output = output }
text_is (Err r) output = record { reply = refuses (fault_is r.refusal); needed = r.needed; output = output }

-- `text` gives the lines of a value: `value_text` in the text call. `prints` tells of a block and the records behind it whether it is in the text:
-- `every_block` in the text call.
module _ (text : ValuePrototype → Value → Option (List ℕ)) (prints : DataBlock → List Record → Bool) where
  -- a text x whose length is foreseen, and the foreseen steps
  pub record TextWritten (a : Figures) (s t old : List ℕ) (r : Outcome Converted Unwritten) (new : List ℕ) : Type 0 where
    pub answers : (rooms : ℕ) (last : List Prototype) (rest : List Record) → WalkAt a.version s rooms a.rows last t 8 [] rest → (x : List ℕ)
        → framed_text text prints last rest ≡ gives x → a.text ≡ length x → text_is r new ≡ text_answer a.steps old (gives x)
