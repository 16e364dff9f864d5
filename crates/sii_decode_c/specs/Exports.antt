-- The C structs of the answers: number 0 and the answer, or a refusal's number, offset and lacking bytes and nothing else.
use Rattle.std.specs.Prelude.{ℕ}
use Rattle.bsii_format.specs.Replies.{number_of, Reply, gives, refuses}
use Rattle.bsii_format.specs.Calls.{Reading, PrototypeAnswer, BlockAnswer, FieldAnswer, WriteAnswer, Converted, TextAnswer}
use Rattle.bsii_derived.specs.Forecast.{Forecast}
use Rattle.sii_decode_c.specs.declared.calls.SiiReading.{SiiReading}
use Rattle.sii_decode_c.specs.declared.calls.SiiPrototype.{SiiPrototype}
use Rattle.sii_decode_c.specs.declared.calls.SiiBlock.{SiiBlock}
use Rattle.sii_decode_c.specs.declared.calls.SiiNumber.{SiiNumber}
use Rattle.sii_decode_c.specs.declared.calls.SiiField.{SiiField}
use Rattle.sii_decode_c.specs.declared.calls.SiiText.{SiiText}
use Rattle.sii_decode_c.specs.declared.index.SiiLength.{SiiLength}
use Rattle.sii_decode_c.specs.declared.index.SiiChecked.{SiiChecked}
use Rattle.sii_decode_c.specs.declared.forecast.SiiForecast.{SiiForecast}

abbrev pub reading_out : Reply Reading → SiiReading
reading_out (gives a) = record { number = 0; offset = 0; lacking = 0; prototypes = a.prototypes; blocks = a.blocks; next = a.next }
reading_out (refuses f) = record { number = number_of f.cause; offset = f.offset; lacking = f.lacking; prototypes = 0; blocks = 0; next = 0 }

abbrev pub prototype_out : Reply PrototypeAnswer → SiiPrototype
prototype_out (gives a) = record { number = 0; offset = 0; lacking = 0; name_offset = a.name.offset; name_len = a.name.size; fields = a.fields }
prototype_out (refuses f) = record { number = number_of f.cause; offset = f.offset; lacking = f.lacking; name_offset = 0; name_len = 0; fields = 0 }

abbrev pub block_out : Reply BlockAnswer → SiiBlock
block_out (gives a) = record { number = 0; offset = 0; lacking = 0; prototype_id = a.prototype_id; id_offset = a.id.offset; id_len = a.id.size }
block_out (refuses f) = record { number = number_of f.cause; offset = f.offset; lacking = f.lacking; prototype_id = 0; id_offset = 0; id_len = 0 }

abbrev pub number_out : Reply ℕ → SiiNumber
number_out (gives n) = record { number = 0; offset = 0; lacking = 0; value = n }
number_out (refuses f) = record { number = number_of f.cause; offset = f.offset; lacking = f.lacking; value = 0 }

-- the part's bytes stay in the caller's file: only their place goes out
abbrev pub field_out : Reply FieldAnswer → SiiField
field_out (gives a) = record { number = 0; offset = 0; lacking = 0; type_id = a.type_id; part_offset = a.part.offset; part_len = a.part.size }
field_out (refuses f) = record { number = number_of f.cause; offset = f.offset; lacking = f.lacking; type_id = 0; part_offset = 0; part_len = 0 }

abbrev pub text_length : Reply Converted → ℕ → SiiText
text_length (gives a) needed = record { number = 0; offset = 0; lacking = 0; length = a.size; steps = a.steps }
text_length (refuses f) needed = record { number = number_of f.cause; offset = f.offset; lacking = f.lacking; length = needed; steps = 0 }

-- the text's length and the steps; of a text longer than the output the needed length, and of any other refusal 0
abbrev pub text_out : TextAnswer → SiiText
text_out a = text_length a.reply a.needed

-- the index's length, likewise
abbrev pub index_length : Reply ℕ → ℕ → SiiLength
index_length (gives n) needed = record { number = 0; offset = 0; lacking = 0; length = n }
index_length (refuses f) needed = record { number = number_of f.cause; offset = f.offset; lacking = f.lacking; length = needed }

abbrev pub length_out : WriteAnswer ℕ → SiiLength
length_out a = index_length a.reply a.needed

abbrev pub checked_out : Reply (Unit {0}) → SiiChecked
checked_out (gives u) = record { number = 0; offset = 0; lacking = 0 }
checked_out (refuses f) = record { number = number_of f.cause; offset = f.offset; lacking = f.lacking }

abbrev pub forecast_out : Reply Forecast → SiiForecast
forecast_out (gives a) = record {
  number = 0;
  offset = 0;
  lacking = 0;
  table_words = a.table_words;
  text_len = a.text_length;
  index_len = a.index_length;
  largest_block = a.largest_block;
  steps = a.steps;
}
forecast_out (refuses f) = record {
  number = number_of f.cause;
  offset = f.offset;
  lacking = f.lacking;
  table_words = 0;
  text_len = 0;
  index_len = 0;
  largest_block = 0;
  steps = 0;
}
