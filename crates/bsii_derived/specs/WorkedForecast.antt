-- What the forecast and the conversion answer for small files: FORMAT.md, "The forecast". A case is a line, its answer read off document 02;
-- proofs/WorkedForecast.antt computes them.
use Rattle.std.specs.Prelude.{ℕ, List, [], ◌∷◌, ◌++◌, take, set, replicate}
use Rattle.bsii_format.specs.Ascii.{ascii}
use Rattle.bsii_format.specs.Replies.{Reply, gives, refusal, field_count, enum_value, table_full, output_short, bad_mark}
use Rattle.bsii_format.specs.Worked.{le, u32, u64, Fact, ◌says◌}
use Rattle.bsii_format.specs.WorkedCalls.{string, definition, prototype_record, file_with, redefined_file, recounted_file, twin_file, unlisted_enum_file, seven_file, twice_file, lacks, written, unwritten}
use Rattle.bsii_format.specs.Calls.{TextAnswer, text_call}
use Rattle.bsii_derived.specs.Forecast.{Forecast, forecast_call}
use Rattle.bsii_derived.specs.WorkedIndex.{n_field, save_a}

-- 103 bytes: prototype 3, `t` with a u16 `n`, a bool array `f` and a string `s`; its blocks `null` at 53, of 21 bytes, and `x` at 74, of 25
unfoldable pub haul_save : List ℕ
haul_save =
    file_with (
    prototype_record 3 (ascii "t") (definition 0x2b (ascii "n") ++ definition 0x36 (ascii "f") ++ definition 0x01 (ascii "s"))
    ++ u32 3 ++ le 1 0 ++ le 2 5 ++ u32 2 ++ le 2 1 ++ string (le 1 0x61 ++ le 1 9 ++ le 1 0x62)
    ++ u32 3 ++ le 1 1 ++ u64 0x22 ++ le 2 0xffff ++ u32 0 ++ string (ascii "ok")
    )

-- save A with its blocks the other way round, the larger one in front
unfoldable pub turned_a : List ℕ
turned_a = file_with (prototype_record 3 (ascii "t") n_field ++ u32 3 ++ le 1 1 ++ u64 0x22 ++ le 2 7 ++ u32 3 ++ le 1 0 ++ le 2 5)

-- two prototypes of 17 bytes, without a name and without fields, at 8 and at 25: 47 bytes in all
unfoldable pub small_save : List ℕ
small_save = file_with (prototype_record 1 [] [] ++ prototype_record 2 [] [])

abbrev pub needs : ℕ → ℕ → ℕ → ℕ → ℕ → Reply Forecast
needs table text index largest steps = gives (record { table_words = table; text_length = text; index_length = index; largest_block = largest; steps = steps })

-- ---- the first argument of a call is the number of table words

unfoldable pub forecasts : List (Fact (Reply Forecast))
forecasts =
    forecast_call 3 save_a says needs 3 50 24 15 6 ∷
    forecast_call 2 save_a says refusal table_full 8 ∷
    forecast_call 9 save_a says needs 3 50 24 15 6 ∷
    forecast_call 3 turned_a says needs 3 50 24 15 6 ∷
    forecast_call 3 haul_save says needs 3 115 24 25 10 ∷
    forecast_call 0 (file_with []) says needs 0 13 0 0 1 ∷
    forecast_call 3 redefined_file says needs 3 33 12 9 5 ∷
    forecast_call 3 (twice_file [] []) says needs 3 53 24 9 7 ∷
    forecast_call 3 (seven_file 1) says needs 3 73 12 33 4 ∷
    forecast_call 6 small_save says needs 6 13 0 0 3 ∷
    forecast_call 5 small_save says refusal table_full 25 ∷
    forecast_call 8 twin_file says refusal table_full 83 ∷
    forecast_call 3 recounted_file says refusal field_count 44 ∷
    forecast_call 3 unlisted_enum_file says refusal enum_value 65 ∷
    forecast_call 3 (set save_a 12 2) says refusal bad_mark 12 ∷
    forecast_call 3 (take 61 save_a) says lacks 61 1 ∷ []

unfoldable pub conversions : List (Fact TextAnswer)
conversions =
    text_call 3 save_a (replicate 51 1) says written 6 (ascii "SiiNunit\n{\nt : null {\n  n: 5\n}\nt : x {\n  n: 7\n}\n}\n") (1 ∷ []) ∷
    text_call 3 save_a (replicate 50 1) says written 6 (ascii "SiiNunit\n{\nt : null {\n  n: 5\n}\nt : x {\n  n: 7\n}\n}\n") [] ∷
    text_call 3 save_a (replicate 49 1) says unwritten output_short 0 50 (replicate 49 1) ∷
    text_call 2 save_a (replicate 50 1) says unwritten table_full 8 0 (replicate 50 1) ∷ []
