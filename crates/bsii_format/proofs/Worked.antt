-- Document 01's worked bytes, by computation.
use mathlib.Core.Path.{◌≡◌, refl}
use Prim.Native.Nat.{ℕ}
use mathlib.Core.List.{List}
use lib.ListN.{length}
use lib.Ieee.{of_bits, to_bits, add, of_int, to_signed, is_nan}
use Rattle.bsii_format.specs.Replies.{gives, refusal, table_full}
use Rattle.bsii_format.specs.Reader.{after, ◌>>=◌, success, fail, ◌<$>◌, bytes, exhausted, verify, consumed, repeat, same, tag}
use Rattle.bsii_format.specs.Numbers.{little_endian, number, signed}
use Rattle.bsii_format.specs.Utf8.{within, table3_7, trail_of, step, steps, complete, utf8}
use Rattle.bsii_format.specs.Strings.{str_parser, char_encodings, digit_then, base38_from, base38, is_some, spelled, characters, low63, encoded_str_parser, id_parser}
use Rattle.bsii_format.specs.Types.{width, arity, placement_in, type_table, shape_in, shape_of}
use Rattle.bsii_format.specs.Values.{element_parser, shape_parser, value_parser}
use Rattle.bsii_format.specs.Prototypes.{enum_value_parser, enum_values_parser, value_prototype_parser, cons_field, fields_then, fields_from, fields_parser}
use Rattle.bsii_format.specs.Blocks.{find_by, data_value, data_value_parser, data_values_parser}
use Rattle.bsii_format.specs.File.{mark_parser, head_parser, prototype_step, block_step, data_block_parser, step_parser, record_parser, define, distinct_ids, has_room, cons_record, records_then, records_from, records_parser, header_parser, bsii_file, bsii_parser, parse, fields_bytes, values_bytes, record_bytes, records_bytes, file_bytes, define_all, prototypes_of}
use Rattle.bsii_format.specs.Digits.{digit, digits_from, digits, hex_padded, decimal_int}
use Rattle.bsii_format.specs.Floats.{bits_text, minus_if, float_text_of, float_text, vec2_text, vec3_text, vec4_text, floor_mod, floor_div, coefficient, sector_offset, quieted, sector_sum, placement_text, vec7_text}
use Rattle.bsii_format.specs.Text.{is_bare, all_bare, escaped, string_text, or_empty, encoded_string_text, groups, dotted, id_text, or_nil, bool_text, first_some, enum_string, numeric_text, element_text, field_line, indexed, append, element_lines, value_text}
use Rattle.bsii_format.specs.BlockText.{joined, or_refuse, block_opening, closing, file_opening, values_offset, fields_text, block_text, records_text, file_text}
use Rattle.bsii_format.specs.Calls.{of_file, placed, placed_records, cons_block, blocks_in, cons_prototype, prototypes_in, blocks_of, reading_of, reading_call, prototype_answer, prototype_of, prototype_call, block_answer, block_call, is_named, numbers_named, blocks_by_prototype_name, named_block_call, field_index, at_index, field_under, field_in, field_answer, field_of, field_call, part_of, nonzero, numeric_datum, datum_of, datum, elements_of, of_value, element_call, text_of, record_steps, records_steps, steps_of, steps_in, write_answer, text_call, printed, of_size, program}
use Rattle.bsii_format.specs.Worked.{le, worked_file, worked_text, Hold, single_text, starred}

-- opens every definition: a proof that names it on its unfolding line computes
unfoldable pub computes : List ℕ → List ℕ
unfolding after ◌>>=◌ success fail ◌<$>◌ bytes exhausted verify consumed repeat same tag little_endian number signed within table3_7 trail_of step steps complete utf8 str_parser char_encodings digit_then base38_from base38 is_some spelled characters low63 encoded_str_parser id_parser width arity placement_in type_table shape_in shape_of element_parser shape_parser value_parser enum_value_parser enum_values_parser value_prototype_parser cons_field fields_then fields_from fields_parser find_by data_value data_value_parser data_values_parser mark_parser head_parser prototype_step block_step data_block_parser step_parser record_parser define distinct_ids has_room cons_record records_then records_from records_parser header_parser bsii_file bsii_parser parse fields_bytes values_bytes record_bytes records_bytes file_bytes define_all prototypes_of digit digits_from digits hex_padded decimal_int bits_text minus_if float_text_of float_text vec2_text vec3_text vec4_text floor_mod floor_div coefficient sector_offset quieted sector_sum placement_text vec7_text is_bare all_bare escaped string_text or_empty encoded_string_text groups dotted id_text or_nil bool_text first_some enum_string numeric_text element_text field_line indexed append element_lines value_text joined or_refuse block_opening closing file_opening values_offset fields_text block_text records_text file_text of_file placed placed_records cons_block blocks_in cons_prototype prototypes_in blocks_of reading_of reading_call prototype_answer prototype_of prototype_call block_answer block_call is_named numbers_named blocks_by_prototype_name named_block_call field_index at_index field_under field_in field_answer field_of field_call part_of nonzero numeric_datum datum_of datum elements_of of_value element_call text_of record_steps records_steps steps_of steps_in write_answer text_call printed of_size program le worked_file worked_text single_text starred of_bits to_bits add of_int to_signed is_nan
computes s = s

pub worked_length : length worked_file ≡ 82
unfolding computes
worked_length = refl

pub worked_text_length : length worked_text ≡ 73
unfolding computes
worked_text_length = refl

-- the 82 bytes give the 73 bytes, with the program's table
pub worked : program worked_file ≡ worked_text
unfolding computes
worked = refl

-- a table without room for the one prototype: 10 at its first byte
pub worked_full : text_of 2 worked_file ≡ refusal table_full 8
unfolding computes
worked_full = refl

-- and one with exactly that room
pub worked_exactly : text_of 3 worked_file ≡ gives worked_text
unfolding computes
worked_exactly = refl

-- every case marked * of document 01
pub starred_hold : Hold starred
unfolding computes
starred_hold = refl
