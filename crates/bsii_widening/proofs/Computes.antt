-- Opens every definition, those of the format too: a proof that names `computes_all` on its unfolding line computes.
use Prim.Native.Nat.{ℕ}
use mathlib.Core.List.{List}
use Rattle.bsii_format.specs.WorkedCalls.{triples_part, quadruple_part, vectors_file, vectors_text, seven_part, seven_file, seven_text, sevens_part}
use Rattle.bsii_format.proofs.Worked.{computes}
use Rattle.bsii_widening.specs.Marks.{unmark, map_mark, all, olds, new_records, old_records, as_old, mark_prototype, mark_block, mark_record, mark_records}
use Rattle.bsii_widening.specs.Insertions.{insert_at, insert_if, insert_field, insert, insert_all, numeric_listed, element_listed, has_name, defines_id}
use Rattle.bsii_widening.specs.Parts.{concat, or_nothing, marked_prototypes, lines_of, field_parts, block_parts, record_parts, text_parts, renumber, inserted_prototypes, inserted_blocks}
use Rattle.bsii_widening.specs.Claim.{widened, new_file, first_carried}
use Rattle.bsii_widening.specs.Written.{whole, or_none, definition_of, value_of, step_prototype, step_block, made, made_all}
use Rattle.bsii_widening.specs.Example.{file_of, old_file, enum_field, extra_prototype, extra_block, additions, additions_text, unlisted_field, any_bytes, after_unlisted, unused}
use Rattle.bsii_widening.specs.EveryType.{definition_bytes, element_bytes, shape_bytes, value_bytes, every_field, every_record}
use Rattle.bsii_widening.specs.Vectors.{defined_file, defined_save, first_block}
use Rattle.bsii_widening.specs.Sevens.{seven_save, array_field, sevens, widened_text, eight}
use Rattle.bsii_widening.proofs.Equal.{number_test, through_test, pair_test, same_items, list_test, bytes_test, consumed_test, enum_pair_test, definition_test, id_code, id_of, id_test, kind_number, element_code, id_from, element_of, elements_test, value_code, prototype_test, block_test, value_test}
use Rattle.bsii_widening.proofs.Decided.{is_read, is_definition, is_prototype, is_block, elements_listed, enum_listed, enums_listed, definition_allowed, value_allowed, values_allowed, is_none, last_listed, allowed_one, allowed}

unfoldable pub computes_all : List ℕ → List ℕ
unfolding computes unmark map_mark all olds new_records old_records as_old mark_prototype mark_block mark_record mark_records insert_at insert_if insert_field insert insert_all numeric_listed element_listed has_name defines_id concat or_nothing marked_prototypes lines_of field_parts block_parts record_parts text_parts renumber inserted_prototypes inserted_blocks widened new_file first_carried whole or_none definition_of value_of step_prototype step_block made made_all file_of old_file enum_field extra_prototype extra_block additions additions_text unlisted_field any_bytes after_unlisted unused definition_bytes element_bytes shape_bytes value_bytes every_field every_record triples_part quadruple_part vectors_file vectors_text defined_file defined_save first_block seven_part seven_file seven_text sevens_part seven_save array_field sevens widened_text eight number_test through_test pair_test same_items list_test bytes_test consumed_test enum_pair_test definition_test id_code id_of id_test kind_number element_code id_from element_of elements_test value_code prototype_test block_test value_test is_read is_definition is_prototype is_block elements_listed enum_listed enums_listed definition_allowed value_allowed values_allowed is_none last_listed allowed_one allowed
computes_all s = s
