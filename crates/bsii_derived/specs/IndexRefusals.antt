-- Which refusals each index call gives: document 02, E1, E2 and E12; FORMAT.md, "The index". proofs/IndexRefusals.antt shows that it gives these, each of
-- them for a worked question, and no others.
use Rattle.std.specs.Prelude.{List, [], ◌∷◌, ◌++◌}
use Rattle.bsii_format.specs.declared.Cause.{Cause}
use Rattle.bsii_format.specs.Replies.{malformed, not_utf8, zero_digit, undefined_prototype, unlisted_type, output_short, input_long, absent, misfit}
use Rattle.bsii_format.specs.Refusals.{file_numbers}

-- the file's, and 11
abbrev pub write_numbers : List Cause
write_numbers = file_numbers ++ (output_short ∷ [])

-- the file's, and 14
abbrev pub check_numbers : List Cause
check_numbers = file_numbers ++ (misfit ∷ [])

-- 12, 13, 3 to 7: the header's first bytes are not read, so no 1; a bad mark is 6, so no 15; there is no table, so no 10
abbrev pub index_field_numbers : List Cause
index_field_numbers = input_long ∷ absent ∷ malformed ∷ not_utf8 ∷ zero_digit ∷ undefined_prototype ∷ unlisted_type ∷ []

abbrev pub once_numbers : List Cause
once_numbers = file_numbers
