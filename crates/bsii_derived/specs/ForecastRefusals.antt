-- Which refusals the forecast gives: document 02, E6, "the text call's replies except 11"; FORMAT.md, "The forecast".
use Rattle.std.specs.Prelude.{List, [], ◌∷◌, ◌++◌}
use Rattle.bsii_format.specs.declared.Cause.{Cause}
use Rattle.bsii_format.specs.Replies.{field_count, enum_value}
use Rattle.bsii_format.specs.Refusals.{file_numbers}

-- the file's, 8 and 9
abbrev pub forecast_numbers : List Cause
forecast_numbers = file_numbers ++ (field_count ∷ enum_value ∷ [])
