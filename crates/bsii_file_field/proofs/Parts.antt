-- The part of any call that answers with a field.
use mathlib.Core.Path.{◌≡◌, ap}
use mathlib.Core.List.{List, []}
use Prim.Native.Nat.{ℕ}
use lib.ListN.{take, drop}
use Rattle.std.specs.Prelude.{Ok, Err}
use Rattle.bsii_format.specs.Replies.{Reply}
use Rattle.bsii_format.specs.Calls.{FieldAnswer, part_of}
use Rattle.bsii_string.specs.declared.answers.Refusal.{Refusal}
use Rattle.bsii_file_field.specs.Answers.{field_is}
use Rattle.bsii_file_field.specs.declared.answers.Field.{Field}

module _ (s : List ℕ) {q : Reply FieldAnswer} where
  pub part_none : {f : Refusal} → field_is s (Err f) ≡ q → [] ≡ part_of q
  unfolding part_of
  part_none h = ap part_of h

  pub part_is : {f : Field} → field_is s (Ok f) ≡ q → take f.part_size (drop f.part s) ≡ part_of q
  unfolding part_of
  part_is h = ap part_of h
