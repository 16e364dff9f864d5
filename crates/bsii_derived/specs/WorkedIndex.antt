-- What the index calls answer for small files: FORMAT.md, "The index". A case is a line, its answer read off document 02; proofs/WorkedIndex.antt computes them.
use Rattle.std.specs.Prelude.{ℕ, List, [], ◌∷◌, ◌++◌, length, take, drop, set, replicate}
use Rattle.bsii_format.specs.Ascii.{ascii}
use Rattle.bsii_format.specs.Replies.{Reply, gives, refusal, not_utf8, zero_digit, undefined_prototype, unlisted_type, table_full, output_short, absent, misfit, bad_mark}
use Rattle.bsii_format.specs.Worked.{le, u32, u64, Fact, ◌says◌}
use Rattle.bsii_format.specs.WorkedCalls.{string, definition, prototype_record, file_with, redefined_file, recounted_file, twin_file, seven_part, seven_file, twice_file, lacks, carries, unwritten}
use Rattle.bsii_format.specs.Calls.{FieldAnswer, part_of, WriteAnswer}
use Rattle.bsii_derived.specs.Index.{index_width}
use Rattle.bsii_derived.specs.IndexCalls.{write_index_call, check_index_call, index_field_call, defines_once_call}

-- ---- files and indexes

-- one u16 `n` for each block
abbrev pub n_field : List ℕ
n_field = definition 0x2b (ascii "n")

-- 62 bytes: prototype 3, `t` with a u16 `n`, at 8; a block `null` with 5 at 35; a block `x` with 7 at 42
unfoldable pub save_a : List ℕ
save_a = file_with (prototype_record 3 (ascii "t") n_field ++ u32 3 ++ le 1 0 ++ le 2 5 ++ u32 3 ++ le 1 1 ++ u64 0x22 ++ le 2 7)

-- the same with a block `null` with 9 in front of the others
unfoldable pub save_b : List ℕ
save_b = file_with (prototype_record 3 (ascii "t") n_field ++ u32 3 ++ le 1 0 ++ le 2 9 ++ u32 3 ++ le 1 0 ++ le 2 5 ++ u32 3 ++ le 1 1 ++ u64 0x22 ++ le 2 7)

-- a string `s` behind `n`, which is no UTF-8 in the block at 44: its byte stands at 55
unfoldable pub bad_string : List ℕ
bad_string = file_with (prototype_record 3 (ascii "t") (n_field ++ definition 0x01 (ascii "s")) ++ u32 3 ++ le 1 0 ++ le 2 5 ++ string (le 1 0xff))

-- a prototype of the id 0, and behind it, at 35, a zero, the end record
unfoldable pub zero_id : List ℕ
zero_id = file_with (prototype_record 0 (ascii "t") n_field)

-- prototype 3 at 8, prototype 4, `u` without fields, at 35; a block of 3 at 53
unfoldable pub two_ids : List ℕ
two_ids = file_with (prototype_record 3 (ascii "t") n_field ++ prototype_record 4 (ascii "u") [] ++ u32 3 ++ le 1 0 ++ le 2 5)

abbrev pub entry : ℕ → ℕ → ℕ → ℕ → List ℕ
entry offset size prototype fields = le 3 offset ++ le 3 size ++ le 3 prototype ++ le 3 fields

-- a record of which only the offsets of block and prototype count
abbrev pub offsets : ℕ → ℕ → List ℕ
offsets block prototype = entry block 0 prototype 0

-- save A's, byte for byte: 35, 7, 8, 1 and 42, 15, 8, 1
unfoldable pub index_a : List ℕ
index_a = 0x23 ∷ 0 ∷ 0 ∷ 7 ∷ 0 ∷ 0 ∷ 8 ∷ 0 ∷ 0 ∷ 1 ∷ 0 ∷ 0 ∷ 0x2a ∷ 0 ∷ 0 ∷ 0x0f ∷ 0 ∷ 0 ∷ 8 ∷ 0 ∷ 0 ∷ 1 ∷ 0 ∷ 0 ∷ []

-- ---- write: the second argument of a call is the number of table words

abbrev pub indexed : List ℕ → List ℕ → WriteAnswer ℕ
indexed i rest = record { reply = gives (length i); needed = 0; output = i ++ rest }

unfoldable pub writes : List (Fact (WriteAnswer ℕ))
writes =
    write_index_call index_width 3 save_a (replicate 25 1) says indexed index_a (1 ∷ []) ∷
    write_index_call 3 3 save_a (replicate 24 1) says indexed index_a [] ∷
    write_index_call 3 3 save_a (replicate 23 1) says unwritten output_short 0 24 (replicate 23 1) ∷
    write_index_call 4 3 save_a (replicate 32 1) says indexed (le 4 35 ++ le 4 7 ++ le 4 8 ++ le 4 1 ++ le 4 42 ++ le 4 15 ++ le 4 8 ++ le 4 1) [] ∷
    write_index_call 3 6 two_ids (replicate 12 1) says indexed (entry 53 7 8 1) [] ∷
    write_index_call 3 3 redefined_file (replicate 12 1) says indexed (entry 35 9 8 1) [] ∷
    write_index_call 3 3 recounted_file (replicate 12 1) says indexed (entry 44 10 8 2) [] ∷
    write_index_call 3 3 (twice_file [] []) (replicate 24 1) says indexed (entry 35 9 8 1 ++ entry 71 9 44 1) [] ∷
    write_index_call 3 0 (file_with []) [] says indexed [] [] ∷
    write_index_call 3 2 save_a [] says unwritten table_full 8 0 [] ∷
    write_index_call 3 3 (take 61 save_a) (1 ∷ []) says record { reply = lacks 61 1; needed = 0; output = 1 ∷ [] } ∷ []

-- ---- check

unfoldable pub checks : List (Fact (Reply (Unit {0})))
checks =
    check_index_call index_width 3 save_a index_a says gives tt ∷
    check_index_call 3 3 save_a (take 23 index_a) says refusal misfit 12 ∷
    check_index_call 3 3 save_a (take 12 index_a) says refusal misfit 12 ∷
    check_index_call 3 3 save_a (index_a ++ le 2 0) says refusal misfit 24 ∷
    check_index_call 3 3 save_a (index_a ++ index_a) says refusal misfit 24 ∷
    check_index_call 3 3 save_a [] says refusal misfit 0 ∷
    check_index_call 3 3 save_a (drop 12 index_a ++ index_a) says refusal misfit 0 ∷
    check_index_call 3 3 save_a (drop 12 index_a ++ take 12 index_a) says refusal misfit 0 ∷
    check_index_call 3 3 save_a (set index_a 3 8) says refusal misfit 0 ∷
    check_index_call 3 3 save_a (set index_a 18 9) says refusal misfit 12 ∷
    check_index_call 3 3 save_a (set index_a 23 1) says refusal misfit 12 ∷
    check_index_call 3 3 save_b index_a says refusal misfit 12 ∷
    check_index_call 3 3 redefined_file (entry 35 9 44 1) says refusal misfit 0 ∷
    check_index_call 3 0 (file_with []) (0 ∷ []) says refusal misfit 0 ∷
    check_index_call 3 3 (take 61 save_a) [] says lacks 61 1 ∷ []

-- ---- look up: block number and name

unfoldable pub looks : List (Fact (Reply FieldAnswer))
looks =
    index_field_call index_width save_a index_a 1 (ascii "n") says carries 0x2b 55 (le 2 7) ∷
    index_field_call 3 save_a index_a 0 (ascii "n") says carries 0x2b 40 (le 2 5) ∷
    index_field_call 3 (file_with (u32 3 ++ le 1 0 ++ le 2 5 ++ prototype_record 3 (ascii "t") n_field)) (offsets 8 15) 0 (ascii "n") says carries 0x2b 13 (le 2 5) ∷
    index_field_call 3 (prototype_record 3 (ascii "t") n_field ++ u32 3 ++ le 1 0 ++ le 2 5) (offsets 27 0) 0 (ascii "n") says carries 0x2b 32 (le 2 5) ∷
    index_field_call 3 save_a index_a 2 (ascii "n") says refusal absent 0 ∷
    index_field_call 3 save_a (take 23 index_a) 1 (ascii "n") says refusal absent 0 ∷
    index_field_call 3 save_a index_a 1 (ascii "zz") says refusal absent 0 ∷
    index_field_call 3 save_a (entry 42 999 8 77) 0 (ascii "n") says carries 0x2b 55 (le 2 7) ∷
    index_field_call 3 save_a (offsets 42 42) 0 (ascii "n") says refusal undefined_prototype 42 ∷
    index_field_call 3 save_a (offsets 60 8) 0 (ascii "zz") says lacks 60 2 ∷
    index_field_call 3 save_a (offsets 35 1000) 0 (ascii "n") says lacks 1000 4 ∷
    index_field_call 3 save_a (offsets 1000 8) 0 (ascii "n") says lacks 1000 4 ∷
    index_field_call 3 save_a (offsets 1000 42) 0 (ascii "n") says refusal undefined_prototype 1000 ∷
    index_field_call 3 save_a (offsets 35 57) 0 (ascii "n") says refusal undefined_prototype 35 ∷
    index_field_call 3 save_a (offsets 57 8) 0 (ascii "n") says refusal undefined_prototype 57 ∷
    index_field_call 3 (set save_a 12 2) index_a 0 (ascii "n") says refusal undefined_prototype 35 ∷
    index_field_call 3 (set save_a 35 4) index_a 0 (ascii "n") says refusal undefined_prototype 35 ∷
    index_field_call 3 (set save_a 21 0xff) (offsets 60 8) 0 (ascii "n") says refusal not_utf8 21 ∷
    index_field_call 3 (set save_a 47 38) index_a 1 (ascii "n") says refusal zero_digit 47 ∷
    index_field_call 3 (set save_a 22 8) index_a 0 (ascii "zz") says refusal unlisted_type 40 ∷
    index_field_call 3 bad_string (offsets 44 8) 0 (ascii "n") says refusal not_utf8 55 ∷
    index_field_call 3 zero_id (offsets 35 8) 0 (ascii "n") says refusal undefined_prototype 35 ∷
    index_field_call 3 redefined_file (offsets 35 8) 0 (ascii "f") says carries 0x27 40 (u32 9) ∷
    index_field_call 3 redefined_file (offsets 35 8) 0 (ascii "g") says refusal absent 0 ∷
    index_field_call 3 save_b index_a 0 (ascii "n") says carries 0x2b 40 (le 2 9) ∷
    index_field_call 3 (set save_a 0 0) index_a 1 (ascii "n") says carries 0x2b 55 (le 2 7) ∷
    index_field_call 3 (ascii "BSI") index_a 0 (ascii "n") says lacks 4 4 ∷
    index_field_call 3 (take 7 save_a) index_a 0 (ascii "n") says lacks 4 1 ∷
    index_field_call 3 (take 7 save_a) index_a 2 (ascii "n") says refusal absent 0 ∷
    index_field_call 3 (take 12 save_a) index_a 0 (ascii "n") says lacks 12 1 ∷
    index_field_call 3 (set save_a 30 0xff) index_a 0 (ascii "n") says refusal not_utf8 30 ∷
    index_field_call 3 (take 33 save_a) index_a 0 (ascii "n") says lacks 31 2 ∷
    index_field_call 3 (take 50 save_a) index_a 1 (ascii "n") says lacks 47 5 ∷
    index_field_call 3 (take 56 save_a) index_a 1 (ascii "zz") says lacks 55 1 ∷
    index_field_call 3 (seven_file 1) (offsets 35 8) 0 (ascii "w") says carries 0x19 40 seven_part ∷
    index_field_call 3 (seven_file 2) (offsets 35 8) 0 (ascii "w") says carries 0x19 40 (seven_part ++ u32 0) ∷ []

unfoldable pub looked_parts : List (Fact (List ℕ))
looked_parts =
    part_of (index_field_call 3 save_a index_a 1 (ascii "n")) says le 2 7 ∷
    part_of (index_field_call 3 save_a index_a 2 (ascii "n")) says [] ∷ []

-- ---- defines once

unfoldable pub onces : List (Fact (Reply ℕ))
onces =
    defines_once_call 3 save_a says gives 1 ∷
    defines_once_call 9 twin_file says gives 1 ∷
    defines_once_call 0 (file_with []) says gives 1 ∷
    defines_once_call 3 redefined_file says gives 0 ∷
    defines_once_call 2 save_a says refusal table_full 8 ∷
    defines_once_call 3 (set save_a 12 2) says refusal bad_mark 12 ∷ []
