-- A worked list of insertions into a save of version 1, with placements of seven f32: an array of them in the old prototype and its block (i), a prototype
-- with one (ii) and a block of it (iii).
use Rattle.std.specs.Prelude.{List, [], ◌∷◌, ◌++◌, ℕ}
use Rattle.bsii_format.specs.Ascii.{ascii}
use Rattle.bsii_format.specs.File.{BsiiFile, parse}
use Rattle.bsii_format.specs.Worked.{le, u32}
use Rattle.bsii_format.specs.WorkedCalls.{definition, prototype_record, seven_part, seven_file, sevens_part}
use Rattle.bsii_widening.specs.Insertions.{Insertion}
use Rattle.bsii_widening.specs.Marks.{mark_records}
use Rattle.bsii_widening.specs.Written.{Written, field, prototype_at, block_at, made_all}
use Rattle.bsii_widening.specs.Example.{file_of}

unfoldable pub seven_save : BsiiFile
seven_save = file_of (parse 3 (seven_file 1))

-- (i) the array `v` in front of `w`, with these bytes in block 0
unfoldable pub array_field : List ℕ → Written
array_field part = field 2 0 (definition 0x1a (ascii "v")) (part ∷ [])

-- (ii) the prototype 9, `p`, with a placement `q`, in front of the first record; (iii) a block of it behind that
unfoldable pub sevens : List Insertion
sevens =
    made_all 1 (array_field sevens_part ∷ prototype_at 0 (prototype_record 9 (ascii "p") (definition 0x19 (ascii "q"))) ∷ block_at 1 (u32 9 ++ le 1 0 ++ seven_part) ∷ [])
    (mark_records seven_save.records)

unfoldable pub widened_text : List ℕ
widened_text =
    ascii "SiiNunit\n{\np : null {\n  q: (1, -0, -0) (&7f800002; 0, &3fc00000, -2)\n}\nj : null {\n  v: 2\n  v[0]: (1, -0, -0) (&7f800002; 0, &3fc00000, -2)\n"
    ++ ascii "  v[1]: (-0, &3fc00000, &7f800001) (-2; 1, &3f000000, 0)\n  w: (1, -0, -0) (&7f800002; 0, &3fc00000, -2)\n}\n}\n"

-- the array with one placement of eight f32: well-formed in version 2, and not in this save
unfoldable pub eight : List Insertion
eight = made_all 1 (array_field (u32 1 ++ seven_part ++ u32 0) ∷ []) (mark_records seven_save.records)
