-- A save that defines an array of three f32 and a single four f32 and has no block with them, and the block that an update adds: (iii) of a prototype
-- that the old save has.
use Rattle.std.specs.Prelude.{List, [], ◌∷◌, ◌++◌, ℕ, take, drop}
use Rattle.bsii_format.specs.File.{BsiiFile, parse}
use Rattle.bsii_format.specs.Worked.{le, u32}
use Rattle.bsii_format.specs.WorkedCalls.{triples_part, quadruple_part, vectors_file}
use Rattle.bsii_widening.specs.Insertions.{Insertion}
use Rattle.bsii_widening.specs.Marks.{mark_records}
use Rattle.bsii_widening.specs.Written.{block_at, made_all}
use Rattle.bsii_widening.specs.Example.{file_of}

-- the worked save of the two types without its block
unfoldable pub defined_file : List ℕ
defined_file = take 44 vectors_file ++ drop 81 vectors_file

unfoldable pub defined_save : BsiiFile
defined_save = file_of (parse 3 defined_file)

unfoldable pub first_block : List Insertion
first_block = made_all 2 (block_at 1 (u32 3 ++ le 1 0 ++ triples_part ++ quadruple_part) ∷ []) (mark_records defined_save.records)
