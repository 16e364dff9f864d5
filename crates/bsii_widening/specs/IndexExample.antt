-- The worked list of insertions through the worked file's index and the new file's own; and a save that is read and has no text, whose index survives as well.
use Rattle.std.specs.Prelude.{ℕ, List, ◌++◌}
use Rattle.bsii_format.specs.File.{BsiiFile, parse}
use Rattle.bsii_format.specs.WorkedCalls.{unlisted_enum_file}
use Rattle.bsii_derived.specs.WorkedIndex.{entry}
use Rattle.bsii_widening.specs.Example.{file_of}

-- the worked file's block at 48 under the prototype at 8
unfoldable pub old_index : List ℕ
old_index = entry 48 29 8 2

-- that block under the longer prototype at 35, and the inserted block under the inserted prototype
unfoldable pub new_index : List ℕ
new_index = entry 100 33 35 3 ++ entry 133 6 8 1

-- its text is refused with 9
unfoldable pub textless : BsiiFile
textless = file_of (parse 3 unlisted_enum_file)
