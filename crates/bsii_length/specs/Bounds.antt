-- Bounds of what is written, for files within the length limit. Only the last one is the format's own; the others are powers of two with room to spare.
use Rattle.std.specs.Prelude.{ℕ}

-- the text of one element: a string's bytes as four characters each, or a few numbers
abbrev pub element_bound : ℕ
element_bound = 0x1_0000_0000

-- a line: a name, an index and an element
abbrev pub line_bound : ℕ
line_bound = 0x10_0000_0000

-- a text, which has no more lines than the file has bytes: half of what the writers' positions count exactly behind a window's start
abbrev pub text_bound : ℕ
text_bound = 0x4000_0000_0000_0000

-- "no accepted word has more than twelve" characters
abbrev pub word_bound : ℕ
word_bound = 12
