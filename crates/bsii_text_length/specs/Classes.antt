-- A string's bytes by how they are written: the largest class among them decides for the whole string.
use Rattle.std.specs.Prelude.{ℕ, cond, List, [], ◌∷◌, ltb}
use Rattle.bsii_format.specs.Utf8.{◌to◌, within}
use Rattle.bsii_format.specs.Text.{is_bare}
use Rattle.bsii_text_length.specs.declared.strings.Class.{Class}
use Rattle.bsii_text_length.specs.declared.strings.Class.TheVariants.{Bare, Quoted, Control, High}

unfoldable pub class_of : ℕ → Class
class_of x = cond (ltb 127 x) High (cond (ltb x 32) Control (cond (is_bare x) Bare Quoted))

unfoldable pub rank : Class → ℕ
rank Bare = 0
rank Quoted = 1
rank Control = 2
rank High = 3

unfoldable pub larger : Class → Class → Class
larger a b = cond (ltb (rank a) (rank b)) b a

unfoldable pub worst : List ℕ → Class
worst [] = Bare
worst (x ∷ s) = larger (class_of x) (worst s)

-- a byte within quotes
unfoldable pub escape_size : ℕ → ℕ
escape_size x = cond (within (32 to 127) x) 1 4
