-- Strings, encoded words and ids: document 01, "src/bsii_parse.rs"; FORMAT.md, "Strings", "Encoded words", "Ids".
use Rattle.std.specs.Prelude.{ℕ, zero, suc, ◌/◌, ◌%◌, Bool, true, false, cond, List, [], ◌∷◌, get_or, eqb}
use Rattle.std.proofs.Math.Option
use Rattle.std.proofs.Math.Option.{Option, none, some, map}
use Rattle.bsii_format.specs.Ascii.{ascii}
use Rattle.bsii_format.specs.Replies.{not_utf8, zero_digit}
use Rattle.bsii_format.specs.Reader.{Reader, bytes, verify, repeat, ◌>>=◌, ◌<$>◌}
use Rattle.bsii_format.specs.Numbers.{le_u8, le_u32, le_u64}
use Rattle.bsii_format.specs.Utf8.{utf8}

-- "String: u32 length, then bytes that are UTF-8". Bytes that run out (3) and bytes that are not UTF-8 (4) are both at the first byte after the length
unfoldable pub str_parser : Reader (List ℕ)
str_parser = do
  n ← le_u32
  verify utf8 not_utf8 (bytes n)

-- "Digit d from 1 to 37 is character d of `0-9a-z_`"
unfoldable pub char_encodings : List ℕ
char_encodings = ascii "0123456789abcdefghijklmnopqrstuvwxyz_"

-- a digit in front of the characters of the higher ones: "Digit 0 is a fault"
unfoldable pub digit_then : ℕ → Option (List ℕ) → Option (List ℕ)
digit_then zero o = none
digit_then (suc d) o = map (λ (l : List ℕ). get_or char_encodings d 0 ∷ l) o

-- "digits to base 38 from the lowest up while the rest is above zero": `fuel` is at least the rest, so it never runs out
unfoldable pub base38_from : ℕ → ℕ → Option (List ℕ)
base38_from zero n = some []
base38_from (suc fuel) zero = some []
base38_from (suc fuel) (suc n) = digit_then (suc n % 38) (base38_from fuel (suc n / 38))

-- the characters of a word, the lowest digit first; none where a digit is 0
unfoldable pub base38 : ℕ → Option (List ℕ)
base38 n = base38_from n n

unfoldable pub is_some : {A : Type 0} → Option A → Bool
is_some none = false
is_some (some a) = true

unfoldable pub spelled : ℕ → Bool
spelled n = is_some (base38 n)

-- an accepted word's characters
unfoldable pub characters : ℕ → List ℕ
characters n = Option.get_or (base38 n) []

-- "bit 63 dropped"
unfoldable pub low63 : ℕ → ℕ
low63 n = n % 0x8000_0000_0000_0000

-- "Encoded word: u64": its low 63 bits. 5 is at "the word"
unfoldable pub encoded_str_parser : Reader ℕ
encoded_str_parser = verify spelled zero_digit (low63 <$> le_u64)

pub data Id : Type 0 where
  nameless : ℕ → Id
  named : List ℕ → Id

-- "Id: one byte n. n = 0xff: u64, nameless. Otherwise n encoded words."
unfoldable pub id_parser : Reader Id
id_parser = do
  n ← le_u8
  cond (eqb n 0xff) (nameless <$> le_u64) (named <$> repeat n encoded_str_parser)
