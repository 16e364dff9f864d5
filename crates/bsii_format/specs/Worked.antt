-- Document 01's "Worked bytes": the file of 82 bytes with its text of 73, and the cases marked * as one table. proofs/Worked.antt computes
-- them; FORMAT.md, "A worked file", goes through the same bytes.
use Rattle.std.specs.Prelude.{ℕ, ◌≡◌, List, [], ◌∷◌, ◌++◌, map}
use Rattle.bsii_format.specs.Ascii.{ascii}
use Rattle.bsii_format.specs.Replies.{Reply, gives, refuses, refusal, zero_digit, enum_value, absent}
use Rattle.bsii_format.specs.Reader.{Result, ok, fault}
unfoldable pub use Rattle.bsii_format.specs.Numbers.{le}
use Rattle.bsii_format.specs.Strings.{characters, low63}
use Rattle.bsii_format.specs.Values.{Value, single, array, value_parser}
use Rattle.bsii_format.specs.Text.{element_text}
use Rattle.bsii_format.specs.BlockText.{or_refuse}

abbrev pub u32 : ℕ → List ℕ
u32 = le 4

abbrev pub u64 : ℕ → List ℕ
u64 = le 8

-- ---- the worked file

unfoldable pub worked_file : List ℕ
worked_file =
    ascii "BSII" ++ u32 2
    ++ u32 0 ++ le 1 1 ++ u32 7 ++ u32 4 ++ ascii "trip" ++ u32 0x27 ++ u32 2 ++ ascii "km" ++ u32 6 ++ u32 1 ++ ascii "w" ++ u32 0
    ++ u32 7 ++ le 1 1 ++ u64 0x57 ++ u32 300 ++ u32 2 ++ u32 0x3fc0_0000 ++ u32 0xc000_0000
    ++ u32 0 ++ le 1 0

unfoldable pub worked_text : List ℕ
worked_text = ascii "SiiNunit\n{\ntrip : a1 {\n  km: 300\n  w: 2\n  w[0]: &3fc00000\n  w[1]: -2\n}\n}\n"

-- ---- tables of facts

-- a question and its answer
pub record Fact (A : Type 0) : Type 0 where
  pub asked : A
  pub says : A

infix 70 ◌says◌
abbrev pub ◌says◌ : {A : Type 0} → A → A → Fact A
a says b = record { asked = a; says = b }

-- every question of a table has its answer
abbrev pub Hold : {A : Type 0} → List (Fact A) → Type 0
Hold l = map (λ f. f.asked) l ≡ map (λ f. f.says) l

-- ---- the cases marked *

-- the text of a single value of version 2, whose enum list is empty
unfoldable pub single_text : Result Value → Reply (List ℕ)
single_text (ok (single e) at r) = or_refuse enum_value 0 (element_text [] e.value)
single_text (ok (array l) at r) = refusal absent 0
single_text (fault f) = refuses f

infix 75 ◌of◌
abbrev pub ◌of◌ : ℕ → List ℕ → Reply (List ℕ)
t of l = single_text (value_parser 2 t 0 l)

-- the bits of 1, and a placement with f1 = f3 = 1, this f4 and zeros
abbrev pub placement_with : ℕ → List ℕ
placement_with f4 = u32 0x3f80_0000 ++ u32 0 ++ u32 0x3f80_0000 ++ u32 f4 ++ u32 0 ++ u32 0 ++ u32 0 ++ u32 0

-- "Words: 0* and 0x8000000000000000* empty; 1* `0`; .. 38* refused 5; 39* `00`. Floats: 10000000* decimal, 10000001* `&4b189681`, bits 1* `&1`,
-- minus zero* `-0`. Ids: 0x10000* `_nameless.1.0000`; no words* `null`. Placement, f1 = f3 = 1: f4 = 0* gives −1048575 for both;
-- f4 = 8390656* gives 1 for both". An empty word has no characters, and its text as a value is `""`. The bits of 10000000, 10000001 and 8390656 are
-- 0x4b189680, 0x4b189681 and 0x4b000800
unfoldable pub starred : List (Fact (Reply (List ℕ)))
starred =
    gives (characters 0) says gives [] ∷
    gives (characters (low63 0x8000_0000_0000_0000)) says gives [] ∷
    0x03 of u64 0 says gives (ascii "\"\"") ∷
    0x03 of u64 0x8000_0000_0000_0000 says gives (ascii "\"\"") ∷
    0x03 of u64 1 says gives (ascii "0") ∷
    0x03 of u64 38 says refusal zero_digit 0 ∷
    0x03 of u64 39 says gives (ascii "00") ∷
    0x05 of u32 0x4b18_9680 says gives (ascii "10000000") ∷
    0x05 of u32 0x4b18_9681 says gives (ascii "&4b189681") ∷
    0x05 of u32 1 says gives (ascii "&1") ∷
    0x05 of u32 0x8000_0000 says gives (ascii "-0") ∷
    0x39 of (le 1 0xff ++ u64 0x1_0000) says gives (ascii "_nameless.1.0000") ∷
    0x39 of le 1 0 says gives (ascii "null") ∷
    0x19 of placement_with 0 says gives (ascii "(-1048575, 0, -1048575) (0; 0, 0, 0)") ∷
    0x19 of placement_with 0x4b00_0800 says gives (ascii "(1, 0, 1) (0; 0, 0, 0)") ∷ []
