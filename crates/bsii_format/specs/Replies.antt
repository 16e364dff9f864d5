-- Refusals: document 01, "Replies in number order"; document 02, E1, E2 and E12; FORMAT.md, "Replies".
use Rattle.std.specs.Prelude.{ℕ, Bool, eqb}
use Rattle.bsii_format.specs.declared.Cause.{Cause}
use Rattle.bsii_format.specs.declared.Cause.TheVariants.{InvalidHeader, Malformed, NotUtf8, ZeroDigit, UndefinedPrototype, UnlistedType, FieldCount, EnumValue, TableFull, OutputShort, InputLong, Absent, Misfit, BadMark}

-- Why a call refuses, each cause with its trade word and its number. Where a refusal is given, and its offset, is said where it is used. There are no other
-- causes, so that a refusal with a number that is not listed cannot be written. 2 has no cause: "Reply 2 is retired and never occurs; its number isn't used
-- again".
abbrev pub invalid_header : Cause  -- header, 1
invalid_header = InvalidHeader

-- 02, E2: "Reply 3 shall mean only that bytes ran out"
abbrev pub malformed : Cause  -- malformed, 3
malformed = Malformed

abbrev pub not_utf8 : Cause  -- text code, 4
not_utf8 = NotUtf8

abbrev pub zero_digit : Cause  -- digit, 5
zero_digit = ZeroDigit

abbrev pub undefined_prototype : Cause  -- stranger, 6
undefined_prototype = UndefinedPrototype

abbrev pub unlisted_type : Cause  -- type, 7
unlisted_type = UnlistedType

abbrev pub field_count : Cause  -- regrouped, 8
field_count = FieldCount

abbrev pub enum_value : Cause  -- enum, 9
enum_value = EnumValue

abbrev pub table_full : Cause  -- table, 10
table_full = TableFull

abbrev pub output_short : Cause  -- output, 11
output_short = OutputShort

abbrev pub input_long : Cause  -- length, 12
input_long = InputLong

abbrev pub absent : Cause  -- absent, 13
absent = Absent

abbrev pub misfit : Cause  -- misfit, 14
misfit = Misfit

abbrev pub bad_mark : Cause  -- mark, 15
bad_mark = BadMark

-- the numbers of include/sii_decode.h
abbrev pub number_of : Cause → ℕ
number_of InvalidHeader = 1
-- 2 is retired
number_of Malformed = 3
number_of NotUtf8 = 4
number_of ZeroDigit = 5
number_of UndefinedPrototype = 6
number_of UnlistedType = 7
number_of FieldCount = 8
number_of EnumValue = 9
number_of TableFull = 10
number_of OutputShort = 11
number_of InputLong = 12
number_of Absent = 13
number_of Misfit = 14
number_of BadMark = 15

-- causes are told apart by their numbers
abbrev pub same_cause : Cause → Cause → Bool
same_cause a b = eqb (number_of a) (number_of b)

-- a refusal: its cause; its offset, counted from the first byte of the lent input; and, with 3, "how many of that item's bytes were lacking"
pub record Fault : Type 0 where
  pub cause : Cause
  pub offset : ℕ
  pub lacking : ℕ

-- every refusal but 3
abbrev pub refused : Cause → ℕ → Fault
refused c at = record { cause = c; offset = at; lacking = 0 }

-- 3: of the item that starts at the offset `at`, k bytes are lacking
abbrev pub short : ℕ → ℕ → Fault
short at k = record { cause = malformed; offset = at; lacking = k }

-- what a call answers: the full result, or a refusal
pub data Reply (A : Type 0) : Type 0 where
  gives : A → Reply A
  refuses : Fault → Reply A

abbrev pub refusal : {A : Type 0} → Cause → ℕ → Reply A
refusal c at = refuses (refused c at)
