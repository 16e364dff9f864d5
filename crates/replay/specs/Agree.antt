-- When an answer of a call is the Rust's.
use Rattle.std.specs.Prelude.{ℕ, Bool, false, cond, List, length, take, eqb}
use Rattle.bsii_format.specs.Replies.{number_of, malformed, absent, bad_mark, Reply, gives, refuses}
use Rattle.bsii_format.specs.Reader.{same}
use Rattle.bsii_format.specs.Calls.{Reading, Converted, TextAnswer}

-- 02, E2: "Against the Rust both numbers count as InvalidInput", which the list has as 3.
abbrev pub rust_number : ℕ → ℕ
rust_number n = cond (eqb n (number_of bad_mark)) (number_of malformed) n

-- The Rust refuses nothing, and counts as many prototypes and blocks.
abbrev pub same_counts : ℕ → ℕ → ℕ → ℕ → ℕ → Bool
same_counts reply p b prototypes blocks = cond (eqb reply 0) (cond (eqb p prototypes) (eqb b blocks) false) false

abbrev pub same_reading : ℕ → ℕ → ℕ → Reply Reading → Bool
same_reading reply prototypes blocks (gives a) = same_counts reply a.prototypes a.blocks prototypes blocks
same_reading reply prototypes blocks (refuses f) = eqb (rust_number (number_of f.cause)) reply

abbrev pub same_number : ℕ → Reply ℕ → Bool
same_number n (gives k) = eqb k n
same_number n (refuses f) = false

abbrev pub is_absent : Reply ℕ → Bool
is_absent (gives k) = false
is_absent (refuses f) = eqb (number_of f.cause) (number_of absent)

-- The output's first n bytes are the text.
abbrev pub same_bytes : List ℕ → ℕ → List ℕ → Bool
same_bytes text n output = cond (eqb n (length text)) (same (take n output) text) false

abbrev pub same_reply : ℕ → List ℕ → Reply Converted → List ℕ → Bool
same_reply reply text (gives a) output = cond (eqb reply 0) (same_bytes text a.size output) false
same_reply reply text (refuses f) output = eqb (rust_number (number_of f.cause)) reply

abbrev pub same_text : ℕ → List ℕ → TextAnswer → Bool
same_text reply text a = same_reply reply text a.reply a.output
