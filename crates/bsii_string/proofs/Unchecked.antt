-- A string that was accepted is read the same without the check of its bytes.
use mathlib.Core.List.{List}
use Prim.Native.Nat.{ℕ}
use Rattle.bsii_format.specs.Replies.{not_utf8}
use Rattle.bsii_format.specs.Reader.{bytes}
use Rattle.bsii_format.specs.Numbers.{number}
use Rattle.bsii_format.specs.Utf8.{utf8}
use Rattle.bsii_format.specs.Strings.{str_parser}
use Rattle.bsii_format.proofs.Readers.{Exact, bind_exact, bytes_exact}
use Rattle.bsii_format.proofs.Parsers.{number_exact}
use Rattle.bsii_format.proofs.Follows.{Follows, Same, itself, bind_same, verify_follows}
use Rattle.bsii_string.specs.Answers.{unchecked_str}

pub str_follows : Follows Same str_parser unchecked_str
unfolding str_parser unchecked_str
str_follows = bind_same (itself (number 4)) (λ n. verify_follows (itself (bytes n)) utf8 not_utf8)

pub unchecked_str_exact : Exact (List ℕ) unchecked_str
unfolding unchecked_str
unchecked_str_exact = bind_exact _ (number_exact 4) bytes_exact
