-- Readers of strings: what one accepts, `unchecked_str` reads the same.
use Rattle.std.specs.Prelude.{ℕ, List}
use Rattle.bsii_format.specs.Reader.{Reader}
use Rattle.bsii_format.specs.Strings.{str_parser}
use Rattle.bsii_format.specs.Prototypes.{EnumValue}
use Rattle.bsii_format.proofs.Readers.{Exact, bind_exact, success_exact}
use Rattle.bsii_format.proofs.Parsers.{number_exact, str_exact}
use Rattle.bsii_format.proofs.Follows.{Follows, Same, itself}
use Rattle.bsii_string.specs.Answers.{unchecked_str}
use Rattle.bsii_string.proofs.Unchecked.{str_follows, unchecked_str_exact}
use Rattle.bsii_prototype.specs.Entries.{enum_value_with}

pub record Text (S : Reader (List ℕ)) : Type 0 where
  pub exact : Exact (List ℕ) S
  pub follows : Follows Same S unchecked_str

pub checked : Text str_parser
checked = record { exact = str_exact; follows = str_follows }

pub unchecked : Text unchecked_str
unchecked = record { exact = unchecked_str_exact; follows = itself unchecked_str }

-- so what a pair of an enum list takes is exact
pub pair_exact : {S : Reader (List ℕ)} → Exact (List ℕ) S → Exact EnumValue (enum_value_with S)
unfolding enum_value_with
pair_exact x = bind_exact _ (number_exact 4) (λ n. bind_exact _ x (λ s. success_exact _))
