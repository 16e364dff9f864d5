-- An encoded word and an id, once their first number is read.
use mathlib.Core.Path.{◌≡◌, ap, ◌∙◌}
use Prim.Native.Nat.{ℕ, ◌%◌}
use mathlib.Core.Bool.{Bool, true, false, cond}
use mathlib.Core.List.{List}
use lib.Dec.{eqb}
use borrow.Author.Tests.{eq-eqb, ne_eqb}
use Rattle.bsii_format.specs.Replies.{Fault, zero_digit}
use Rattle.bsii_format.specs.Reader.{Reader, ok, fault, fault_at, repeat, ◌<$>◌}
use Rattle.bsii_format.specs.Numbers.{number, le_u64}
use Rattle.bsii_format.specs.Strings.{spelled, low63, encoded_str_parser, Id, nameless, named, id_parser}
use Rattle.bsii_format.proofs.Readers.{map_fault}
use Rattle.bsii_format.proofs.Positions.{bind_ok, bind_fault, map_value, verify_ok, verify_not, verify_fault, ended_map}
use Rattle.bsii_string.specs.Answers.{end_of}
use Rattle.bsii_string.proofs.Ends.{alike}

module _ (s : List ℕ) (at : ℕ) where
  pub word_short : {x : Fault} → number 8 at s ≡ fault x → encoded_str_parser at s ≡ fault x
  unfolding encoded_str_parser
  word_short e = verify_fault spelled zero_digit (low63 <$> le_u64) (map_fault low63 le_u64 at s e)

  pub id_short : {x : Fault} → number 1 at s ≡ fault x → id_parser at s ≡ fault x
  unfolding id_parser
  id_short e = bind_fault (number 1) _ e

module _ (s : List ℕ) (at n next : ℕ) (r : List ℕ) (e : number 8 at s ≡ ok n next r) where
  pub word_whole : spelled (n % 0x8000_0000_0000_0000) ≡ true → encoded_str_parser at s ≡ ok (n % 0x8000_0000_0000_0000) next r
  unfolding encoded_str_parser low63
  word_whole h = verify_ok spelled zero_digit (low63 <$> le_u64) (map_value low63 le_u64 e) h

  pub word_not : spelled (n % 0x8000_0000_0000_0000) ≡ false → encoded_str_parser at s ≡ fault_at zero_digit at
  unfolding encoded_str_parser low63
  word_not h = verify_not spelled zero_digit (low63 <$> le_u64) (map_value low63 le_u64 e) h

-- what follows an id's first byte
body : ℕ → Reader Id
body n = cond (eqb n 0xff) (nameless <$> le_u64) (named <$> repeat n encoded_str_parser)

module _ (s : List ℕ) (at n next : ℕ) (r : List ℕ) (e : number 1 at s ≡ ok n next r) where
  id_body : id_parser at s ≡ body n next r
  unfolding id_parser body
  id_body = bind_ok (number 1) body e

  pub id_nameless : n ≡ 0xff → end_of (id_parser at s) ≡ end_of (number 8 next r)
  unfolding body
  id_nameless h =
      ap end_of (id_body ∙ ap (λ (b : Bool). cond b (nameless <$> le_u64) (named <$> repeat n encoded_str_parser) next r) (eq-eqb n 0xff h))
      ∙ alike ((nameless <$> le_u64) next r) (number 8 next r) (ended_map nameless le_u64 next r)

  pub id_named : (n ≡ 0xff → ⊥) → end_of (id_parser at s) ≡ end_of (repeat n encoded_str_parser next r)
  unfolding body
  id_named h =
      ap end_of (id_body ∙ ap (λ (b : Bool). cond b (nameless <$> le_u64) (named <$> repeat n encoded_str_parser) next r) (ne_eqb n 0xff h))
      ∙ alike ((named <$> repeat n encoded_str_parser) next r) (repeat n encoded_str_parser next r) (ended_map named (repeat n encoded_str_parser) next r)
