-- A list that is written down by its bytes inserts just these bytes: what a reader took whole has the bytes that it was read from, and anything else is
-- kept as it stands.
use mathlib.Core.Path.{◌≡◌, refl, sym, ◌∙◌}
use Prim.Native.Nat.{ℕ}
use mathlib.Core.List.{List, [], ◌∷◌, append-nil}
use Rattle.bsii_format.specs.Reader.{Result, ok, fault}
use Rattle.bsii_format.specs.Prototypes.{Prototype}
use Rattle.bsii_format.specs.File.{prototype, block, Step, end, more, record_parser, fields_bytes, values_bytes, record_bytes}
use Rattle.bsii_format.proofs.Records.{step_bytes, record_good}
use Rattle.bsii_widening.specs.Written.{whole, definition_of, value_of, step_prototype, step_block}

pub definition_bytes_law : (s : List ℕ) → (definition_of s).raw ≡ s
unfolding definition_of
definition_bytes_law s = refl

pub value_bytes_law : (version t : ℕ) (s : List ℕ) → (value_of version t s).raw ≡ s
unfolding value_of
value_bytes_law version t s = refl

-- of a step that was read whole, and of none
whole_bytes : (version : ℕ) (env : List Prototype) (s : List ℕ) (bytes_of : Step → List ℕ) → ((q : Step) → step_bytes q ≡ s → bytes_of q ≡ s) → bytes_of (end []) ≡ s
    → bytes_of (whole (end []) (record_parser version env 0 s)) ≡ s
unfolding whole
whole_bytes version env s bytes_of read none = go (record_parser version env 0 s) refl
  where
    go : (q : Result Step) → record_parser version env 0 s ≡ q → bytes_of (whole (end []) q) ≡ s
    go (ok q at []) e = read q (sym ((record_good env 0 s q at [] e).front ∙ append-nil (step_bytes q)))
    go (ok q at (x ∷ r)) e = none
    go (fault f) e = none

pub prototype_bytes : (version : ℕ) (env : List Prototype) (s : List ℕ) → record_bytes (prototype (step_prototype s (whole (end []) (record_parser version env 0 s)))) ≡ s
unfolding step_prototype record_bytes fields_bytes step_bytes
prototype_bytes version env s = whole_bytes version env s (λ q. record_bytes (prototype (step_prototype s q))) read (append-nil s)
  where
    read : (q : Step) → step_bytes q ≡ s → record_bytes (prototype (step_prototype s q)) ≡ s
    read (end l) e = append-nil s
    read (more (block b)) e = append-nil s
    read (more (prototype p)) e = e

pub block_bytes : (version : ℕ) (env : List Prototype) (s : List ℕ) → record_bytes (block (step_block s (whole (end []) (record_parser version env 0 s)))) ≡ s
unfolding step_block record_bytes values_bytes step_bytes
block_bytes version env s = whole_bytes version env s (λ q. record_bytes (block (step_block s q))) read (append-nil s)
  where
    read : (q : Step) → step_bytes q ≡ s → record_bytes (block (step_block s q)) ≡ s
    read (end l) e = append-nil s
    read (more (prototype p)) e = append-nil s
    read (more (block b)) e = e
