-- The table against the definitions so far. `At o p` is the caller's own: "the prototype p stands at the offset o of the file".
use Rattle.std.specs.Prelude.{ℕ, ◌≡◌, List}
use Rattle.std.proofs.Math.Option.{Option, none, some}
use Rattle.bsii_format.specs.Prototypes.{Prototype}
use Rattle.bsii_format.specs.Blocks.{get_prototype}
use Rattle.bsii_format.specs.File.{distinct_ids}
use Rattle.bsii_table.specs.Rows.{Row, lookup, Rows}

-- an id's definition against its row: both are there, or neither; both offsets are the definition's
abbrev pub Matches : (ℕ → Prototype → Type 0) → Option Prototype → Option Row → Type 0
Matches At none none = Unit {0}
Matches At none (some r) = ⊥
Matches At (some p) none = ⊥
Matches At (some p) (some r) = At r.in_force p × At r.last p

-- Rows and a look-up among them against `env`, the definitions so far, the last one first. `Valid` is what the rows' form asks.
pub record Represents (At : ℕ → Prototype → Type 0) (Valid : Type 0) (look : ℕ → Option Row) (rows : ℕ) (env : List Prototype) : Type 0 where
  pub valid : Valid
  pub count : rows ≡ distinct_ids env
  pub each : (id : ℕ) → Matches At (get_prototype id env) (look id)

-- rows in order, after the reading walk
abbrev pub Holds : (ℕ → Prototype → Type 0) → List ℕ → ℕ → List Prototype → Type 0
Holds At t rows env = Represents At (Rows t rows) (lookup t rows) rows env

-- the offset in force against the definition in force, where there is one
abbrev pub InForce : (ℕ → Prototype → Type 0) → Option Prototype → Row → Type 0
InForce At none r = Unit {0}
InForce At (some p) r = At r.in_force p

-- an id's definition in force and its last one against its row: every id of the file has a row
abbrev pub Follows : (ℕ → Prototype → Type 0) → Option Prototype → Option Prototype → Option Row → Type 0
Follows At o none none = Unit {0}
Follows At o none (some r) = ⊥
Follows At o (some q) none = ⊥
Follows At o (some q) (some r) = At r.last q × InForce At o r

-- a walk over a file that was read: `env` is the definitions so far, `last` all definitions of the file
pub record Entered (At : ℕ → Prototype → Type 0) (t : List ℕ) (rows : ℕ) (env last : List Prototype) : Type 0 where
  pub valid : Rows t rows
  pub each : (id : ℕ) → Follows At (get_prototype id env) (get_prototype id last) (lookup t rows id)
