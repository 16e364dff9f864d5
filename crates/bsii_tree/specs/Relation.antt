-- The tree against the definitions so far, as `Holds` is for rows in order. `At o p` is the caller's own: "the prototype p stands at the
-- offset o of the file".
use Rattle.std.specs.Prelude.{ℕ, List}
use Rattle.bsii_format.specs.Prototypes.{Prototype}
use Rattle.bsii_table.specs.Relation.{Represents}
use Rattle.bsii_tree.specs.Table.{Linked, lookup_tree}

abbrev pub Grows : (ℕ → Prototype → Type 0) → List ℕ → List ℕ → ℕ → List Prototype → Type 0
Grows At f t rows env = Represents At (Linked f t rows) (lookup_tree f t rows) rows env
