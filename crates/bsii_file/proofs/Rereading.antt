-- What a second walk over a file that was read starts from.
use mathlib.Core.Path.{◌≡◌, refl, sym, ap, ◌∙◌}
use Prim.Native.Nat.{ℕ, ◌/◌}
use mathlib.Core.List.{List, []}
use lib.ListN.{length}
use Rattle.bsii_format.specs.File.{prototypes_of}
use Rattle.bsii_format.specs.Calls.{placed_records, blocks_of}
use Rattle.bsii_table.proofs.Relation.{holds_entered}
use Rattle.bsii_block.specs.Blocks.{DefinedAt}
use Rattle.bsii_parse.specs.Walks.{records_at}
use Rattle.bsii_parse.specs.declared.walk.Totals.{Totals}
use Rattle.bsii_parse.proofs.Whole.{file_parts}
use Rattle.bsii_walk.specs.Seek.{WalkAt, Readable, blocks_from}
use Rattle.bsii_file.proofs.Lookups.{WasRead, holds_last}

-- ---- the second walk

module _ {s t : List ℕ} {a : Totals} {t' : List ℕ} (w : WasRead s t a t') where
  pub walk_first : WalkAt a.version s (length t / 3) a.rows (prototypes_of w.file.records) t' 8 [] w.file.records
  unfolding prototypes_of
  walk_first = let p = file_parts (length t) s w.parsed in
      record {
        end = w.file.end;
        n = a.next;
        reads = ap (λ (x : Totals). records_at x.version (length t / 3) [] 8 s) w.counted ∙ p.reads;
        entered = holds_entered (DefinedAt s) (holds_last w);
        lasts = refl;
      }

  pub readable : Readable a.version s 8 t' a.rows
  readable = let p = file_parts (length t) s w.parsed in
      record { short = p.short; inside = p.inside; rooms = length t / 3; last = prototypes_of w.file.records; rest = w.file.records; standing = walk_first }

  pub blocks_are : blocks_from 8 w.file.records ≡ blocks_of w.file
  unfolding blocks_of placed_records
  blocks_are = ap (λ (k : ℕ). blocks_from k w.file.records) (sym (file_parts (length t) s w.parsed).header)
