-- How many records the index of a file has: one for each block, and so no more than the file has bytes.
use mathlib.Core.Path.{◌≡◌, sym, ap, ◌∙◌}
use Prim.Native.Nat.{ℕ, ◌≤◌}
use native.Mathlib.Omega.{arith}
use mathlib.Core.List.{List, ◌++◌}
use lib.ListN.{length, drop, length-append}
use Rattle.bsii_format.specs.Reader.{ok}
use Rattle.bsii_format.specs.File.{Record, prototype, block, record_bytes, records_bytes, BsiiFile, length_limit, parse, file_bytes}
use Rattle.bsii_format.specs.Calls.{placed_records, blocks_of}
use Rattle.bsii_format.proofs.Records.{GoodRecords, nil, cons, head_takes}
use Rattle.bsii_derived.specs.Index.{index_of}
use Rattle.bsii_derived.proofs.Claims.{was_read, index_blocks}
use Rattle.bsii_parse.specs.Walks.{block_count}
use Rattle.bsii_parse.proofs.Whole.{blocks_counted, file_parts}

-- a block has a byte at least
blocks_few : {version : ℕ} {l : List Record} {env : List _} → GoodRecords version env l → block_count l ≤ length (records_bytes l)
unfolding block_count records_bytes record_bytes
blocks_few nil = omega arith
blocks_few (cons {i = prototype p} g gs) = rw length-append (omega (arith, blocks_few gs))
blocks_few (cons {i = block b} g gs) = rw (length-append, length-append) (omega (arith, blocks_few gs, head_takes g.head))

module _ (words : ℕ) (s : List ℕ) {f : BsiiFile} {n : ℕ} (e : parse words s ≡ ok f n (drop n s)) where
  pub blocks_indexed : block_count f.records ≡ length (index_of f)
  unfolding blocks_of placed_records
  blocks_indexed = sym (index_blocks (was_read words s e) ∙ blocks_counted (λ r. length (record_bytes r)) (length f.header.raw) f.records)

  pub blocks_limited : block_count f.records ≤ length_limit
  unfolding file_bytes
  blocks_limited =
      let d = was_read words s e in
      let front = ap length d.taken.front ∙ length-append (file_bytes f) (drop n s) in
      let parts = length-append f.header.raw (records_bytes f.records ++ f.end) in
      omega (arith, (file_parts words s e).short, front, parts, length-append (records_bytes f.records) f.end, blocks_few d.taken.good.records)
