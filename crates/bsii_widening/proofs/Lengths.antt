-- The old file is no longer than the new one: each part without what was inserted has no more bytes than with it.
use mathlib.Core.Path.{ap, subst}
use Prim.Native.Nat.{ℕ, ◌≤◌}
use native.Mathlib.Omega.{arith}
use mathlib.Core.List.{List, [], ◌∷◌}
use lib.ListN.{length, length-append}
use Rattle.bsii_format.specs.Reader.{Consumed}
use Rattle.bsii_format.specs.Prototypes.{ValuePrototype}
use Rattle.bsii_format.specs.Blocks.{DataValue}
use Rattle.bsii_format.specs.File.{BsiiFile, fields_bytes, values_bytes, record_bytes, records_bytes, file_bytes}
use Rattle.bsii_widening.specs.Marks.{Mark, old, inserted, unmark, all, olds, MarkedRecord, marked_prototype, marked_block, MarkedRecords, new_record, old_record, new_records, old_records}
use Rattle.bsii_widening.specs.Insertions.{Insertion}
use Rattle.bsii_widening.specs.Claim.{widened, new_file}
use Rattle.bsii_widening.specs.Observers.{Old}
use Rattle.bsii_widening.proofs.Marks.{old_widened}
use Rattle.bsii_widening.proofs.Core.{taken}

fields_longer : (l : List (Mark (Consumed ValuePrototype))) → length (fields_bytes (olds l)) ≤ length (fields_bytes (all l))
unfolding fields_bytes olds all
fields_longer [] = omega arith
fields_longer (old d ∷ l) = simp length-append (omega (arith, fields_longer l))
fields_longer (inserted d ∷ l) = rw length-append (omega (arith, fields_longer l))

values_longer : (l : List (Mark DataValue)) → length (values_bytes (olds l)) ≤ length (values_bytes (all l))
unfolding values_bytes olds all
values_longer [] = omega arith
values_longer (old v ∷ l) = simp length-append (omega (arith, values_longer l))
values_longer (inserted v ∷ l) = rw length-append (omega (arith, values_longer l))

record_longer : (m : MarkedRecord) → length (record_bytes (old_record m)) ≤ length (record_bytes (new_record m))
unfolding record_bytes
record_longer (marked_prototype p) = simp length-append (omega (arith, fields_longer p.fields))
record_longer (marked_block b) = simp length-append (omega (arith, values_longer b.values))

records_longer : (M : MarkedRecords) → length (records_bytes (old_records M)) ≤ length (records_bytes (new_records M))
unfolding records_bytes old_records new_records unmark
records_longer [] = omega arith
records_longer (old m ∷ M) = simp length-append (omega (arith, record_longer m, records_longer M))
records_longer (inserted m ∷ M) = rw length-append (omega (arith, records_longer M))

pub no_shorter : {words : ℕ} {s : List ℕ} {f : BsiiFile} {at : ℕ} {r : List ℕ} → Old words s f at r → (l : List Insertion) → length s ≤ length (new_file f r (widened f l))
unfolding new_file file_bytes widened
no_shorter {f = f} {r = r} o l =
    let x = subst (λ z. length (records_bytes z) ≤ length (records_bytes (new_records (widened f l)))) (old_widened l f.records) (records_longer (widened f l)) in
    let y = simp length-append at (ap length (taken o).front) in
    simp length-append (omega (arith, x, y))
