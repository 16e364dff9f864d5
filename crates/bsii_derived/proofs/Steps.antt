-- Each step of the walk has a byte of its own: a record its number, a value one byte at least.
use Prim.Native.Nat.{ℕ, ◌≤◌}
use native.Mathlib.Omega.{arith}
use mathlib.Core.Path.{ap}
use mathlib.Core.List.{List}
use lib.ListN.{length, length-append}
use Rattle.bsii_format.specs.Prototypes.{ValuePrototype, Prototype}
use Rattle.bsii_format.specs.Reader.{Consumed}
use Rattle.bsii_format.specs.Blocks.{DataValue}
use Rattle.bsii_format.specs.File.{Record, prototype, block, BsiiFile, values_bytes, record_bytes, records_bytes, file_bytes}
use Rattle.bsii_format.specs.Calls.{record_steps, records_steps, steps_of}
use Rattle.bsii_format.proofs.Records.{GoodValues, nil, cons, GoodRecord, GoodRecords, head_takes, record_takes}
use Rattle.bsii_format.proofs.Replies.{value_takes}
use Rattle.bsii_derived.proofs.Claims.{Read}

values_long : {version : ℕ} {fs : List (Consumed ValuePrototype)} {l : List DataValue} → GoodValues version fs l → length l ≤ length (values_bytes l)
unfolding values_bytes
values_long nil = omega arith
values_long {version} (cons {f = f} g h) = rw length-append (omega (arith, value_takes version f.value.type_id g.fit, values_long h))

record_steps_law : (version : ℕ) (env : List Prototype) (i : Record) → GoodRecord version env i → record_steps i ≤ length (record_bytes i)
unfolding record_steps record_bytes
record_steps_law version env (prototype p) g = record_takes version env (prototype p) g
record_steps_law version env (block b) g = rw (length-append, length-append) (omega (arith, head_takes g.head, values_long g.values))

records_steps_law : {version : ℕ} {env : List Prototype} {l : List Record} → GoodRecords version env l → records_steps l ≤ length (records_bytes l)
unfolding records_steps records_bytes
records_steps_law nil = omega arith
records_steps_law {version} (cons {env = env} {i = i} g k) = rw length-append (omega (arith, record_steps_law version env i g, records_steps_law k))

pub steps_few : {f : BsiiFile} {s r : List ℕ} → Read f s r → steps_of f ≤ length s
unfolding steps_of file_bytes
steps_few d =
    omega (arith, records_steps_law d.taken.good.records, head_takes d.taken.good.last, simp length-append at (ap length d.taken.front))
