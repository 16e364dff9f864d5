-- The bytes of a file before and after one insertion, without marks: what was inserted stands among the bytes that were there, at one place for (ii) and
-- (iii), at each matching spot for (i). proofs/Splices.antt shows that every insertion does just this, allowed or not.
use Rattle.std.specs.Prelude.{◌≡◌, ℕ, suc, cond, List, [], ◌∷◌, ◌++◌, take, drop, eqb}
use Rattle.bsii_format.specs.Reader.{Consumed}
use Rattle.bsii_format.specs.Prototypes.{ValuePrototype, Prototype}
use Rattle.bsii_format.specs.Blocks.{DataValue, DataBlock}
use Rattle.bsii_format.specs.File.{BsiiFile, Record, prototype, block, fields_bytes, values_bytes, record_bytes, records_bytes}
use Rattle.bsii_widening.specs.Marks.{MarkedRecords, new_records}
use Rattle.bsii_widening.specs.Insertions.{a_field, a_prototype, a_block, insert}
use Rattle.bsii_widening.specs.Claim.{new_file}

-- ---- (ii) and (iii): the record's bytes "in front of any record"

-- what stands in front of record number k of the file, and from it on
unfoldable pub front_bytes : ℕ → BsiiFile → MarkedRecords → List ℕ
front_bytes k f M = f.header.raw ++ records_bytes (take k (new_records M))

unfoldable pub back_bytes : ℕ → BsiiFile → List ℕ → MarkedRecords → List ℕ
back_bytes k f r M = records_bytes (drop k (new_records M)) ++ (f.end ++ r)

pub record OnePlace (k : ℕ) (q : Record) (f : BsiiFile) (r : List ℕ) (M M' : MarkedRecords) : Type 0 where
  pub before : new_file f r M ≡ front_bytes k f M ++ back_bytes k f r M
  pub after : new_file f r M' ≡ front_bytes k f M ++ (record_bytes q ++ back_bytes k f r M)

abbrev pub RecordSpliced : Type 0
RecordSpliced =
    (f : BsiiFile) (r : List ℕ) (M : MarkedRecords) (k : ℕ)
    → ((p : Prototype) → OnePlace k (prototype p) f r M (insert (a_prototype k p) M)) × ((b : DataBlock) → OnePlace k (block b) f r M (insert (a_block k b) M))

-- ---- (i): the definition's bytes in the prototype, a value's in each block of its id, at position p of both

unfoldable pub into_fields : ℕ → List ℕ → Prototype → List ℕ
into_fields p s q = q.head ++ ((fields_bytes (take p q.fields) ++ (s ++ fields_bytes (drop p q.fields))) ++ q.terminator)

unfoldable pub into_values : ℕ → List ℕ → DataBlock → List ℕ
into_values p s b = b.head ++ (b.id.raw ++ (values_bytes (take p b.values) ++ (s ++ values_bytes (drop p b.values))))

-- the records' bytes with s in the prototypes of the id n and v k in block number k, if it is of that id; the first block here has the number k
unfoldable pub spliced : ℕ → ℕ → List ℕ → (ℕ → List ℕ) → ℕ → List Record → List ℕ
spliced n p s v k [] = []
spliced n p s v k (prototype q ∷ l) = cond (eqb n q.id) (into_fields p s q) (record_bytes (prototype q)) ++ spliced n p s v k l
spliced n p s v k (block b ∷ l) = cond (eqb n b.prototype_id) (into_values p (v k) b) (record_bytes (block b)) ++ spliced n p s v (suc k) l

pub record EachSpot (n p : ℕ) (s : List ℕ) (v : ℕ → List ℕ) (f : BsiiFile) (r : List ℕ) (M M' : MarkedRecords) : Type 0 where
  -- with no bytes at the spots it is the file as it was
  pub before : new_file f r M ≡ f.header.raw ++ (spliced n p [] (λ k. []) 0 (new_records M) ++ (f.end ++ r))
  pub after : new_file f r M' ≡ f.header.raw ++ (spliced n p s v 0 (new_records M) ++ (f.end ++ r))

abbrev pub FieldSpliced : Type 0
FieldSpliced =
    (f : BsiiFile) (r : List ℕ) (M : MarkedRecords) (n p : ℕ) (d : Consumed ValuePrototype) (v : ℕ → DataValue)
    → EachSpot n p d.raw (λ k. (v k).raw) f r M (insert (a_field n p d v) M)
