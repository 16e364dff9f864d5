use native.Mathlib.Omega.{arith}
use Rattle.bsii_index_record.specs.Records.{record_is}
use Rattle.bsii_index_record.proofs.Records.{record_stored}
use Rattle.bsii_index_record.proofs.put_record.Goals as goal

pub returns : goal.returns
returns c =
    let a = c.args in
    cc (record_stored a.out.now a.width a.at (record_is a.entry) (omega arith))
