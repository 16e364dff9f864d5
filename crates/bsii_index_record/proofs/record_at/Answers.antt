use mathlib.Core.Path.{sym}
use native.Mathlib.Omega.{arith}
use lib.ListN.{length}
use Rattle.bsii_index_record.proofs.Records.{record_fits, found, not_found}
use Rattle.bsii_index_record.proofs.record_at.Goals as goal

pub returns-then-index-size : goal.returns-then-index-size
returns-then-index-size c =
    let a = c.args in
    sym (not_found a.width a.index.now a.k (omega arith) c.if-index-size.true)

pub returns : goal.returns
returns c =
    let a = c.args in
    let f = record_fits a.k (length a.index.now) a.width (omega arith) c.if-index-size.false in
    cc (found a.width a.index.now a.k f)
