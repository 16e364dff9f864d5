use native.Mathlib.Omega.{arith}
use Rattle.bsii_index_record.proofs.Agreeing.{few_bytes}
use Rattle.bsii_index.proofs.Writing.{readable_short, readable_room, readable_written}
use Rattle.bsii_index.proofs.write.write_read.Goals as goal

pub overflow_mul-length-2 : goal.overflow_mul-length-2
overflow_mul-length-2 c = omega (arith, few_bytes c.args.blocks c.args.width c.requires.few c.requires.width.1)

pub returns-then-space-length : goal.returns-then-space-length
returns-then-space-length c = rw c.refused.ensures (readable_short c.requires c.args.space.now c.if-space-length.true)

pub write_records-requires : goal.write_records-requires
write_records-requires c = readable_room c.requires c.args.space.now (omega (arith, c.if-space-length.false))

pub returns : goal.returns
returns c = readable_written c.requires c.args.space.now (omega (arith, c.if-space-length.false)) c.write_records.ensures
