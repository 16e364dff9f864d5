-- Accepted definitions and an accepted id end where the unchecked readers say, so the first three refusals are never met; the values are as many as
-- the fields in force, so same_fields says which text the block has, and with equal counts it is the body's.
use mathlib.Core.Bool.{not}
use mathlib.Core.Path.{ap}
use Rattle.bsii_format.specs.Text.{value_text}
use Rattle.bsii_write_block.proofs.BlockLaws.{no_definition, no_last, no_id, other_count, whole_block}
use Rattle.bsii_write_block.proofs.blocks.write_data_block.Goals as goal

pub returns-in_err-fields : goal.returns-in_err-fields
returns-in_err-fields c =
    let a = c.args in
    no_definition value_text a.version a.s.now a.offset a.id a.in_force a.last a.out.now a.to c.in_err-fields.ensures _

pub returns-in_err-last_fields : goal.returns-in_err-last_fields
returns-in_err-last_fields c =
    let a = c.args in
    no_last value_text a.version a.s.now a.offset a.id a.in_force a.last a.out.now a.to c.in_err-last_fields.ensures _

pub returns-in_err-start : goal.returns-in_err-start
returns-in_err-start c =
    let a = c.args in
    no_id value_text a.version a.s.now a.offset a.id a.in_force a.last a.out.now a.to c.in_err-start.ensures _

pub returns-then-not-same_fields : goal.returns-then-not-same_fields
returns-then-not-same_fields c =
    let a = c.args in
    other_count value_text a.version a.s.now a.offset a.id a.in_force a.last a.out.now a.to c.in_ok-fields.ensures c.in_ok-last_fields.ensures c.same_fields.ensures c.refused.ensures (ap not c.if-not-same_fields.true)

pub returns : goal.returns
returns c =
    let a = c.args in
    whole_block value_text a.version a.s.now a.offset a.id a.in_force a.last a.out.now a.to c.in_ok-fields.ensures c.in_ok-last_fields.ensures c.same_fields.ensures (ap not c.if-not-same_fields.false) c.in_ok-start.ensures c.write_body.ensures
