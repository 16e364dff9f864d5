-- An accepted record has the kind that kind_at says, so each arm meets it as the prototype or the block that it is, and the end record meets nothing
-- and leaves the table.
use mathlib.Core.Path.{ap, ◌∙◌}
use Rattle.std.specs.Prelude.{Some}
use Rattle.bsii_walk.proofs.Meeting.{again_end, again_prototype, again_prototype_not, again_carries, again_carries_not}
use Rattle.bsii_walk.proofs.records.record_again.Goals as goal

pub returns-in_err-id : goal.returns-in_err-id
returns-in_err-id c = let a = c.args in rw c.from_residual.ensures (again_end a.version a.s.now a.at a.table.now a.rows c.kind_at.ensures c.in_err-id.was)

pub returns-in_err-next-in-Defines : goal.returns-in_err-next-in-Defines
returns-in_err-next-in-Defines c =
    let a = c.args in
    rw c.from_residual-in_err-next-in-Defines.ensures
    (again_prototype_not a.version a.s.now a.at a.table.now a.rows c.kind_at.ensures (c.in_ok-id.was ∙ ap Some c.in-Defines.is) c.in_err-next-in-Defines.ensures)

pub returns-in_ok-next-in-Defines : goal.returns-in_ok-next-in-Defines
returns-in_ok-next-in-Defines c =
    let a = c.args in
    again_prototype a.version a.s.now a.at a.table.now a.rows c.kind_at.ensures (c.in_ok-id.was ∙ ap Some c.in-Defines.is) c.in_ok-next-in-Defines.ensures

pub returns-in_err-block-in-Carries : goal.returns-in_err-block-in-Carries
returns-in_err-block-in-Carries c =
    let a = c.args in
    rw c.from_residual-in_err-block-in-Carries.ensures
    (again_carries_not a.version a.s.now a.at a.table.now a.rows c.kind_at.ensures (c.in_ok-id.was ∙ ap Some c.in-Carries.is) c.in_err-block-in-Carries.ensures)

pub returns-in_ok-block-in-Carries : goal.returns-in_ok-block-in-Carries
returns-in_ok-block-in-Carries c =
    let a = c.args in
    again_carries a.version a.s.now a.at a.table.now a.rows c.kind_at.ensures (c.in_ok-id.was ∙ ap Some c.in-Carries.is) c.in_ok-block-in-Carries.ensures
