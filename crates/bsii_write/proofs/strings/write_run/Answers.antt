-- A run's text is its raw bytes, then the escape of the byte at `end` if there is one (`run_escape`), else nothing (`run_last`).
use mathlib.Core.List.{append-nil}
use mathlib.Core.Path.{sym, ◌∙◌}
use native.Mathlib.Omega.{arith}
use Rattle.bsii_window.proofs.Laws.{then, being}
use Rattle.bsii_write.specs.Runs.{escape}
use Rattle.bsii_write.proofs.RunLaws.{run_escape, run_last}
use Rattle.bsii_write.proofs.strings.write_run.Goals as goal

pub returns-then-end-bytes : goal.returns-then-end-bytes
unfolding escape
returns-then-end-bytes c =
    let a = c.args in
    let e = run_escape a.bytes.now a.start a.end (omega arith) in
    being (sym (rw (← c.from.ensures) at e)) (then c.put_all-next.ensures (then c.put_all-digits.ensures c.write_hex_padded.ensures))

pub returns : goal.returns
returns c =
    let a = c.args in
    being (sym (run_last a.bytes.now a.start a.end (omega arith) ∙ append-nil _)) c.put_all-next.ensures
