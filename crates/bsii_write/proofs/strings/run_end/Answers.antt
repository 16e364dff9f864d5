-- The first byte that is not raw is where `position` finds it among the bytes from the start on, or their end.
use Prim.Native.Nat.{ℕ, ◌+◌, ◌-◌}
use mathlib.Core.Path.{◌≡◌, ap, ◌∙◌}
use lib.ListN.{length, take, drop}
use Rattle.std.proofs.Common.{rules, tests}
use Rattle.std.specs.Prelude.{not}
use Rattle.std.proofs.lemmas.Iterator.{YieldsList-from_slice}
use Rattle.std.proofs.lemmas.Iterator.Search.{position_from_yields_List}
use Rattle.bsii_format.specs.Utf8.{◌to◌, within}
use Rattle.bsii_window.proofs.Laws.{rest}
use Rattle.bsii_write.specs.Runs.{run_end}
use Rattle.bsii_write.proofs.RunLaws.{run_found}
use Rattle.bsii_write.proofs.strings.run_end.Goals as goal

found : (c : goal.After-unwrap_or) → c.args.start + c.unwrap_or.result ≡ run_end c.args.bytes.now c.args.start
found c =
    let s = c.args.bytes.now in
    let i = c.args.start in
    let p = position_from_yields_List (λ (y : ℕ). not (within (32 to 127) y)) _ _ c.position.result c.position.ensures.ran
    (YieldsList-from_slice (drop i s) (c.iter.ensures.rest ∙ rest i s)) (λ x b q k. search (rules, tests)) in
    ap (λ (m : ℕ). i + m) c.unwrap_or.ensures ∙ run_found s i c.position.result (length (take (length s - i) (drop i s))) (ap length (rest i s)) p

pub returns : goal.returns
returns c = found c
