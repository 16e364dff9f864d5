use Prim.Native.Nat.{◌^◌}
use mathlib.Core.Path.{◌∙◌}
use native.Mathlib.Omega.{arith}
use Rattle.std.proofs.Common.{rules, tests}
use Rattle.std.proofs.lemmas.Iterator.{YieldsList-from_slice, YieldsList-from_map}
use Rattle.std.proofs.lemmas.Iterator.Consumers.{sum_by_from_yields_List, fits_by_from_yields_list}
use Rattle.bsii_text_length.specs.Classes.{escape_size}
use Rattle.bsii_text_length.proofs.ClassLaws.{escaped_sum, escapes_most}
use Rattle.bsii_text_length.proofs.strings.escaped_length.Goals as goal

pub sum-requires-clause-fits : goal.sum-requires-clause-fits
sum-requires-clause-fits c =
    let s = c.args.bytes.now in
    fits_by_from_yields_list escape_size s c.map.result (2 ^ 64)
    (YieldsList-from_map _ escape_size (YieldsList-from_slice s cc) c.map.ensures.closure (λ x r q k. search (rules, tests))) (omega (arith, escapes_most s))

pub returns : goal.returns
returns c =
    let s = c.args.bytes.now in
    let e = sum_by_from_yields_List escape_size s c.map.result _ c.sum.ensures.ran
    (YieldsList-from_map _ escape_size (YieldsList-from_slice s cc) c.map.ensures.closure (λ x r q k. search (rules, tests))) in
    (e ∙ escaped_sum s, omega (arith, e, escapes_most s))
