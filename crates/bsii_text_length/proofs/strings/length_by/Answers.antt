-- By the largest class: bare is the bytes themselves, quoted two quotes more, and else two more than the escaped bytes.
use mathlib.Core.Path.{◌≡◌, sym, ap, ◌∙◌}
use Prim.Native.Nat.{◌≤◌}
use mathlib.Core.Logic.{⊎_elim}
use native.Mathlib.Omega.{arith}
use lib.ListN.{length}
use borrow.Author.Tests.{eqb-true, eqb-false}
use Rattle.bsii_text_length.specs.Classes.{rank, worst}
use Rattle.bsii_text_length.proofs.StringLaws.{empty_text}
use Rattle.bsii_text_length.proofs.ClassLaws.{bare_size, escaped_size, raw_size}
use Rattle.bsii_text_length.proofs.strings.length_by.Goals as goal

pub returns-then-is_empty : goal.returns-then-is_empty
returns-then-is_empty c = sym (ap length (empty_text c.args.bytes.now (eqb-true _ 0 (sym c.is_empty.ensures ∙ c.if-is_empty.true))))

pub returns-in-Bare : goal.returns-in-Bare
unfolding rank
returns-in-Bare c =
    let s = c.args.bytes.now in
    let e : rank (worst s) ≡ 0 = ap rank (sym c.requires.1 ∙ c.in-Bare.is) in
    bare_size s (omega (arith, eqb-false _ 0 (sym c.is_empty.ensures ∙ c.if-is_empty.false))) (omega arith)

pub returns-in-Quoted : goal.returns-in-Quoted
unfolding rank
returns-in-Quoted c =
    let s = c.args.bytes.now in
    let e : rank (worst s) ≡ 1 = ap rank (sym c.requires.1 ∙ c.in-Quoted.is) in
    raw_size s (omega (arith, eqb-false _ 0 (sym c.is_empty.ensures ∙ c.if-is_empty.false))) e

pub returns-in-Control : goal.returns-in-Control
unfolding rank
returns-in-Control c =
    let s = c.args.bytes.now in
    let h : 1 ≤ rank (worst s) =
    ⊎_elim (λ e. omega (arith, ap rank (sym c.requires.1 ∙ e))) (λ e. omega (arith, ap rank (sym c.requires.1 ∙ e))) c.in-Control.is in
    omega (arith, c.escaped_length.ensures.0, escaped_size s (omega (arith, eqb-false _ 0 (sym c.is_empty.ensures ∙ c.if-is_empty.false))) h)
