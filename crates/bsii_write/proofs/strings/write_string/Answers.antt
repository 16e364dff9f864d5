-- The largest class of the bytes decides as `string_text` does: bare or not, raw between quotes (`worst_raw`), and else three writes join to the quoted text.
use Prim.Native.Nat.{ℕ, ◌<◌}
use mathlib.Core.List.{List, ◌++◌}
use mathlib.Core.Path.{◌≡◌, sym, ap, ◌∙◌}
use native.Mathlib.Omega.{arith}
use lib.ListN.{length}
use borrow.Author.Tests.{eqb-true, eqb-false}
use Rattle.bsii_format.specs.Ascii.{ascii}
use Rattle.bsii_text_length.specs.Classes.{rank, worst}
use Rattle.bsii_text_length.proofs.ClassLaws.{beyond_bare, worst_bare, worst_quoted, worst_raw}
use Rattle.bsii_text_length.proofs.StringLaws.{empty_text, bare_text, quoted_text}
use Rattle.bsii_window.proofs.Laws.{then, being}
use Rattle.bsii_write.proofs.strings.write_string.Goals as goal

pub returns-then-is_empty : goal.returns-then-is_empty
returns-then-is_empty c = being (sym (empty_text c.args.bytes.now (eqb-true _ 0 (sym c.is_empty.ensures ∙ c.if-is_empty.true)))) c.put_all.ensures

pub returns-in-Bare : goal.returns-in-Bare
unfolding rank
returns-in-Bare c =
    let s = c.args.bytes.now in
    let e : rank (worst s) ≡ 0 = ap rank (sym c.worst.ensures ∙ c.in-Bare.is) in
    let some : 0 < length s = omega (arith, eqb-false _ 0 (sym c.is_empty.ensures ∙ c.if-is_empty.false)) in
    being (sym (bare_text s some (worst_bare s (omega arith)))) c.put_all-in-Bare.ensures

pub returns-in-Quoted : goal.returns-in-Quoted
unfolding rank
returns-in-Quoted c =
    let s = c.args.bytes.now in
    let e : rank (worst s) ≡ 1 = ap rank (sym c.worst.ensures ∙ c.in-Quoted.is) in
    let some : 0 < length s = omega (arith, eqb-false _ 0 (sym c.is_empty.ensures ∙ c.if-is_empty.false)) in
    let raw = ap (λ (x : List ℕ). ascii "\"" ++ x ++ ascii "\"") (worst_raw s (omega arith)) in
    being (sym (quoted_text s some (worst_quoted s (omega arith)) ∙ raw)) (then (then c.put-first.ensures c.put_all-last.ensures) c.put.ensures)

pub returns-in_default : goal.returns-in_default
returns-in_default c =
    let s = c.args.bytes.now in
    let some : 0 < length s = omega (arith, eqb-false _ 0 (sym c.is_empty.ensures ∙ c.if-is_empty.false)) in
    let q = worst_quoted s (rw (← c.worst.ensures) (beyond_bare c.worst.result c.in_default.not-Bare)) in
    being (sym (quoted_text s some q)) (then (then c.put-first-in_default.ensures c.write_escaped-last.ensures) c.put-in_default.ensures)
