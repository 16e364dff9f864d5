-- `strings::str_parser`: The length is read, then the bytes run out, are no UTF-8, or are the string.
use Prim.Native.Nat.{ℕ, ◌≤◌}
use mathlib.Core.List.{List}
use mathlib.Core.Path.{◌≡◌, refl, sym, ap, ◌∙◌}
use native.Mathlib.Omega.{arith}
use lib.ListN.{length, take, drop}
use Rattle.bsii_format.specs.Reader.{ok, bytes, after, ◌>>=◌, ◌<$>◌}
use Rattle.bsii_format.specs.Numbers.{number}
use Rattle.bsii_format.specs.Utf8.{utf8}
use Rattle.bsii_format.proofs.Parsers.{number_exact}
use Rattle.bsii_format.proofs.Positions.{moved_on}
use Rattle.bsii_string.proofs.Ends.{fault_at_law}
use Rattle.bsii_string.proofs.Passed.{passed_on}
use Rattle.bsii_string.proofs.Texts.{str_short, str_cut, str_not, str_whole, part}
use Rattle.bsii_string.proofs.Widths.{bytes_there}
use Rattle.bsii_string.proofs.strings.str_parser.Goals as goal

-- the length was read, so the string's bytes start inside the file
inside : (s : List ℕ) (at : ℕ) {n start : ℕ} → ok n start (drop start s) ≡ number 4 at (drop at s) → start ≤ length s
unfolding number bytes after ◌>>=◌ ◌<$>◌
inside s at e = (moved_on (number_exact 4) refl s at (sym e)).1

pub returns-in_err-n : goal.returns-in_err-n
returns-in_err-n c =
    let a = c.args in
    rw (passed_on c.from_residual.ensures.1) (sym (str_short (drop a.at a.s.now) a.at (sym c.in_err-n.ensures)))

pub returns-in_err-next : goal.returns-in_err-next
returns-in_err-next c =
    let s = c.args.s.now in
    let n = c.in_ok-n.n in
    let i = c.in_ok-n.start in
    rw (passed_on c.from_residual-in_err-next.ensures.1)
    (sym (str_cut s c.args.at n i (sym c.in_ok-n.ensures) (fault_at_law (bytes n i (drop i s)) c.in_err-next.ensures)))

pub slice_bounds-is_utf8-count : goal.slice_bounds-is_utf8-count
slice_bounds-is_utf8-count c = omega (arith, bytes_there c.in_ok-n.n c.args.s.now c.in_ok-n.start c.in_ok-next.ensures)

pub slice_bounds-is_utf8-start : goal.slice_bounds-is_utf8-start
slice_bounds-is_utf8-start c = omega (arith, bytes_there c.in_ok-n.n c.args.s.now c.in_ok-n.start c.in_ok-next.ensures)

pub slice_bounds-is_utf8-end : goal.slice_bounds-is_utf8-end
slice_bounds-is_utf8-end c =
    let s = c.args.s.now in
    omega (arith, inside s c.args.at c.in_ok-n.ensures, bytes_there c.in_ok-n.n s c.in_ok-n.start c.in_ok-next.ensures)

pub returns-then-is_utf8 : goal.returns-then-is_utf8
returns-then-is_utf8 c =
    let s = c.args.s.now in
    let n = c.in_ok-n.n in
    let i = c.in_ok-n.start in
    let there = bytes_there n s i c.in_ok-next.ensures in
    let there_too = part i n s there.1 in
    ap (λ (l : List ℕ). ok l c.in_ok-next.next (drop c.in_ok-next.next s)) there_too
    ∙ ap (λ (m : ℕ). ok (take n (drop i s)) m (drop m s)) there.1
    ∙ sym (str_whole s c.args.at n i (sym c.in_ok-n.ensures) there.0 (ap utf8 (sym there_too) ∙ sym c.is_utf8.ensures ∙ c.if-is_utf8.true))

pub returns-else-is_utf8 : goal.returns-else-is_utf8
returns-else-is_utf8 c =
    let s = c.args.s.now in
    let n = c.in_ok-n.n in
    let i = c.in_ok-n.start in
    let there = bytes_there n s i c.in_ok-next.ensures in
    rw c.refused.ensures (sym (str_not s c.args.at n i (sym c.in_ok-n.ensures) there.0 (ap utf8 (sym (part i n s there.1)) ∙ sym c.is_utf8.ensures ∙ c.if-is_utf8.false)))
