-- The bounds passed so far place the byte before, inside or past each of the three ranges and tell it from `_`: `is_bare` is the disjunction of these four.
use native.Mathlib.Omega.{arith}
use borrow.Author.Tests.{eq-eqb, ne_eqb}
use Rattle.bsii_text_length.proofs.StringLaws.{inside, before, past, bare}
use Rattle.bsii_text_length.proofs.ClassLaws.{class_high, class_low, class_raw}
use Rattle.bsii_text_length.proofs.strings.class_of.Goals as goal

pub returns-in-0-to-31 : goal.returns-in-0-to-31
returns-in-0-to-31 c = class_low c.args.b (omega arith)

pub returns-in-128-to-255 : goal.returns-in-128-to-255
returns-in-128-to-255 c = class_high c.args.b (omega arith)

pub returns-in-48-to-57 : goal.returns-in-48-to-57
returns-in-48-to-57 c = let x = c.args.b in class_raw x (omega arith) (omega arith) (bare x (past 0x30 0x39 x (omega arith)) (past 0x41 0x5a x (omega arith)) (eq-eqb x 0x5f (omega arith)) (before 0x61 0x7a x (omega arith)))

pub returns-in-48-to-57-2 : goal.returns-in-48-to-57-2
returns-in-48-to-57-2 c = let x = c.args.b in class_raw x (omega arith) (omega arith) (bare x (inside 0x30 0x39 x (omega arith) (omega arith)) (before 0x41 0x5a x (omega arith)) (ne_eqb x 0x5f (λ e. omega arith)) (before 0x61 0x7a x (omega arith)))

pub returns-in-48-to-57-3 : goal.returns-in-48-to-57-3
returns-in-48-to-57-3 c = let x = c.args.b in class_raw x (omega arith) (omega arith) (bare x (past 0x30 0x39 x (omega arith)) (inside 0x41 0x5a x (omega arith) (omega arith)) (ne_eqb x 0x5f (λ e. omega arith)) (before 0x61 0x7a x (omega arith)))

pub returns-in-48-to-57-4 : goal.returns-in-48-to-57-4
returns-in-48-to-57-4 c = let x = c.args.b in class_raw x (omega arith) (omega arith) (bare x (past 0x30 0x39 x (omega arith)) (past 0x41 0x5a x (omega arith)) (ne_eqb x 0x5f (λ e. omega arith)) (inside 0x61 0x7a x (omega arith) (omega arith)))

pub returns-in_default : goal.returns-in_default
returns-in_default c = let x = c.args.b in class_raw x (omega arith) (omega arith) (bare x (before 0x30 0x39 x (omega arith)) (before 0x41 0x5a x (omega arith)) (ne_eqb x 0x5f (λ e. omega arith)) (before 0x61 0x7a x (omega arith)))

pub returns-in_default-2 : goal.returns-in_default-2
returns-in_default-2 c = let x = c.args.b in class_raw x (omega arith) (omega arith) (bare x (past 0x30 0x39 x (omega arith)) (before 0x41 0x5a x (omega arith)) (ne_eqb x 0x5f (λ e. omega arith)) (before 0x61 0x7a x (omega arith)))

pub returns-in_default-3 : goal.returns-in_default-3
returns-in_default-3 c = let x = c.args.b in class_raw x (omega arith) (omega arith) (bare x (past 0x30 0x39 x (omega arith)) (past 0x41 0x5a x (omega arith)) (ne_eqb x 0x5f (λ e. omega arith)) (before 0x61 0x7a x (omega arith)))

pub returns-in_default-4 : goal.returns-in_default-4
returns-in_default-4 c = let x = c.args.b in class_raw x (omega arith) (omega arith) (bare x (past 0x30 0x39 x (omega arith)) (past 0x41 0x5a x (omega arith)) (ne_eqb x 0x5f (λ e. omega arith)) (past 0x61 0x7a x (omega arith)))
