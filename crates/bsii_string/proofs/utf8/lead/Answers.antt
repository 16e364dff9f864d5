-- `utf8::lead`: Between two bounds of the chain of tests every byte has one row of table 3-7, by one computation over the bytes between them.
use mathlib.Core.Path.{refl}
use native.Mathlib.Omega.{arith}
use Rattle.bsii_format.specs.Utf8.{within, table3_7, trail_of}
use Rattle.bsii_string.specs.States.{to_come}
use Rattle.bsii_string.specs.declared.utf8.State.TheVariants.{Between, One, Two, Three, AfterE0, AfterEd, AfterF0, AfterF4, Broken}
use Rattle.bsii_string.proofs.Tables.{tabulate, between}
use Rattle.bsii_string.proofs.utf8.lead.Goals as goal

pub returns-then-byte-lt128 : goal.returns-then-byte-lt128
unfolding tabulate trail_of table3_7 within
returns-then-byte-lt128 c = between 0 128 (λ b. to_come Between) (trail_of table3_7) refl c.args.byte (omega arith) (omega arith)

pub returns-then-byte-lt194 : goal.returns-then-byte-lt194
unfolding tabulate trail_of table3_7 within
returns-then-byte-lt194 c = between 128 66 (λ b. to_come Broken) (trail_of table3_7) refl c.args.byte (omega arith) (omega arith)

pub returns-then-byte-lt224 : goal.returns-then-byte-lt224
unfolding tabulate trail_of table3_7 within
returns-then-byte-lt224 c = between 194 30 (λ b. to_come One) (trail_of table3_7) refl c.args.byte (omega arith) (omega arith)

pub returns-then-byte-lt225 : goal.returns-then-byte-lt225
unfolding tabulate trail_of table3_7 within
returns-then-byte-lt225 c = between 224 1 (λ b. to_come AfterE0) (trail_of table3_7) refl c.args.byte (omega arith) (omega arith)

pub returns-then-byte-lt237 : goal.returns-then-byte-lt237
unfolding tabulate trail_of table3_7 within
returns-then-byte-lt237 c = between 225 12 (λ b. to_come Two) (trail_of table3_7) refl c.args.byte (omega arith) (omega arith)

pub returns-then-byte-lt238 : goal.returns-then-byte-lt238
unfolding tabulate trail_of table3_7 within
returns-then-byte-lt238 c = between 237 1 (λ b. to_come AfterEd) (trail_of table3_7) refl c.args.byte (omega arith) (omega arith)

pub returns-then-byte-lt240 : goal.returns-then-byte-lt240
unfolding tabulate trail_of table3_7 within
returns-then-byte-lt240 c = between 238 2 (λ b. to_come Two) (trail_of table3_7) refl c.args.byte (omega arith) (omega arith)

pub returns-then-byte-lt241 : goal.returns-then-byte-lt241
unfolding tabulate trail_of table3_7 within
returns-then-byte-lt241 c = between 240 1 (λ b. to_come AfterF0) (trail_of table3_7) refl c.args.byte (omega arith) (omega arith)

pub returns-then-byte-lt244 : goal.returns-then-byte-lt244
unfolding tabulate trail_of table3_7 within
returns-then-byte-lt244 c = between 241 3 (λ b. to_come Three) (trail_of table3_7) refl c.args.byte (omega arith) (omega arith)

pub returns-then-byte-lt245 : goal.returns-then-byte-lt245
unfolding tabulate trail_of table3_7 within
returns-then-byte-lt245 c = between 244 1 (λ b. to_come AfterF4) (trail_of table3_7) refl c.args.byte (omega arith) (omega arith)

pub returns : goal.returns
unfolding tabulate trail_of table3_7 within
returns c = between 245 11 (λ b. to_come Broken) (trail_of table3_7) refl c.args.byte (omega arith) (omega arith)
