-- `utf8::trail`: The two tests are the range.
use borrow.Author.Tests.{le-leb, lt-leb}
use Rattle.bsii_format.specs.Utf8.{within}
use Rattle.bsii_string.proofs.utf8.trail.Goals as goal

pub returns-then-byte-low : goal.returns-then-byte-low
unfolding within
returns-then-byte-low c = simp (lt-leb _ _ c.if-byte-low.true)

pub returns-then-high-byte : goal.returns-then-high-byte
unfolding within
returns-then-high-byte c = simp (le-leb _ _ c.if-byte-low.false, lt-leb _ _ c.if-high-byte.true)

pub returns : goal.returns
unfolding within
returns c = simp (le-leb _ _ c.if-byte-low.false, le-leb _ _ c.if-high-byte.false)
