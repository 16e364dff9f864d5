-- `utf8::step`: Each state asks of the byte what the first range to come asks.
use Prim.Native.Nat.{ℕ}
use mathlib.Core.Path.{◌≡◌, sym, ap}
use mathlib.Core.Option.{Option}
use mathlib.Core.List.{List}
use Rattle.bsii_format.specs.Utf8.{Range, step as step_of}
use Rattle.bsii_string.specs.States.{to_come}
use Rattle.bsii_string.specs.declared.utf8.State.{State}
use Rattle.bsii_string.proofs.utf8.step.Goals as goal

-- what a step from the state q gives, said of the state that it was found to be
being : {q p : State} {o : Option (List Range)} (b : ℕ) → q ≡ p → o ≡ step_of (to_come p) b → o ≡ step_of (to_come q) b
being b e h = rw e h

pub returns-in-Between : goal.returns-in-Between
unfolding step_of
returns-in-Between c = being _ c.in-Between.is c.lead.ensures

pub returns-in-One : goal.returns-in-One
unfolding step_of
returns-in-One c = being _ c.in-One.is c.trail.ensures

pub returns-in-Two : goal.returns-in-Two
unfolding step_of
returns-in-Two c = being _ c.in-Two.is c.trail-in-Two.ensures

pub returns-in-Three : goal.returns-in-Three
unfolding step_of
returns-in-Three c = being _ c.in-Three.is c.trail-in-Three.ensures

pub returns-in-AfterE0 : goal.returns-in-AfterE0
unfolding step_of
returns-in-AfterE0 c = being _ c.in-AfterE0.is c.trail-in-AfterE0.ensures

pub returns-in-AfterEd : goal.returns-in-AfterEd
unfolding step_of
returns-in-AfterEd c = being _ c.in-AfterEd.is c.trail-in-AfterEd.ensures

pub returns-in-AfterF0 : goal.returns-in-AfterF0
unfolding step_of
returns-in-AfterF0 c = being _ c.in-AfterF0.is c.trail-in-AfterF0.ensures

pub returns-in-AfterF4 : goal.returns-in-AfterF4
unfolding step_of
returns-in-AfterF4 c = being _ c.in-AfterF4.is c.trail-in-AfterF4.ensures

pub returns-in-Broken : goal.returns-in-Broken
unfolding step_of
returns-in-Broken c = ap (λ (q : State). step_of (to_come q) c.args.byte) (sym c.in-Broken.is)
