-- The states of the UTF-8 check: what each has still to come, in the specification's terms.
use Rattle.std.proofs.Math.Option.{Option, none, some}
use Rattle.std.specs.Prelude.{List, [], ◌∷◌}
use Rattle.bsii_format.specs.Utf8.{Range, ◌to◌}
use Rattle.bsii_string.specs.declared.utf8.State.{State}
use Rattle.bsii_string.specs.declared.utf8.State.TheVariants.{Between, One, Two, Three, AfterE0, AfterEd, AfterF0, AfterF4, Broken}

abbrev pub to_come : State → Option (List Range)
to_come Between = some []
to_come One = some (0x80 to 0xbf ∷ [])
to_come Two = some (0x80 to 0xbf ∷ 0x80 to 0xbf ∷ [])
to_come Three = some (0x80 to 0xbf ∷ 0x80 to 0xbf ∷ 0x80 to 0xbf ∷ [])
to_come AfterE0 = some (0xa0 to 0xbf ∷ 0x80 to 0xbf ∷ [])
to_come AfterEd = some (0x80 to 0x9f ∷ 0x80 to 0xbf ∷ [])
to_come AfterF0 = some (0x90 to 0xbf ∷ 0x80 to 0xbf ∷ 0x80 to 0xbf ∷ [])
to_come AfterF4 = some (0x80 to 0x8f ∷ 0x80 to 0xbf ∷ 0x80 to 0xbf ∷ [])
to_come Broken = none
