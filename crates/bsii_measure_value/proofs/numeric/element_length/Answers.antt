use mathlib.Core.Path.{sym, ap}
use Rattle.bsii_value.specs.Kinds.{numeric_is}
use Rattle.bsii_value.proofs.ElementTexts.{other}
use Rattle.bsii_measure_value.proofs.NumberMeasures.{enum_length, other_length, length_by}
use Rattle.bsii_measure_value.proofs.numeric.element_length.Goals as goal

pub returns-in-Enum : goal.returns-in-Enum
returns-in-Enum c = let a = c.args in length_by (sym (ap numeric_is c.in-Enum.is)) (enum_length a.raw.now)

pub returns-in_default : goal.returns-in_default
returns-in_default c = let a = c.args in other_length (numeric_is a.kind) a.raw.now (other a.kind c.in_default.not-Enum) c.numeric_length.ensures
