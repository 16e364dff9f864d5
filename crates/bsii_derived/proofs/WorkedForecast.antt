-- The forecast and the conversion on the worked files, by computation.
use mathlib.Core.Path.{refl}
use Rattle.bsii_format.specs.Worked.{Hold}
use Rattle.bsii_format.specs.WorkedCalls.{redefined_file, recounted_file, twin_file, unlisted_enum_file, seven_part, seven_file}
use Rattle.bsii_derived.specs.WorkedIndex.{save_a}
use Rattle.bsii_derived.specs.WorkedForecast.{haul_save, turned_a, small_save, forecasts, conversions}
use Rattle.bsii_derived.proofs.Computes.{computes_forecast}

pub forecasts_hold : Hold forecasts × Hold conversions
unfolding computes_forecast redefined_file recounted_file twin_file unlisted_enum_file seven_part seven_file save_a haul_save turned_a small_save forecasts conversions
forecasts_hold = (refl, refl)
