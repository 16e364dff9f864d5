-- The index calls on the worked files, by computation.
use mathlib.Core.Path.{refl}
use Rattle.bsii_format.specs.Worked.{Hold}
use Rattle.bsii_format.specs.WorkedCalls.{redefined_file, recounted_file, twin_file, seven_part, seven_file}
use Rattle.bsii_derived.specs.WorkedIndex.{save_a, save_b, bad_string, zero_id, two_ids, index_a, writes, checks, looks, looked_parts, onces}
use Rattle.bsii_derived.proofs.Computes.{computes_index}

pub index_holds : Hold writes × Hold checks × Hold looks × Hold looked_parts × Hold onces
unfolding computes_index redefined_file recounted_file twin_file seven_part seven_file save_a save_b bad_string zero_id two_ids index_a writes checks looks looked_parts onces
index_holds = (refl, refl, refl, refl, refl)
