-- The calls on the worked files, by computation.
use mathlib.Core.Path.{refl}
use Rattle.bsii_format.specs.Worked.{Hold}
use Rattle.bsii_format.specs.WorkedCalls.{redefined_file, recounted_file, twin_file, enum_file, unlisted_enum_file, small_file, triples_part, quadruple_part, vectors_file, vectors_text, seven_part, seven_file, seven_text, sevens_part, sevens_file, sevens_text, readings, cut_readings, prototypes, blocks, named_blocks, worked_part, fields, parts, elements, cut_elements, texts, printed_text, printed}
use Rattle.bsii_format.proofs.Worked.{computes}

pub cuts_hold : Hold cut_readings × Hold cut_elements
unfolding computes small_file triples_part quadruple_part vectors_file seven_part seven_file sevens_part cut_readings cut_elements
cuts_hold = (refl, refl)

pub calls_hold : Hold readings × Hold prototypes × Hold blocks × Hold named_blocks × Hold fields × Hold parts × Hold elements × Hold texts
unfolding computes redefined_file recounted_file twin_file enum_file unlisted_enum_file triples_part quadruple_part vectors_file vectors_text seven_part seven_file seven_text sevens_part sevens_file sevens_text readings prototypes blocks named_blocks worked_part fields parts elements texts
calls_hold = (refl, refl, refl, refl, refl, refl, refl, refl)

pub printed_hold : Hold printed
unfolding computes recounted_file unlisted_enum_file printed_text printed
printed_hold = refl
