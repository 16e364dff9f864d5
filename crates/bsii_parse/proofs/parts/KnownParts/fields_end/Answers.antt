use Rattle.bsii_parse.proofs.Passing.{list_skipped}
use Rattle.bsii_parse.proofs.parts.KnownParts.fields_end.Goals as goal

pub returns : goal.returns
returns c = list_skipped c.fields_with.ensures
