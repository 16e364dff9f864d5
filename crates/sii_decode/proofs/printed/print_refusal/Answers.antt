use native.Mathlib.Omega.{arith}
use Rattle.bsii_string.specs.Answers.{fault_is}
use Rattle.sii_decode.proofs.Laws.{refusal_length, behind, wrote_starts}
use Rattle.sii_decode.proofs.printed.print_refusal.Goals as goal

pub overflow_sub-result : goal.overflow_sub-result
overflow_sub-result c = omega (arith, behind c.write_refusal.ensures (refusal_length (fault_is c.args.f) (omega arith)) c.requires)

pub returns : goal.returns
returns c = wrote_starts c.write_refusal.ensures (refusal_length (fault_is c.args.f) (omega arith)) c.requires
