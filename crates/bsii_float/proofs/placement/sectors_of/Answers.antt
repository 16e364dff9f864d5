use Rattle.std.proofs.Common.{ℕ, ◌/◌, ◌%◌, ap, ◌∙◌, arith}
use Rattle.bsii_format.specs.Floats.{coefficient}
use Rattle.bsii_float.proofs.Coefficient.{low_part, high_part}
use Rattle.bsii_float.proofs.placement.sectors_of.Goals as goal

pub returns : goal.returns
returns c =
    let z = coefficient c.args.bits in
    (ap (λ (n : ℕ). n % 4096) c.coefficient-c.ensures ∙ low_part z, ap (λ (n : ℕ). n / 4096 % 4096) c.coefficient-c.ensures ∙ high_part z, omega arith, omega arith)
