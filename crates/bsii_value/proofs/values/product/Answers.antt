-- `values::product`: Two numbers of 32 bits have a product of 64.
use Rattle.bsii_value.proofs.NumberRows.{product_below}
use Rattle.bsii_value.proofs.values.product.Goals as goal

pub overflow_mul-result : goal.overflow_mul-result
overflow_mul-result c = record { fits = product_below c.ranges.n.fits c.ranges.m.fits }
