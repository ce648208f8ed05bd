use Rattle.ring_law.proofs.laws.ring_size_laws.Goals as goal
use Rattle.ring_law.proofs.RingSize.{ring_size-ring_product, ring_size-ring_sum}

pub returns-clause-of_sum : goal.returns-clause-of_sum
returns-clause-of_sum c = ring_size-ring_sum

pub returns-clause-of_product : goal.returns-clause-of_product
returns-clause-of_product c = ring_size-ring_product
