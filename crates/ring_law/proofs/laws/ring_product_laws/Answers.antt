use Rattle.std.proofs.Common.{◌∙◌}
use Rattle.std.specs.Prelude.{pos}
use Rattle.ring_law.proofs.laws.ring_product_laws.Goals as goal
use Rattle.ring_law.proofs.WholeNumbers.{int_one_mul}
use Rattle.ring_law.proofs.RingProduct.{ring_product_add, ring_product_assoc, ring_product_comm, ring_product_constant}
use Rattle.ring_law.proofs.ProductPairs.{ring_product-pairs}

pub returns-clause-commutes : goal.returns-clause-commutes
returns-clause-commutes c = λ n a b k l. ring_product_comm n a b k

pub returns-clause-associates : goal.returns-clause-associates
returns-clause-associates c = λ n a b d positive k l. ring_product_assoc n positive a b d k

pub returns-clause-distributes : goal.returns-clause-distributes
returns-clause-distributes c = λ n a b d k l. ring_product_add n a b d k

pub returns-clause-neutral : goal.returns-clause-neutral
returns-clause-neutral c = λ n a k l. ring_product_constant n a (pos 1) k l ∙ int_one_mul (a k)

pub returns-clause-schoolbook : goal.returns-clause-schoolbook
returns-clause-schoolbook c = λ n a b k l. ring_product-pairs n a b k l
