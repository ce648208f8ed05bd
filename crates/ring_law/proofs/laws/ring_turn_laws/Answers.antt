use Rattle.std.proofs.Common.{◌+◌, ◌*◌}
use Rattle.ring_law.proofs.laws.ring_turn_laws.Goals as goal
use Rattle.ring_law.proofs.PowerCoefficients.{power_coefficient_odd_round}
use Rattle.ring_law.proofs.RingTurn.{ring_turn_add, ring_turn_constant, ring_turn_product, ring_turn_turn}
use Rattle.ring_law.proofs.RingSize.{ring_size-ring_turn}

pub returns-clause-of_sum : goal.returns-clause-of_sum
returns-clause-of_sum c = λ n h a b k l. ring_turn_add n (2 * h + 1) a b k

pub returns-clause-of_product : goal.returns-clause-of_product
returns-clause-of_product c = λ n h a b positive k l. ring_turn_product n (2 * h + 1) positive (power_coefficient_odd_round n h positive) a b k

pub returns-clause-of_constant : goal.returns-clause-of_constant
returns-clause-of_constant c = λ n h x k l. ring_turn_constant n (2 * h + 1) x k l

pub returns-clause-of_turn : goal.returns-clause-of_turn
returns-clause-of_turn c = λ n h g a positive k l. ring_turn_turn n (2 * h + 1) positive (power_coefficient_odd_round n h positive) g a k

pub returns-clause-of_size : goal.returns-clause-of_size
returns-clause-of_size c = ring_size-ring_turn
