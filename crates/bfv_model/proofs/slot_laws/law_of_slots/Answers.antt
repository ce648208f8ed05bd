use Rattle.bfv_model.proofs.SlotSets.{slots-ring_sum, slots-ring_product, slots-ring_turn, slots-ring_swap}
use Rattle.bfv_model.proofs.slot_laws.law_of_slots.Goals as goal

pub returns-clause-sum : goal.returns-clause-sum
returns-clause-sum c = slots-ring_sum

pub returns-clause-product : goal.returns-clause-product
returns-clause-product c = slots-ring_product

pub returns-clause-turn : goal.returns-clause-turn
returns-clause-turn c = slots-ring_turn

pub returns-clause-swap : goal.returns-clause-swap
returns-clause-swap c = slots-ring_swap
