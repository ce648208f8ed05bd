use Rattle.std.proofs.Common.{◌≡◌, ◌+◌, drop, map}
use Rattle.command_model.specs.Plan as plan
use Rattle.run_operands.specs.Demands.{operand_seen, refusal_of}
use Rattle.run_operands.proofs.matching.first_refusal.Given as goal

abbrev pub invariant-loop-place : goal.invariant-loop-place
invariant-loop-place l =
    plan.first_refusal (plan.of_cipher (refusal_of l.demand)) 3 (map operand_seen l.operands) ≡ plan.first_refusal (plan.of_cipher (refusal_of l.demand)) (3 + l.place) (drop l.place (map operand_seen l.operands))
