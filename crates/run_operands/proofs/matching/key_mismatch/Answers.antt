use Rattle.std.proofs.Common.{map, sym}
use Rattle.command_model.specs.Bindings as bindings
use Rattle.run_operands.specs.Demands.{operand_seen}
use Rattle.run_operands.proofs.Demanded.{no_refusal}
use Rattle.run_operands.proofs.matching.key_mismatch.Goals as goal

pub returns-in-None : goal.returns-in-None
returns-in-None c =
    sym (no_refusal (bindings.first_key_id (map operand_seen c.args.operands.now)) 3 c.args.operands.now (λ p head at. let never = c.in-None.ensures.some p head at in cc))
