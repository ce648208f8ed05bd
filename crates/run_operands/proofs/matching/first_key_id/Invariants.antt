use Rattle.std.proofs.Common.{◌≡◌, ℕ, ◌<◌, drop, map}
use Rattle.std.specs.Prelude.{slice_get, Some}
use Rattle.file_model.specs.declared.head.Head.{Head}
use Rattle.command_model.specs.Bindings as bindings
use Rattle.run_operands.specs.Demands.{operand_seen}
use Rattle.run_operands.specs.declared.bound_files.Operand.TheVariants.{Cipher}
use Rattle.run_operands.proofs.matching.first_key_id.Given as goal

abbrev pub invariant-loop-operand : goal.invariant-loop-operand
invariant-loop-operand l = record {
  rest : bindings.first_key_id (map operand_seen l.operands) ≡ bindings.first_key_id (drop l.operand-index (map operand_seen l.operands));
  none : (p : ℕ) (head : Head) → p < l.operand-index → slice_get l.operands p ≡ Some (Cipher head) → ⊥;
}
