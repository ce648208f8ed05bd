use Rattle.std.proofs.Common.{map}
use Rattle.std.specs.Prelude.{is_none}
use Rattle.std.specs.String.{string_bytes}
use Rattle.command_model.specs.Bindings.{bound_names, place_bound}
use Rattle.run_operands.proofs.Places.{FailsBefore}
use Rattle.run_operands.proofs.bindings.unbound_input.Given as goal

abbrev pub invariant-loop-input : goal.invariant-loop-input
invariant-loop-input l = FailsBefore (λ input. is_none (place_bound (bound_names (map string_bytes l.words)) input.name)) l.script.inputs l.input
