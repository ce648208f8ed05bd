use Rattle.std.specs.Str.{bytes_eq}
use Rattle.run_operands.proofs.Places.{FailsBefore}
use Rattle.run_operands.proofs.bindings.input_named.Given as goal

abbrev pub invariant-loop-input : goal.invariant-loop-input
invariant-loop-input l = FailsBefore (λ input. bytes_eq input.name l.name) l.script.inputs l.input
