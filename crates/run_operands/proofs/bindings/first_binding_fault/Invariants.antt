use Rattle.std.proofs.Common.{◌≡◌, ◌-◌, [], take, drop, map}
use Rattle.std.specs.String.{string_bytes}
use Rattle.command_model.specs.Bindings.{bound_names, first_binding_fault}
use Rattle.run_operands.proofs.bindings.first_binding_fault.Given as goal

abbrev pub invariant-loop-word : goal.invariant-loop-word
invariant-loop-word l =
    let names = bound_names (map string_bytes l.words) in
    first_binding_fault l.script [] names ≡ first_binding_fault l.script (take (l.word - 3) names) (drop (l.word - 3) names)
