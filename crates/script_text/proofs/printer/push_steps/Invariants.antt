use Rattle.std.proofs.Common.{◌≡◌, ◌++◌, take}
use Rattle.std.specs.List.{flat_map}
use Rattle.script_text.specs.Scripts.{register_names}
use Rattle.script_text.specs.Printed.{printed_step, plain_names}
use Rattle.script_text.proofs.printer.push_steps.Given as goal

abbrev pub invariant-loop-i : goal.invariant-loop-i
invariant-loop-i l = l.text.items ≡ l.initial.text.items ++ flat_map (printed_step (register_names l.script) (plain_names l.script)) (take l.i l.script-inside.steps.items)
