use Rattle.std.proofs.Common.{◌≡◌, map, take}
use Rattle.serde_json.specs.View.{view}
use Rattle.script_text.specs.Scripts.{registers_of}
use Rattle.text_commands.proofs.RegisterLists.{objects}
use Rattle.text_commands.proofs.report.register_values.Given as goal

abbrev pub invariant-loop-register : goal.invariant-loop-register
invariant-loop-register l = map view l.values.items ≡ take l.register (objects (registers_of l.script) l.bounds)
