use Rattle.std.proofs.Common.{take, map}
use Rattle.std.specs.List.{AllZip}
use Rattle.std.specs.String.{string_bytes}
use Rattle.script_text.specs.Scripts.{plain_inputs}
use Rattle.run_operands.specs.Ordered.{AreValuesOf}
use Rattle.run_operands.proofs.ordering.plain_places.Given as goal

abbrev pub invariant-loop-input : goal.invariant-loop-input
invariant-loop-input l = AllZip (AreValuesOf l.script (map string_bytes l.words) l.operands) (plain_inputs (take l.input l.script.inputs)) l.places.items
