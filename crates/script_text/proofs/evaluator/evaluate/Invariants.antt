use Rattle.std.proofs.Common.{◌≡◌, length, take}
use Rattle.set_table.specs.Sets.{degree_of, plain_of}
use Rattle.script_text.specs.Scripts.{registers, is_cipher}
use Rattle.script_text.specs.Value.{value_made, lists_of, lists_in}
use Rattle.script_text.specs.Evaluating.{AreLists}
use Rattle.script_text.proofs.evaluator.evaluate.Given as goal

abbrev pub invariant-loop-i : goal.invariant-loop-i
invariant-loop-i l =
    (l.registers.items ≡ registers (value_made (degree_of l.script.set) (plain_of l.script.set) l.plains.items)
    (lists_of is_cipher l.script.inputs (lists_in (degree_of l.script.set) (length l.script.inputs) l.fn.values)) (take l.i l.script.steps))
    × AreLists (degree_of l.script.set) (plain_of l.script.set) l.registers.items
