use Rattle.std.proofs.Common.{◌≡◌, take}
use Rattle.set_table.specs.Sets.{degree_of, plain_of}
use Rattle.script_text.specs.Value.{lists_of, lists_in}
use Rattle.script_text.specs.Evaluating.{AreLists, kind_test}
use Rattle.script_text.proofs.evaluator.lists_of.Given as goal

abbrev pub invariant-loop-i : goal.invariant-loop-i
invariant-loop-i l =
    (l.lists.items ≡ lists_of (kind_test l.kind) (take l.i l.script-inside.inputs.items) (lists_in (degree_of l.script.set) l.i l.values))
    × AreLists (degree_of l.script.set) (plain_of l.script.set) l.lists.items
