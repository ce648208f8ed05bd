use Rattle.fast_conv.proofs.Making.{InputsSoFar}
use Rattle.fast_conv.proofs.inputs.input_rows.Given as goal

abbrev pub invariant-loop-i : goal.invariant-loop-i
invariant-loop-i l = InputsSoFar l.base l.scale l.i l.rows.items
