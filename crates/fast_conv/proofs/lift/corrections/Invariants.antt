use Rattle.fast_conv.proofs.Making.{CorrectionsSoFar}
use Rattle.fast_conv.proofs.lift.corrections.Given as goal

abbrev pub invariant-loop-i : goal.invariant-loop-i
invariant-loop-i l = CorrectionsSoFar l.base l.i l.words.items
