use Rattle.std.proofs.Common.{◌^◌, pos, neg_ℤ, ◌*ℤ◌}
use Rattle.ring_law.specs.Moduli.{product}
use Rattle.fast_conv.proofs.Making.{OutputsSoFar}
use Rattle.fast_conv.proofs.lift.MontLift.new.Given as goal

abbrev pub invariant-loop-p : goal.invariant-loop-p
invariant-loop-p l = OutputsSoFar l.from l.to (2 ^ 32) (pos 1) (pos (product l.from)) (neg_ℤ (pos (2 ^ 31) *ℤ pos (product l.from))) l.p-index l.outputs.items
