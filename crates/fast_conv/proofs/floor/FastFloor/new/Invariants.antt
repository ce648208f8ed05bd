use Rattle.std.proofs.Common.{pos, neg_ℤ}
use Rattle.ring_law.specs.Moduli.{product}
use Rattle.fast_conv.proofs.Making.{OutputsSoFar}
use Rattle.fast_conv.proofs.floor.FastFloor.new.Given as goal

abbrev pub invariant-loop-p : goal.invariant-loop-p
invariant-loop-p l = OutputsSoFar l.from l.to (product l.from) (neg_ℤ (pos 1)) (pos l.t) (pos 0) l.p-index l.outputs.items
