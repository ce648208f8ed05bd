use Rattle.std.proofs.Common.{◌-◌, ◌/◌, pos, neg_ℤ, ◌*ℤ◌}
use Rattle.ring_law.specs.Moduli.{product}
use Rattle.fast_conv.proofs.Making.{OutputsSoFar}
use Rattle.fast_conv.proofs.back.SkBack.new.Given as goal

abbrev pub invariant-loop-p : goal.invariant-loop-p
invariant-loop-p l = OutputsSoFar l.base l.to 1 (pos 1) (neg_ℤ (pos (product l.base))) (pos (product l.base) *ℤ pos ((l.sk - 1) / 2)) l.p-index l.outputs.items
