use Rattle.std.proofs.Common.{pos}
use Rattle.fast_conv.proofs.Making.{OutputsSoFar}
use Rattle.fast_conv.proofs.convert.FastConv.new.Given as goal

abbrev pub invariant-loop-p : goal.invariant-loop-p
invariant-loop-p l = OutputsSoFar l.from l.to 1 (pos 1) (pos 0) (pos 0) l.p-index l.outputs.items
