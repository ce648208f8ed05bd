use Rattle.fast_conv.proofs.Making.{KeptSoFar}
use Rattle.fast_conv.proofs.dropping.DropLast.new.Given as goal

abbrev pub invariant-loop-i : goal.invariant-loop-i
invariant-loop-i l = KeptSoFar l.base l.dropped l.i l.kept.items
