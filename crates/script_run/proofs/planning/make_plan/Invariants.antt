use Rattle.script_run.proofs.Placing.{PlacedBefore}
use Rattle.script_run.proofs.planning.make_plan.Given as goal

abbrev pub invariant-loop-i : goal.invariant-loop-i
invariant-loop-i l = PlacedBefore l.script l.ends.items l.places.items l.taken.items l.i l.most
