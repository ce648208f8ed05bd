use Rattle.script_run.proofs.Ending.{EndsBefore}
use Rattle.script_run.proofs.planning.live_ends.Given as goal

abbrev pub invariant-loop-i : goal.invariant-loop-i
invariant-loop-i l = EndsBefore l.script l.ends.items l.i
