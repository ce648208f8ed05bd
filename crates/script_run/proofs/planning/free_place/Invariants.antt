use Rattle.std.proofs.Common.{ℕ, ◌<◌, slice_index}
use Rattle.script_run.proofs.planning.free_place.Given as goal

abbrev pub invariant-loop-place : goal.invariant-loop-place
invariant-loop-place l = (p : ℕ) → p < l.place → l.i < slice_index l.taken p
