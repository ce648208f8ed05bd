use Rattle.std.proofs.Common.{ℕ, ◌<◌, slice_index}
use Rattle.script_run.proofs.tests.fill_plain.Given as goal

abbrev pub invariant-loop-k : goal.invariant-loop-k
invariant-loop-k g l = (k : ℕ) → k < l.k → slice_index l.values k < l.t
