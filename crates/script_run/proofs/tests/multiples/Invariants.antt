use Rattle.std.proofs.Common.{ℕ, ◌<◌, slice_index}
use Rattle.script_run.proofs.tests.multiples.Given as goal

abbrev pub invariant-loop-k : goal.invariant-loop-k
invariant-loop-k g l = (k : ℕ) → k < l.k → slice_index l.row k < l.q
