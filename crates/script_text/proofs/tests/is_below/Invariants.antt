use Rattle.std.proofs.Common.{◌<◌, ℕ, slice_index}
use Rattle.script_text.proofs.tests.is_below.Given as goal

abbrev pub invariant-loop-i : goal.invariant-loop-i
invariant-loop-i l = (k : ℕ) → k < l.i → slice_index l.values k < l.t
