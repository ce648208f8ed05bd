use Rattle.std.proofs.Common.{ℕ, ◌<◌, get_or}
use Rattle.neg_ntt.proofs.tests.fill.Given as goal

abbrev pub invariant-loop-i : goal.invariant-loop-i
invariant-loop-i l = (j : ℕ) → j < l.i → get_or l.row j 0 < l.q
