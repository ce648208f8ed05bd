use Rattle.std.proofs.Common.{ℕ, ◌<◌, get_or, length}
use Rattle.neg_ntt.proofs.tests.multiply.Given as goal

abbrev pub invariant-loop-i : goal.invariant-loop-i
invariant-loop-i l = (j : ℕ) → j < length l.out → get_or l.out j 0 < l.m
