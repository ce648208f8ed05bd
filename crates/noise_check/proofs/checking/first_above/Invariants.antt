use Rattle.std.proofs.Common.{◌≡◌, ℕ, ◌<◌, nat_lt, false, get_or}
use Rattle.bound_num.specs.Bound.{bound_value}
use Rattle.noise_check.specs.Numbers.{numbers}
use Rattle.noise_check.proofs.checking.first_above.Given as goal

abbrev pub invariant-loop-i : goal.invariant-loop-i
invariant-loop-i l = (k : ℕ) → k < l.i → nat_lt (bound_value l.limit.m l.limit.e) (get_or (numbers l.bounds) k 0) ≡ false
