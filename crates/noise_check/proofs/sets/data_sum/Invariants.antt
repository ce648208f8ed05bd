use Rattle.std.proofs.Common.{◌≡◌, ◌+◌, drop, sum}
use Rattle.std.specs.Prelude.{fold}
use Rattle.set_table.specs.Sets.{data_of}
use Rattle.noise_check.proofs.sets.data_sum.Given as goal

abbrev pub invariant-loop-i : goal.invariant-loop-i
invariant-loop-i l = fold ◌+◌ l.total (drop l.i (data_of l.set)) ≡ sum (data_of l.set)
