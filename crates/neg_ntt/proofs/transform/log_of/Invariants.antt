use Rattle.std.proofs.Common.{◌-◌, ◌^◌, ◌≤◌}
use Rattle.neg_ntt.proofs.transform.log_of.Given as goal

abbrev pub invariant-loop-log : goal.invariant-loop-log
invariant-loop-log l = (l.log ≤ 15) × (2 ^ l.log ≤ l.n) × (2 ≤ l.log)

abbrev pub decreases-loop-log : goal.decreases-loop-log
decreases-loop-log l = 15 - l.log
