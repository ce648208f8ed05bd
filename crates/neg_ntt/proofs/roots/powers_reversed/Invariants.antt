use Rattle.std.proofs.Common.{◌-◌, ◌^◌, ◌≤◌}
use Rattle.neg_ntt.specs.Roots.{ArePowersReversed}
use Rattle.neg_ntt.proofs.roots.powers_reversed.Given as goal

abbrev pub invariant-loop-digits : goal.invariant-loop-digits
invariant-loop-digits l = record {
  within : l.digits ≤ l.log_degree;
  powers : ArePowersReversed l.m l.log_degree l.x (2 ^ (l.log_degree - l.digits)) l.powers.items;
}

abbrev pub decreases-loop-digits : goal.decreases-loop-digits
decreases-loop-digits l = l.digits
