use Rattle.std.proofs.Common.{◌≡◌, ◌*◌, ◌≤◌, drop, slice_index}
use Rattle.set_table.specs.Sets.{data_of}
use Rattle.bound_num.specs.Bound.{bound_value, IsCanonical, down}
use Rattle.noise_check.proofs.SetNumbers.{rounded_product}
use Rattle.noise_check.proofs.sets.limit.Given as goal

abbrev pub invariant-loop-i : goal.invariant-loop-i
invariant-loop-i l = record {
  canonical : IsCanonical l.product.m l.product.e;
  exponent : l.product.e ≤ 64 * l.i;
  value : rounded_product (bound_value l.product.m l.product.e) (drop l.i (data_of l.set))
      ≡ rounded_product (down (slice_index (data_of l.set) 0)) (drop 1 (data_of l.set));
}
