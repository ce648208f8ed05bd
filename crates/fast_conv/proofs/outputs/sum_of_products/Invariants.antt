use Rattle.std.proofs.Common.{◌≡◌, ◌*◌, ◌^◌, ◌≤◌, get_or, pos, ◌*ℤ◌}
use Rattle.ring_law.specs.Sums.{sum_below}
use Rattle.fast_conv.proofs.outputs.sum_of_products.Given as goal

abbrev pub invariant-loop-i : goal.invariant-loop-i
invariant-loop-i l = record {
  value : pos l.sum ≡ sum_below l.i (λ i. pos (get_or l.words i 0) *ℤ pos (get_or l.factors i 0));
  below : l.sum ≤ l.i * 2 ^ 122;
}
