use Rattle.std.proofs.Common.{◌≡◌, ℕ, ℤ, ◌-◌, ◌*◌, ◌^◌, ◌≤◌, length}
use Rattle.ring_law.specs.Transform.{IsTransform}
use Rattle.lane_rows.specs.Rows.{RowBelow}
use Rattle.neg_ntt.proofs.LayerValues.{AreBlocks}
use Rattle.neg_ntt.proofs.transform.Transform.inverse.Given as goal

abbrev pub invariant-loop-s : goal.invariant-loop-s
invariant-loop-s g l = record {
  within : l.s ≤ l.self.log_degree;
  from_one : 1 ≤ l.s;
  len : length l.row ≡ g.row.N;
  below : RowBelow (2 * l.self.modulus) l.row;
  blocks : (a : ℕ → ℤ) → IsTransform l.self.modulus l.self.log_degree l.self.root l.fn.row a
      → AreBlocks l.self.modulus l.self.root l.s (2 ^ (l.self.log_degree - l.s)) (2 ^ (l.self.log_degree - l.s)) a l.row;
}

abbrev pub decreases-loop-s : goal.decreases-loop-s
decreases-loop-s g l = l.s
