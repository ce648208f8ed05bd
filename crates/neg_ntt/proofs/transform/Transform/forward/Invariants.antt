use Rattle.std.proofs.Common.{◌≡◌, ◌-◌, ◌*◌, ◌^◌, ◌≤◌, length}
use Rattle.ring_law.specs.Rows.{row_polynomial}
use Rattle.lane_rows.specs.Rows.{RowBelow}
use Rattle.neg_ntt.proofs.LayerValues.{AreBlocks}
use Rattle.neg_ntt.proofs.transform.Transform.forward.Given as goal

abbrev pub invariant-loop-s : goal.invariant-loop-s
invariant-loop-s g l = record {
  within : l.s ≤ l.self.log_degree;
  len : length l.row ≡ g.row.N;
  below : RowBelow (4 * l.self.modulus) l.row;
  blocks : AreBlocks l.self.modulus l.self.root l.s (2 ^ (l.self.log_degree - l.s)) 1 (row_polynomial l.fn.row) l.row;
}

abbrev pub decreases-loop-s : goal.decreases-loop-s
decreases-loop-s g l = l.self-inside.log_degree - l.s
