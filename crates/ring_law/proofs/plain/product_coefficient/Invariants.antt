use Rattle.std.proofs.Common.{◌≡◌}
use Rattle.ring_law.proofs.plain.product_coefficient.Given as goal
use Rattle.ring_law.specs.Sums.{sum_below}
use Rattle.ring_law.specs.Residues.{residue}
use Rattle.ring_law.specs.Rows.{row_polynomial}
use Rattle.ring_law.proofs.ProductPairs.{pair_term}

abbrev pub invariant-loop-i : goal.invariant-loop-i
invariant-loop-i g l = l.sum ≡ residue l.q (sum_below l.i (pair_term g.row.N (row_polynomial l.a) (row_polynomial l.b) l.k))
