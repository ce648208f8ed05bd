use Rattle.std.proofs.Common.{◌≡◌, ℕ, ◌*◌, ◌%◌, ◌<◌, length, get_or}
use Rattle.ring_law.specs.Rows.{IsReduced}
use Rattle.rns_poly.proofs.one_row.pointwise.Given as goal

abbrev pub invariant-loop-k : goal.invariant-loop-k
invariant-loop-k g l = record {
  words : length l.out ≡ g.row.N;
  products : (j : ℕ) → j < l.k → get_or l.out j 0 ≡ (get_or l.a j 0 * get_or l.b j 0) % l.m;
  reduced : IsReduced l.k l.m l.out;
}
