use Rattle.std.proofs.Common.{◌≡◌, ℕ, ◌+◌, ◌*◌, ◌%◌, ◌<◌, length, get_or}
use Rattle.ring_law.specs.Rows.{IsReduced}
use Rattle.bfv_tensor.proofs.row_products.multiply_words.Given as goal

abbrev pub invariant-loop-k : goal.invariant-loop-k
invariant-loop-k g l = record {
  first_words : length l.first ≡ g.row.N;
  middle_words : length l.middle ≡ g.row.N;
  last_words : length l.last ≡ g.row.N;
  first : (j : ℕ) → j < l.k → get_or l.first j 0 ≡ (get_or l.a.first.now j 0 * get_or l.b.first.now j 0) % l.m;
  middle : (j : ℕ) → j < l.k
      → get_or l.middle j 0 ≡ (get_or l.a.first.now j 0 * get_or l.b.second.now j 0 + get_or l.a.second.now j 0 * get_or l.b.first.now j 0) % l.m;
  last : (j : ℕ) → j < l.k → get_or l.last j 0 ≡ (get_or l.a.second.now j 0 * get_or l.b.second.now j 0) % l.m;
  first_reduced : IsReduced l.k l.m l.first;
  middle_reduced : IsReduced l.k l.m l.middle;
  last_reduced : IsReduced l.k l.m l.last;
}
