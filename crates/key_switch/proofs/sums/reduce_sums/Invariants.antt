use Rattle.std.proofs.Common.{◌≡◌, ℕ, ◌%◌, ◌<◌, [], get_or}
use Rattle.std.specs.List.{SameFrom}
use Rattle.ring_law.specs.Rows.{IsReduced, word_at}
use Rattle.key_switch.specs.Sums.{two_words}
use Rattle.key_switch.proofs.sums.reduce_sums.Given as goal

abbrev pub invariant-loop-i : goal.invariant-loop-i
invariant-loop-i g l = record {
  residues : (j k : ℕ) → j < l.i → k < g.row.N → word_at l.low j k ≡ two_words (get_or l.high.rows.now j []) (get_or l.initial.low j []) k % get_or l.moduli j 0;
  reduced : (j : ℕ) → j < l.i → IsReduced g.row.N (get_or l.moduli j 0) (get_or l.low j []);
  rest : SameFrom l.initial.low l.low l.i;
}
