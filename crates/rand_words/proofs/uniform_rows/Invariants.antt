-- The rows so far are those of the words so far.
use Rattle.std.proofs.Common.{◌≡◌, ℕ, ◌+◌, ◌*◌, ◌<◌, [], get_or, slice_index}
use Rattle.ring_law.specs.Rows.{IsReduced, word_at}
use Rattle.bfv_model.specs.Drawn.{stream_word, uniform_at}
use Rattle.rand_words.specs.Words.{after_words}
use Rattle.rand_words.proofs.uniform_rows.Given as goal

abbrev pub invariant-loop-i : goal.invariant-loop-i
invariant-loop-i g l = record {
  samples : (j k : ℕ) → j < l.i → k < g.row.N
      → word_at l.rows j k ≡ uniform_at (stream_word (g.R.Rng.stream l.fn.rng)) (slice_index l.moduli j) (2 * (j * g.row.N + k));
  reduced : (j : ℕ) → j < l.i → IsReduced g.row.N (slice_index l.moduli j) (get_or l.rows j []);
  rest : g.R.Rng.stream l.rng ≡ after_words (2 * g.row.N * l.i) (g.R.Rng.stream l.fn.rng);
}
