-- The samples so far are those of the pairs of words so far.
use Rattle.std.proofs.Common.{ℕ, ◌≡◌, ◌<◌, ◌*◌, length, get_or}
use Rattle.bfv_model.specs.Drawn.{stream_word, uniform_at}
use Rattle.rand_words.specs.Words.{after_words}
use Rattle.rand_words.proofs.uniform_row.Given as goal

abbrev pub invariant-loop-sample : goal.invariant-loop-sample
invariant-loop-sample g l = record {
  size : length l.out ≡ g.row.N;
  samples : (k : ℕ) → k < l.sample-index → get_or l.out k 0 ≡ uniform_at (stream_word (g.R.Rng.stream l.fn.rng)) l.m (2 * k);
  reduced : (k : ℕ) → k < l.sample-index → get_or l.out k 0 < l.m;
  rest : g.R.Rng.stream l.rng ≡ after_words (2 * l.sample-index) (g.R.Rng.stream l.fn.rng);
}
