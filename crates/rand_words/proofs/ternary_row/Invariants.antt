-- The samples so far are those of the words so far.
use Rattle.std.proofs.Common.{ℕ, ◌≡◌, ◌<◌, pos, length, get_or}
use Rattle.bfv_model.specs.Drawn.{drawn_ternary, stream_word}
use Rattle.rand_words.specs.Words.{after_words}
use Rattle.rand_words.proofs.ternary_row.Given as goal

abbrev pub invariant-loop-sample : goal.invariant-loop-sample
invariant-loop-sample g l = record {
  size : length l.out ≡ g.row.N;
  samples : (k : ℕ) → k < l.sample-index → get_or l.out k (pos 0) ≡ drawn_ternary (stream_word (g.R.Rng.stream l.fn.rng)) k;
  rest : g.R.Rng.stream l.rng ≡ after_words l.sample-index (g.R.Rng.stream l.fn.rng);
}
