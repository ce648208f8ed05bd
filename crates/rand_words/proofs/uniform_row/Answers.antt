-- Each iteration takes the next two words and writes their sample.
use Rattle.std.proofs.Common.{ℕ, ◌≡◌, ◌+◌, ◌*◌, ◌<◌, ◌∙◌, length-set, arith, sym, ap₂, subst}
use Rattle.bfv_model.specs.Drawn.{stream_word, uniform_at, uniform_sample}
use Rattle.ring_law.proofs.Values.{values_below-get_or}
use Rattle.rand_words.specs.Words.{after_words}
use Rattle.rand_words.proofs.RowLemmas.{samples-each, samples-more}
use Rattle.rand_words.proofs.WordLemmas.{after_words-zero, word_taken}
use Rattle.rand_words.proofs.uniform_row.Goals as goal

of_words : (p a b high low sample : ℕ) → sample ≡ uniform_sample p a b → a ≡ high → b ≡ low → sample ≡ uniform_sample p high low
of_words p a b high low sample value is_high is_low = value ∙ ap₂ (uniform_sample p) is_high is_low

pub loop-sample-init : goal.loop-sample-init
loop-sample-init g c = record { size = c.told-out; samples = λ k below. absurd (omega arith); reduced = λ k below. absurd (omega arith); rest = sym (after_words-zero _) }

pub loop-sample-preserved : goal.loop-sample-preserved
loop-sample-preserved g c =
    let stream = g.R.Rng.stream c.args.rng.now in
    let high = word_taken (2 * c.loop-sample.sample-index) stream (g.R.Rng.stream c.loop-sample.rng) (g.R.Rng.stream c.next_u64-high.new.self)
    c.next_u64-high.result c.loop-sample.invariant.rest c.next_u64-high.ensures in
    let low = word_taken (2 * c.loop-sample.sample-index + 1) stream (g.R.Rng.stream c.next_u64-high.new.self) (g.R.Rng.stream c.next_u64-low.new.self)
    c.next_u64-low.result high.1 c.next_u64-low.ensures in
    let sample : c.uniform.result ≡ uniform_at (stream_word stream) c.args.m.now (2 * c.loop-sample.sample-index) =
    of_words c.args.m.now c.next_u64-high.result c.next_u64-low.result _ _ c.uniform.result c.uniform.ensures.value high.0 low.0 in
    record {
      size = length-set c.loop-sample.out c.loop-sample.sample-index c.uniform.result ∙ c.loop-sample.invariant.size;
      samples = samples-more (λ k. uniform_at (stream_word stream) c.args.m.now (2 * k)) c.loop-sample.out c.loop-sample.sample-index c.uniform.result 0 (omega arith)
          sample c.loop-sample.invariant.samples;
      reduced = samples-each (λ k x. x < c.args.m.now) c.loop-sample.out c.loop-sample.sample-index c.uniform.result 0 (omega arith)
          c.uniform.ensures.below c.loop-sample.invariant.reduced;
      rest = subst (λ n. g.R.Rng.stream c.next_u64-low.new.self ≡ after_words n stream) (omega arith) low.1;
    }

pub returns-clause-samples : goal.returns-clause-samples
returns-clause-samples g c =
    let stream = g.R.Rng.stream c.args.rng.now in
    sym (values_below-get_or g.row.N (λ k. uniform_at (stream_word stream) c.args.m.now (2 * k)) c.loop-sample.out 0 c.loop-sample.invariant.size
    (λ k below. c.loop-sample.invariant.samples k (omega arith)))

pub returns-clause-reduced : goal.returns-clause-reduced
returns-clause-reduced g c = λ k below. c.loop-sample.invariant.reduced k (omega arith)
