-- Each iteration takes the next word and writes its sample.
use Rattle.std.proofs.Common.{◌∙◌, length-set, pos, arith, sym, ap, of_z, to_z, w8}
use Rattle.std.proofs.lemmas.Int.{to_z-of_z}
use Rattle.bfv_model.specs.Drawn.{error_sample, stream_word}
use Rattle.ring_law.proofs.Values.{values_below-get_or}
use Rattle.rand_words.proofs.RowLemmas.{samples-more}
use Rattle.rand_words.proofs.WordLemmas.{after_words-zero, word_taken}
use Rattle.rand_words.proofs.error_row.Goals as goal

pub loop-sample-init : goal.loop-sample-init
loop-sample-init g c = record { size = c.told-out; samples = λ k below. absurd (omega arith); rest = sym (after_words-zero _) }

pub loop-sample-preserved : goal.loop-sample-preserved
loop-sample-preserved g c =
    let stream = g.R.Rng.stream c.args.rng.now in
    let taken = word_taken c.loop-sample.sample-index stream (g.R.Rng.stream c.loop-sample.rng) (g.R.Rng.stream c.next_u64.new.self) c.next_u64.result
    c.loop-sample.invariant.rest c.next_u64.ensures in
    let value = to_z w8 (of_z w8 c.error.result) in
    record {
      size = length-set c.loop-sample.out c.loop-sample.sample-index value ∙ c.loop-sample.invariant.size;
      samples = samples-more (λ k. error_sample (stream_word stream k)) c.loop-sample.out c.loop-sample.sample-index value (pos 0) (omega arith)
          (to_z-of_z w8 c.error.result (record { sfits = c.error.type_inv }) ∙ c.error.ensures ∙ ap error_sample taken.0)
          c.loop-sample.invariant.samples;
      rest = taken.1;
    }

pub returns-clause-samples : goal.returns-clause-samples
returns-clause-samples g c =
    let stream = g.R.Rng.stream c.args.rng.now in
    sym (values_below-get_or g.row.N (λ k. error_sample (stream_word stream k)) c.loop-sample.out (pos 0) c.loop-sample.invariant.size
    (λ k below. c.loop-sample.invariant.samples k (omega arith)))
