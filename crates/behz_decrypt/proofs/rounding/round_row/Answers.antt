use Rattle.std.proofs.Common.{◌<◌, ◌∙◌, arith, length-set, slice_index, subst}
use Rattle.set_table.specs.Sets.{gamma, plain_of}
use Rattle.ring_law.specs.Moduli.{product}
use Rattle.bfv_params.specs.Moduli.{data_at}
use Rattle.behz_decrypt.proofs.RoundedWords.{Rounds, rounded_at, word_written}
use Rattle.behz_decrypt.proofs.rounding.round_row.Goals as goal

pub loop-k-preserved : goal.loop-k-preserved
loop-k-preserved g c = record {
  count = length-set _ _ _ ∙ c.loop-k.invariant.count;
  rounds = word_written (λ j word. Rounds c.new-rounding.result (slice_index c.args.in_plain.now j) (slice_index c.args.in_gamma.now j) word)
      c.loop-k.row c.loop-k.k c.rounded.result (omega (arith, c.loop-k.invariant.count)) c.loop-k.invariant.rounds
      (c.rounded.ensures.below, c.rounded.ensures.rounded);
}

pub returns-clause-reduced : goal.returns-clause-reduced
returns-clause-reduced g c k less =
    let rounds = c.loop-k.invariant.rounds k (omega arith) in
    subst (λ t. slice_index c.loop-k.row k < t) c.new-rounding.ensures.constants.plain_is rounds.0

pub returns-clause-rounded : goal.returns-clause-rounded
returns-clause-rounded g c = λ y in_plain in_gamma k less.
    rounded_at (product (data_at c.args.ctx.now.set c.args.ctx.now.level)) (plain_of c.args.ctx.now.set) gamma c.new-rounding.result
    (slice_index c.args.in_plain.now k) (slice_index c.args.in_gamma.now k) (slice_index c.loop-k.row k) (y k)
    c.new-rounding.ensures.constants (c.loop-k.invariant.rounds k (omega arith)) (in_plain k less) (in_gamma k less)
