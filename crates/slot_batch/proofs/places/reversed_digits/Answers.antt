use Rattle.std.proofs.Common.{◌%◌, arith}
use Rattle.slot_batch.proofs.Digits.{reversed_within, reversing_end, reversing_from, reversing_next}
use Rattle.slot_batch.proofs.places.reversed_digits.Goals as goal

pub loop-span-init : goal.loop-span-init
loop-span-init c = record { some = c.requires; within = omega arith; digits = reversing_from c.args.n c.args.j }

pub loop-span-preserved : goal.loop-span-preserved
loop-span-preserved c = record {
  some = omega arith;
  within = reversed_within c.args.n c.loop-span.reversed (c.loop-span.rest % 2) c.loop-span.span (omega arith) c.loop-span.invariant.within;
  digits = λ k power. reversing_next c.args.n c.args.j c.loop-span.reversed c.loop-span.rest c.loop-span.span k c.loop-span-test.true
      (c.loop-span.invariant.digits k power);
}

pub returns-clause-digits : goal.returns-clause-digits
returns-clause-digits c k power = reversing_end c.args.n c.args.j c.loop-span.reversed c.loop-span.rest c.loop-span.span k
    c.loop-span.invariant.some c.loop-span-test.false (c.loop-span.invariant.digits k power)
