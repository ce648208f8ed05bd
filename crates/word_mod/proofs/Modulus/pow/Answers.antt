use Rattle.std.proofs.Common.{◌≡◌, arith, ◌∙◌}
use Rattle.word_mod.proofs.Power.{even_step, odd_step, first_step, last_step}
use Rattle.word_mod.proofs.Modulus.pow.Goals as goal
use Rattle.word_mod.proofs.Modulus.pow.Goals.{then-left-eq1, else-left-eq1}

pub loop-left-init : goal.loop-left-init
loop-left-init c = record {
  power_below = c.reduce-power.ensures.below;
  square_below = c.reduce-square.ensures.below;
  whole = rw (c.reduce-power.ensures.value, c.reduce-square.ensures.value) (first_step c.args.self.now c.args.a c.args.e);
}

pub loop-left-preserved : goal.loop-left-preserved
loop-left-preserved c = record {
  power_below = elim c.if-left-eq1.branch [ then-left-eq1 w ↦ omega arith | else-left-eq1 w ↦ omega arith ];
  square_below = c.mul-square.ensures.below;
  whole = elim c.if-left-eq1.branch [
    | then-left-eq1 w ↦ rw (w.power-is, c.mul-square.ensures.value, w.mul-power.ensures.value) (odd_step c.args.self.now c.loop-left.power c.loop-left.square c.loop-left.left (omega arith) ∙ c.loop-left.invariant.whole)
    | else-left-eq1 w ↦ rw (w.power-is, c.mul-square.ensures.value) (even_step c.args.self.now c.loop-left.power c.loop-left.square c.loop-left.left (omega arith) ∙ c.loop-left.invariant.whole)
  ];
}

pub returns-clause-value : goal.returns-clause-value
returns-clause-value c =
    let none : c.loop-left.left ≡ 0 = omega arith in
    last_step c.args.self.now c.loop-left.power c.loop-left.square c.loop-left.left _ c.loop-left.invariant.power_below none c.loop-left.invariant.whole
