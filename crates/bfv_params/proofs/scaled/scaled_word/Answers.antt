use Rattle.bfv_params.proofs.ScaledPlaintexts.{reduced_sum}
use Rattle.bfv_params.proofs.scaled.scaled_word.Goals as goal

pub returns : goal.returns
returns c = reduced_sum c.args.modulus.now c.args.quotient.now.w c.args.m _ c.mul_factor.result c.reduce.result c.add.result c.mul_factor.ensures.value c.reduce.ensures.value c.add.ensures.value
