use Rattle.std.proofs.Common.{arith}
use Rattle.fast_conv.proofs.Making.{corrections_all, corrections_more, corrections_none}
use Rattle.fast_conv.proofs.lift.corrections.Goals as goal

pub loop-i-init : goal.loop-i-init
loop-i-init c = rw c.new-words.ensures.items (corrections_none c.args.base.now)

pub loop-i-preserved : goal.loop-i-preserved
loop-i-preserved c = rw c.in_ok-push.ensures.items
    (corrections_more c.args.base.now c.loop-i.i c.loop-i.words.items c.modulus.result.now c.negative_inverse_mod_m_tilde.result c.loop-i.invariant c.modulus.ensures c.negative_inverse_mod_m_tilde.ensures.value c.negative_inverse_mod_m_tilde.ensures.below)

pub returns : goal.returns
returns c = corrections_all c.args.base.now c.loop-i.i c.loop-i.words.items (omega (arith, c.len-i-end.ensures.value)) c.loop-i.invariant
