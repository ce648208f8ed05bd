use Rattle.std.proofs.Common.{arith}
use Rattle.fast_conv.proofs.Making.{inputs_all, inputs_more, inputs_none}
use Rattle.fast_conv.proofs.inputs.input_rows.Goals as goal

pub loop-i-init : goal.loop-i-init
loop-i-init c = rw c.new-rows.ensures.items (inputs_none c.args.base.now c.args.scale)

pub loop-i-preserved : goal.loop-i-preserved
loop-i-preserved c = rw c.in_ok-push.ensures.items
    (inputs_more c.args.base.now c.args.scale c.loop-i.i c.loop-i.rows.items c.new.result c.loop-i.invariant c.new.ensures.modulus c.new.ensures.factor)

pub returns : goal.returns
returns c = inputs_all c.args.base.now c.args.scale c.loop-i.i c.loop-i.rows.items c.len-i-end.ensures.base (omega (arith, c.len-i-end.ensures.value)) c.loop-i.invariant
