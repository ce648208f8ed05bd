use Rattle.std.proofs.Common.{◌<◌, length, ◌∙◌, rules}
use Rattle.bfv_commands.proofs.RunOutputs.{bounds_more}
use Rattle.bfv_commands.proofs.run_output.stated_bounds.Goals as goal

pub loop-i-preserved : goal.loop-i-preserved
loop-i-preserved c =
    let inside : c.loop-i.i < length c.args.ciphers.now = search rules in
    c.in_ok-push.ensures.items ∙ bounds_more c.args.ciphers.now c.loop-i.i _ c.loop-i.bounds.items inside c.loop-i.invariant
