use Rattle.std.proofs.Common.{◌≡◌, ◌+◌, ◌∙◌, arith}
use Rattle.script_text.proofs.SlotsMade.{list_is_made}
use Rattle.script_text.proofs.evaluator.list_made.Goals as goal

pub returns-clause-value : goal.returns-clause-value
returns-clause-value c =
    let done : c.loop-i.i ≡ c.args.half + c.args.half = omega (arith, c.loop-i.auto.i-end, c.loop-i-test.false) in
    list_is_made c.args.half c.args.t c.args.plains.now c.args.registers.now c.args.op c.loop-i.values.items c.requires.registers c.requires.within (c.loop-i.invariant.0 ∙ done) (λ i below. c.loop-i.invariant.1 i (omega arith))
