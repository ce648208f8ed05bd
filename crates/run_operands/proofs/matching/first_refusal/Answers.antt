use Rattle.std.proofs.Common.{◌+◌, drop, refl, map, sym, ap, ◌∙◌, arith}
use Rattle.std.specs.Prelude.{Option}
use Rattle.std.specs.Option.{option_or}
use Rattle.command_words.specs.declared.status.Status.{Status}
use Rattle.command_model.specs.Plan as plan
use Rattle.run_operands.specs.Demands.{operand_seen, refusal_of}
use Rattle.run_operands.proofs.Places.{item_there, first_of, rest_of}
use Rattle.run_operands.proofs.Demanded.{refusal_from}
use Rattle.run_operands.proofs.matching.first_refusal.Goals as goal

pub returns-then-is_some : goal.returns-then-is_some
returns-then-is_some c =
    let operands = c.args.operands.now in
    let at = item_there operands c.loop-place.place c.index-operands-place.result c.index-operands-place.result (omega arith) c.index-operands-place.is refl in
    let rest = plan.first_refusal (plan.of_cipher (refusal_of c.args.demand)) (3 + (c.loop-place.place + 1)) (drop (c.loop-place.place + 1) (map operand_seen operands)) in
    sym (c.loop-place.invariant ∙ refusal_from (plan.of_cipher (refusal_of c.args.demand)) operands c.loop-place.place c.index-operands-place.result at
    ∙ ap (λ (f : Option Status). option_or f rest) (sym c.refusal-refused.ensures)
    ∙ first_of c.refusal-refused.result rest (sym c.is_some.ensures ∙ c.if-is_some.true))

pub loop-place-preserved : goal.loop-place-preserved
loop-place-preserved c =
    let operands = c.args.operands.now in
    let at = item_there operands c.loop-place.place c.index-operands-place.result c.index-operands-place.result (omega arith) c.index-operands-place.is refl in
    let rest = plan.first_refusal (plan.of_cipher (refusal_of c.args.demand)) (3 + (c.loop-place.place + 1)) (drop (c.loop-place.place + 1) (map operand_seen operands)) in
    c.loop-place.invariant ∙ refusal_from (plan.of_cipher (refusal_of c.args.demand)) operands c.loop-place.place c.index-operands-place.result at
    ∙ ap (λ (f : Option Status). option_or f rest) (sym c.refusal-refused.ensures)
    ∙ rest_of c.refusal-refused.result rest (sym c.is_some.ensures ∙ c.if-is_some.false)
