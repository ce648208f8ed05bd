use Rattle.std.proofs.Common.{◌≡◌, map, ap, ◌∙◌}
use Rattle.std.specs.Prelude.{Option, Some, None}
use Rattle.std.specs.Option.{option_or}
use Rattle.command_words.specs.declared.status.Status.{Status}
use Rattle.command_model.specs.Bindings as bindings
use Rattle.command_model.specs.Plan as plan
use Rattle.run_operands.specs.Demands.{operand_seen}
use Rattle.run_operands.proofs.matching.mismatch.Goals as goal

pub returns-in-Some : goal.returns-in-Some
returns-in-Some c =
    let seen = map operand_seen c.args.operands.now in
    let keys = plan.first_refusal (plan.of_cipher (plan.other_key (bindings.first_key_id seen))) 3 seen in
    let of_set : Some c.in-Some.status ≡ plan.first_refusal (plan.of_cipher (plan.other_set c.args.script.now.set)) 3 seen =
    c.in-Some.ensures ∙ ap (λ set. plan.first_refusal (plan.of_cipher (plan.other_set set)) 3 seen) c.set.ensures.value in
    ap (λ (f : Option Status). option_or f (option_or (plan.first_refusal (plan.of_cipher plan.other_parts) 3 seen) keys)) of_set

pub returns-in-Some-first_refusal : goal.returns-in-Some-first_refusal
returns-in-Some-first_refusal c =
    let seen = map operand_seen c.args.operands.now in
    let keys = plan.first_refusal (plan.of_cipher (plan.other_key (bindings.first_key_id seen))) 3 seen in
    let of_set : None ≡ plan.first_refusal (plan.of_cipher (plan.other_set c.args.script.now.set)) 3 seen =
    c.in_default.ensures ∙ ap (λ set. plan.first_refusal (plan.of_cipher (plan.other_set set)) 3 seen) c.set.ensures.value in
    ap (λ (f : Option Status). option_or f keys) c.in-Some-first_refusal.ensures
    ∙ ap (λ (f : Option Status). option_or f (option_or (plan.first_refusal (plan.of_cipher plan.other_parts) 3 seen) keys)) of_set
