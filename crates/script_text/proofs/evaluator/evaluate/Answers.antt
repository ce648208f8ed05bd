use Rattle.std.proofs.Common.{◌≡◌, ◌<◌, ℕ, ◌+◌, ◌/◌, List, length, ap, ap₂, ◌∙◌, subst, arith}
use Rattle.set_table.specs.Sets.{degree_of, plain_of}
use Rattle.script_text.specs.Scripts.{is_cipher, is_plain}
use Rattle.script_text.specs.Value.{value_made, lists_of, lists_in}
use Rattle.script_text.specs.Evaluating.{AreValues}
use Rattle.script_text.proofs.InputLists.{length-lists_of}
use Rattle.script_text.proofs.StepsMade.{within_at, lists_before, step_made, output_list, degree_halves}
use Rattle.script_text.proofs.evaluator.evaluate.Goals as goal

pub list_made-requires-clause-within : goal.list_made-requires-clause-within
list_made-requires-clause-within c =
    let below : c.loop-i.i < length c.args.script.now.steps = omega arith in
    within_at c.args.script.now c.loop-i.i c.step-op.result c.plain-t.result (length c.deref.result.now) (length c.deref-in-loop-i.result.now) c.set-set.ensures.sound below c.step-op.ensures
    (c.plain-t.ensures ∙ ap plain_of c.set-set.ensures.value)
    (ap length c.deref.ensures.value ∙ ap length c.in_ok-plains.ensures.value ∙ length-lists_of is_plain c.args.script.now.inputs (degree_of c.args.script.now.set) c.args.values.now)
    (ap length c.deref-in-loop-i.ensures.value ∙ ap length c.loop-i.invariant.0
    ∙ lists_before c.args.script.now (degree_of c.args.script.now.set) (plain_of c.args.script.now.set) c.in_ok-plains.plains.items c.args.values.now c.loop-i.i (omega arith))

pub loop-i-preserved : goal.loop-i-preserved
loop-i-preserved c =
    let below : c.loop-i.i < length c.args.script.now.steps = omega arith in
    let halves : c.degree-half.result / 2 + c.degree-half.result / 2 ≡ degree_of c.args.script.now.set
    = ap (λ (d : ℕ). d / 2 + d / 2) (c.degree-half.ensures ∙ ap degree_of c.set-set.ensures.value) ∙ degree_halves c.args.script.now.set in
    let plain : c.plain-t.result ≡ plain_of c.args.script.now.set = c.plain-t.ensures ∙ ap plain_of c.set-set.ensures.value in
    step_made (degree_of c.args.script.now.set) (plain_of c.args.script.now.set) c.in_ok-plains.plains.items
    (lists_of is_cipher c.args.script.now.inputs (lists_in (degree_of c.args.script.now.set) (length c.args.script.now.inputs) c.args.values.now))
    c.loop-i.registers.items c.push.new.self.items c.args.script.now.steps c.loop-i.i c.step-op.result c.in_ok-list.list below c.step-op.ensures c.loop-i.invariant.0
    (c.in_ok-list.ensures.value
    ∙ ap₂ (λ (n t : ℕ). value_made n t c.deref.result.now c.deref-in-loop-i.result.now c.step-op.result) halves plain
    ∙ ap₂ (λ (plains lists : List (List ℕ)). value_made (degree_of c.args.script.now.set) (plain_of c.args.script.now.set) plains lists c.step-op.result) c.deref.ensures.value c.deref-in-loop-i.ensures.value)
    c.loop-i.invariant.1
    (subst (λ (t : ℕ). AreValues (degree_of c.args.script.now.set) t c.in_ok-list.list) plain (subst (λ (n : ℕ). AreValues n c.plain-t.result c.in_ok-list.list) halves c.in_ok-list.ensures.below))
    c.in_ok-push.ensures.items

pub swap_remove-requires : goal.swap_remove-requires
swap_remove-requires c =
    let lists = ap length c.loop-i.invariant.0 ∙ lists_before c.args.script.now (degree_of c.args.script.now.set) (plain_of c.args.script.now.set) c.in_ok-plains.plains.items c.args.values.now c.loop-i.i (omega arith) in
    omega (arith, c.loop-i.registers.ok.0, c.set-set.ensures.sound.output)

pub returns : goal.returns
returns c =
    output_list c.args.script.now c.args.values.now c.loop-i.registers.items c.in_ok-plains.plains.items c.loop-i.i c.output.result c.swap_remove.result c.values.inside.values.items c.set-set.ensures.sound (omega arith)
    c.output.ensures.value c.in_ok-plains.ensures.value c.loop-i.invariant.0 c.swap_remove.ensures.value c.values.view_is
