use Rattle.std.proofs.Common.{rules, arith, ◌≡◌, ℕ, ◌+◌, ◌<◌, ◌++◌, refl, sym, ap, subst, ◌∙◌, List, length, drop, take}
use Rattle.set_table.specs.Sets.{plain_of}
use Rattle.script_text.specs.Scripts.{operands_of, plain_inputs}
use Rattle.script_text.specs.Evaluating.{IsWithin}
use Rattle.script_text.proofs.StepsMade.{within_at}
use Rattle.script_run.specs.Registers.{input_count}
use Rattle.script_run.proofs.Ending.{EndsBefore, ends_all, ends_next}
use Rattle.script_run.proofs.Inputs.{inputs_counted}
use Rattle.script_run.proofs.Live.{all_weaker, step_found}
use Rattle.script_run.proofs.Plans.{written_whole}
use Rattle.script_run.proofs.planning.live_ends.Goals as goal

pub overflow_add-ciphers : goal.overflow_add-ciphers
overflow_add-ciphers c =
    let sound = c.steps-steps.ensures.sound in
    let counted = inputs_counted c.args.script.now.inputs in
    omega (arith, sound.few_inputs, sound.few_steps, c.ciphers.ensures, c.steps-steps.ensures.value, counted)

pub put_off-requires : goal.put_off-requires
put_off-requires c =
    let script = c.args.script.now in
    let below : c.loop-i.i < length script.steps = omega (arith, c.loop-i-test.true, c.steps-steps.ensures.value) in
    let size = c.loop-i.invariant.size in
    let count : length c.deref_mut.result.now ≡ length c.loop-i.ends.items = ap length c.deref_mut.ensures.value in
    let within : IsWithin (plain_of script.set) (length (plain_inputs script.inputs)) (input_count script + c.loop-i.i) c.step.result
    = within_at script c.loop-i.i c.step.result _ _ _ c.output-output.ensures.sound below c.step.ensures refl refl refl in
    all_weaker {P = λ x. x < input_count script + c.loop-i.i} {Q = λ x. x < length c.deref_mut.result.now} (operands_of c.step.result) (λ x low. omega (arith, low, below, count, size)) within.0

pub loop-i-preserved : goal.loop-i-preserved
loop-i-preserved c =
    let script = c.args.script.now in
    let old = c.loop-i.ends.items in
    let new = c.put_off.new.ends in
    let below : c.loop-i.i < length script.steps = omega (arith, c.loop-i-test.true, c.steps-steps.ensures.value) in
    let found = step_found script.steps c.loop-i.i c.step.result below c.step.ensures in
    let same : length new ≡ length old = c.put_off.ensures.size ∙ ap length c.deref_mut.ensures.value in
    let written : take c.loop-i.ends.len (new ++ drop (length new) old) ≡ new = written_whole c.loop-i.ends.len new old (search rules) in
    subst (λ (ends : List ℕ). EndsBefore script ends (c.loop-i.i + 1)) (sym written)
    (ends_next script old new c.loop-i.i c.step.result found.0 c.loop-i.invariant found.1 found.2 same c.put_off.ensures.read (search rules))

pub returns : goal.returns
returns c =
    let script = c.args.script.now in
    let sound = c.output-output.ensures.sound in
    let size = c.loop-i.invariant.size in
    ends_all script c.loop-i.ends.items _ c.loop-i.i (c.steps-steps.result + 1) c.loop-i.invariant (omega (arith, c.loop-i-test.false, c.steps-steps.ensures.value))
    (let output = sound.output in omega (arith, output, size)) (search rules) (ap (λ (n : ℕ). n + 1) c.steps-steps.ensures.value)
