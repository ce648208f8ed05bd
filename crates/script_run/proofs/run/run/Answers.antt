use Rattle.std.proofs.Common.{rules, arith, ◌≡◌, ◌<◌, ◌+◌, ℕ, ap, ◌∙◌, sym, subst, refl, ◌≢◌, [], length, slice_index, suc}
use Rattle.set_table.specs.Sets.{degree_of, plain_of}
use Rattle.script_text.specs.Scripts.{keys_needed, plain_inputs}
use Rattle.script_text.specs.Evaluating.{IsWithin}
use Rattle.script_text.proofs.StepsMade.{within_at}
use Rattle.script_run.specs.Registers.{input_count}
use Rattle.script_run.specs.Premises.{no_digits}
use Rattle.script_run.specs.Steps.{OnOperands}
use Rattle.script_run.proofs.KeyNeeds.{keyless_at}
use Rattle.script_run.proofs.Live.{on_plain, operands_there, step_found, within_more}
use Rattle.script_run.proofs.Running.{Ran, ran_next, carries_end, taken_in}
use Rattle.script_run.proofs.run.run.Goals as goal

pub step-requires-in-loop-i : goal.step-requires-in-loop-i
step-requires-in-loop-i g c =
    let script = c.args.script.now in
    let i = c.loop-i.i in
    let op = c.step.result in
    let planned = c.requires.plan in
    let size = planned.size in
    let below : i < length script.steps = omega (arith, c.loop-i-test.true, c.steps-i-end.ensures.value) in
    let found = step_found script.steps i op below c.step.ensures in
    let within : IsWithin (plain_of c.args.ctx.now.set) (length (plain_inputs script.inputs)) (input_count script + i) op
    = within_at script i op _ _ _ c.output-output.ensures.sound below c.step.ensures (ap plain_of (sym c.requires.same_set)) refl refl in
    let ran = c.loop-i.invariant.ran in
    let here : c.ciphers-inputs.result + i ≡ input_count script + i = ap (λ (k : ℕ). k + i) c.ciphers-inputs.ensures in (
      search rules,
      (
        search rules,
        (
          search rules,
          (
            search rules,
            (
              c.requires.degree,
              (
                c.requires.level,
                (
                  subst (λ (n : ℕ). keys_needed n op ≡ []) (ap degree_of c.requires.same_set ∙ sym c.requires.degree) (keyless_at script i op found.0 c.requires.keyless below found.1 found.2),
                  (
                    within_more _ _ _ _ _ op c.requires.plain_count (omega arith) within,
                    (
                      subst (λ (n : ℕ). slice_index c.args.plan.now (c.ciphers-inputs.result + i) < n) (sym ran.size) (planned.within (c.ciphers-inputs.result + i) (omega arith)),
                      (
                        subst (λ (n : ℕ). OnOperands op (λ r. (slice_index c.args.plan.now r < n) × (slice_index c.args.plan.now r ≢ slice_index c.args.plan.now (c.ciphers-inputs.result + i)))) (sym ran.size)
                            (operands_there script c.args.plan.now (length c.args.ciphers.now) i op found.0 _ _ _ planned below found.1 found.2 within (ap (slice_index c.args.plan.now) here)),
                        (
                          ran.of_context,
                          (
                            taken_in g.row.N c.args.ctx.now no_digits script c.args.plan.now c.args.plains.now c.args.ciphers.now i c.loop-i.ciphers op found.0 _ _ ran c.output-output.ensures.sound found.1 found.2 within,
                            (
                              on_plain _ _ _ op _ within c.requires.plains,
                              c.loop-i.invariant.scratch_rows ∙ c.requires.scratch_rows,
                            ),
                          ),
                        ),
                      ),
                    ),
                  ),
                ),
              ),
            ),
          ),
        ),
      ),
    )

pub loop-i-preserved : goal.loop-i-preserved
loop-i-preserved g c =
    let script = c.args.script.now in
    let i = c.loop-i.i in
    let op = c.step.result in
    let below : i < length script.steps = omega (arith, c.loop-i-test.true, c.steps-i-end.ensures.value) in
    let found = step_found script.steps i op below c.step.ensures in
    let within : IsWithin (plain_of c.args.ctx.now.set) (length (plain_inputs script.inputs)) (input_count script + i) op
    = within_at script i op _ _ _ c.output-output.ensures.sound below c.step.ensures (ap plain_of (sym c.requires.same_set)) refl refl in
    let one : suc i ≡ i + 1 = omega arith in
    record {
      ran = subst (λ (k : ℕ). Ran g.row.N c.args.ctx.now no_digits script c.args.plan.now c.args.plains.now c.args.ciphers.now k c.step-in-loop-i.new.ciphers) one
          (ran_next g.row.N c.args.ctx.now no_digits script c.args.plan.now c.args.plains.now c.args.ciphers.now i c.loop-i.ciphers c.step-in-loop-i.new.ciphers op found.0 _ c.requires.same_set c.requires.plan below found.1 found.2 within
          (ap (slice_index c.args.plan.now) (ap (λ (k : ℕ). k + i) c.ciphers-inputs.ensures)) c.step-in-loop-i.ensures.done c.loop-i.invariant.ran);
      scratch_rows = c.step-in-loop-i.ensures.scratch_rows ∙ c.loop-i.invariant.scratch_rows;
    }

pub returns-clause-carries : goal.returns-clause-carries
returns-clause-carries g c = λ s lists bounds carry premise.
    carries_end g.row.N c.args.ctx.now no_digits c.args.script.now c.args.plan.now c.args.plains.now c.args.ciphers.now c.loop-i.ciphers c.loop-i.i _ c.output-output.ensures.sound.output
    (omega (arith, c.loop-i-test.false, c.steps-i-end.ensures.value)) (ap (slice_index c.args.plan.now) c.output-output.ensures.value) c.loop-i.invariant.ran c.requires.same_set s lists bounds carry premise
