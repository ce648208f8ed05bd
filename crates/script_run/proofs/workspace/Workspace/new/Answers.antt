use Rattle.std.proofs.Common.{arith, length, ◌≡◌, ◌+◌, ◌∙◌, sym, ℕ, subst}
use Rattle.script_run.specs.Registers.{IsPlan, input_count}
use Rattle.script_run.proofs.Inputs.{inputs_counted}
use Rattle.script_run.proofs.workspace.Workspace.new.Goals as goal

pub overflow_sub-inputs : goal.overflow_sub-inputs
overflow_sub-inputs g c =
    let counted = inputs_counted c.args.script.now.inputs in
    omega (arith, c.ciphers-inputs.ensures, c.inputs.ensures.value, counted)

pub returns-clause-made : goal.returns-clause-made
returns-clause-made g c =
    let script = c.args.script.now in
    let counted = inputs_counted script.inputs in
    record {
      same_set = c.set.ensures.value ∙ sym c.requires.same_set;
      plan = subst (λ (n : ℕ). IsPlan script c.in_ok-plan.plan.places.items n) (sym c.in_ok-zero_ciphers.ensures.count) c.in_ok-plan.ensures.plan;
      plains = omega (arith, c.in_ok-vec.ensures.len, c.ciphers-inputs.ensures, c.inputs.ensures.value, counted);
    }
