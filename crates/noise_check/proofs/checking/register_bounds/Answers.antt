use Rattle.std.proofs.Common.{◌≡◌, ◌+◌, ◌<◌, ap, ◌∙◌, arith, length}
use Rattle.noise_check.specs.Numbers.{numbers}
use Rattle.noise_check.proofs.Scripts.{read, no_step}
use Rattle.noise_check.proofs.Operands.{operands_at}
use Rattle.noise_check.proofs.Steps.{same_operands, step_special, values_push, all_values, exponents_push, canonical_push, length_push}
use Rattle.noise_check.proofs.checking.register_bounds.Goals as goal

pub operation_bound-bound-requires-clause-operands :
    goal.operation_bound-bound-requires-clause-operands
operation_bound-bound-requires-clause-operands c =
    let within : c.loop-i.i < length c.args.script.now.steps = omega arith in
    same_operands _ _ _ _ _ _ c.set-set.ensures.value
    (ap length c.deref.ensures.value ∙ c.loop-i.invariant.count ∙ ap (λ n. n + c.loop-i.i) c.requires.each)
    (read (λ step. c.step.result ≡ step.op) c.args.script.now.steps c.loop-i.i no_step within c.step.ensures)
    (operands_at c.args.script.now c.loop-i.i c.set-set.ensures.sound within)

pub operation_bound-bound-requires-clause-special :
    goal.operation_bound-bound-requires-clause-special
operation_bound-bound-requires-clause-special c =
    let within : c.loop-i.i < length c.args.script.now.steps = omega arith in
    step_special c.args.script.now c.set-set.result c.loop-i.i c.step.result within c.set-set.ensures.value
    (read (λ step. c.step.result ≡ step.op) c.args.script.now.steps c.loop-i.i no_step within c.step.ensures)
    c.requires.special

pub loop-i-preserved : goal.loop-i-preserved
loop-i-preserved c =
    let within : c.loop-i.i < length c.args.script.now.steps = omega arith in
    let pushed = c.in_ok-push.ensures.items in
    let bound = c.operation_bound-bound.ensures in
    record {
      count = length_push _ _ _ (length c.args.inputs.now) c.loop-i.i pushed c.loop-i.invariant.count;
      canonical = canonical_push _ _ _ pushed c.loop-i.invariant.canonical bound.canonical;
      small = exponents_push _ _ _ _ c.loop-i.i c.deref.ensures.value pushed c.loop-i.invariant.small bound.exponent;
      values = values_push c.set-set.result c.args.script.now.set c.args.script.now.steps c.loop-i.i c.step.result _ _ _ c.operation_bound-bound.result (numbers c.args.inputs.now) within
          c.set-set.ensures.value
          (read (λ step. c.step.result ≡ step.op) c.args.script.now.steps c.loop-i.i no_step within c.step.ensures)
          c.deref.ensures.value pushed bound.value c.loop-i.invariant.values;
    }

pub returns-clause-values : goal.returns-clause-values
returns-clause-values c = all_values c.args.script.now (numbers c.args.inputs.now) _ c.loop-i.i (omega arith) c.loop-i.invariant.values
