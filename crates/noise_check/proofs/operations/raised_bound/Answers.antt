use Rattle.std.proofs.Common.{◌∙◌, ap, ◌+◌}
use Rattle.bound_num.specs.Bound.{bound_value, up}
use Rattle.noise_check.proofs.Constants.{up-plain}
use Rattle.noise_check.proofs.operations.raised_bound.Goals as goal

pub returns-clause-value : goal.returns-clause-value
returns-clause-value c =
    c.add_up.ensures.value
    ∙ ap (λ t. up (bound_value c.args.bound.m c.args.bound.e + t)) (c.of.ensures.value ∙ ap up c.plain.ensures ∙ up-plain c.args.set)
