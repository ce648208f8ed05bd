use Rattle.std.proofs.Common.{◌∙◌, sym, ap, min, ◌-◌}
use Rattle.set_table.specs.Sets.{plain_of}
use Rattle.noise_check.proofs.Constants.{nat_abs-centred_residue}
use Rattle.noise_check.proofs.operations.centred_size.Goals as goal

pub returns : goal.returns
returns c =
    c.min.ensures
    ∙ ap (λ t. min c.args.constant (t - c.args.constant)) c.plain.ensures
    ∙ sym (nat_abs-centred_residue (plain_of c.args.set) c.args.constant c.requires)
