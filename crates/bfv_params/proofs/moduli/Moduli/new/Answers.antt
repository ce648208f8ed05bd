use Rattle.std.proofs.Common.{sym, subst, ◌∙◌}
use Rattle.ring_law.specs.Moduli.{PairwiseCoprime}
use Rattle.bfv_params.proofs.Coprimality.{data_coprime, data_length, first_keys}
use Rattle.bfv_params.proofs.moduli.Moduli.new.Goals as goal

pub coprime_base-requires-clause-coprime : goal.coprime_base-requires-clause-coprime
coprime_base-requires-clause-coprime c =
    let level = c.args.level in
    subst PairwiseCoprime
    (sym (first_keys c.args.set level level c.deref.result.now (c.deref.ensures.value ∙ c.in_ok-keys.ensures) (data_length c.args.set level c.requires.within))) (data_coprime c.args.set level)
