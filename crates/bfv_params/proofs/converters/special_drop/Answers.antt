use Rattle.std.proofs.Common.{sym, subst, ◌∙◌}
use Rattle.ring_law.specs.Moduli.{PairwiseCoprime}
use Rattle.bfv_params.proofs.Coprimality.{key_coprime}
use Rattle.bfv_params.proofs.converters.special_drop.Goals as goal

pub coprime_base-requires-clause-coprime : goal.coprime_base-requires-clause-coprime
coprime_base-requires-clause-coprime c = subst PairwiseCoprime (sym (c.deref.ensures.value ∙ c.requires.keys_are)) (key_coprime c.args.set _)
