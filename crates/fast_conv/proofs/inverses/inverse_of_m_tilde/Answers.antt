use Rattle.std.proofs.Common.{rules}
use Rattle.word_mod.specs.Moduli.{IsModulus}
use Rattle.fast_conv.proofs.Words.{IsGcd-power_of_two_odd}
use Rattle.fast_conv.proofs.inverses.inverse_of_m_tilde.Goals as goal

pub unwrap-requires : goal.unwrap-requires
unwrap-requires c =
    let is : IsModulus c.args.p = search rules in
    c.inverse.ensures.coprime.1 (IsGcd-power_of_two_odd c.args.p 32 is.odd)
