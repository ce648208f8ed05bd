use Rattle.std.proofs.Common.{Bool, ◌↔◌, IsTrue, sym, subst}
use Rattle.std.specs.Int.{IsGcd}
use Rattle.res_base.proofs.base.is_coprime.Goals as goal

pub returns : goal.returns
returns c =
    let Tells : Bool → Type 0 = λ b. IsTrue b ↔ IsGcd c.args.a c.args.m.now 1 in
    subst Tells (sym c.is_some.ensures) c.inverse.ensures.coprime
