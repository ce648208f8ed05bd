use Rattle.std.proofs.Common.{Bool, ℕ, ◌%◌, ◌↔◌, IsTrue, subst, sym}
use Rattle.std.specs.Int.{IsGcd}
use Rattle.std.proofs.lemmas.Nat.Gcd.{IsGcd-from_mod, IsGcd-swap}
use Rattle.ring_law.specs.Moduli.{product}
use Rattle.fast_conv.proofs.tests.is_coprime.Goals as goal

pub returns : goal.returns
returns c =
    let p : ℕ = c.args.p.now in
    let q : ℕ = product c.args.base.now in
    let Tells : Bool → Type 0 = λ b. IsTrue b ↔ IsGcd c.product_mod.result p 1 in
    let Residue : ℕ → Type 0 = λ r. IsGcd r p 1 in
    λ coprime. IsGcd-from_mod q p 1 (IsGcd-swap (q % p) p 1 (subst Residue c.product_mod.ensures.value ((subst Tells (sym c.is_some.ensures) c.inverse.ensures.coprime).0 coprime)))
