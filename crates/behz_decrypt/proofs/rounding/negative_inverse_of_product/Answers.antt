use Rattle.std.proofs.Common.{◌≡◌, ◌<◌, ◌*◌, ◌%◌, ◌∙◌, ℕ, ap, arith, mod-lt, subst, sym}
use Rattle.std.specs.Int.{IsGcd}
use Rattle.ring_law.specs.Moduli.{product}
use Rattle.behz_decrypt.proofs.Coprimality.{coprime_residue}
use Rattle.behz_decrypt.proofs.RoundedWords.{negative_inverse_is}
use Rattle.behz_decrypt.proofs.rounding.negative_inverse_of_product.Goals as goal

pub unwrap-inverse-requires : goal.unwrap-inverse-requires
unwrap-inverse-requires c =
    c.inverse.ensures.coprime.1 (subst (λ r. IsGcd r c.args.m.now 1) (sym c.product_mod.ensures.value)
    (coprime_residue c.args.m.now (product c.args.base.now) (omega (arith, c.product_mod.ensures.below)) c.requires))

pub returns-clause-value : goal.returns-clause-value
returns-clause-value c =
    let m : ℕ = c.args.m.now in
    let q : ℕ = product c.args.base.now in
    let v : ℕ = c.unwrap-inverse.result in
    let one : v * c.product_mod.result % m ≡ 1 = rw c.unwrap-inverse.ensures at c.inverse.ensures.value in
    let below : v < m = rw c.unwrap-inverse.ensures at c.inverse.ensures.below in
    let positive : 0 < m = omega (arith, c.product_mod.ensures.below) in
    let inverse : v * (q % m) % m ≡ 1 = ap (λ (r : ℕ). v * r % m) (sym c.product_mod.ensures.value) ∙ one in
    let above : 1 < m = subst (λ r. r < m) one (mod-lt (v * c.product_mod.result) positive) in
    negative_inverse_is m q v c.factor.result.w above below inverse (c.factor.ensures.w ∙ c.neg.ensures.value)
