use Rattle.std.proofs.Common.{◌≡◌, ◌<◌, ◌*◌, ◌%◌, ℕ, List, arith, mod-lt, pos, subst, sym}
use Rattle.std.specs.Int.{IsGcd}
use Rattle.std.specs.Prelude.{neg_ℤ, ◌*ℤ◌}
use Rattle.set_table.specs.Sets.{gamma, plain_of}
use Rattle.ring_law.specs.Moduli.{product}
use Rattle.ring_law.specs.Residues.{Congruent}
use Rattle.bfv_params.specs.Moduli.{data_at}
use Rattle.behz_decrypt.proofs.Coprimality.{HasInverse-gamma, HasInverse-plain, coprime_from_inverse, gamma_coprime_to_plain}
use Rattle.behz_decrypt.proofs.RoundedWords.{Congruent-one}
use Rattle.behz_decrypt.proofs.rounding.Rounding.new.Goals as goal

pub negative_inverse_of_product-requires : goal.negative_inverse_of_product-requires
negative_inverse_of_product-requires g c =
    let set = c.args.ctx.now.set in
    let base = data_at set c.args.ctx.now.level in
    subst (λ qs. IsGcd (product qs) c.plain_modulus.result.now 1) (sym c.data_base-base.ensures)
    (subst (λ t. IsGcd (product base) t 1) (sym c.plain_modulus.ensures) (coprime_from_inverse (plain_of set) (product base) (HasInverse-plain set c.args.ctx.now.level)))

pub negative_inverse_of_product-requires-2 : goal.negative_inverse_of_product-requires-2
negative_inverse_of_product-requires-2 g c =
    let set = c.args.ctx.now.set in
    let base = data_at set c.args.ctx.now.level in
    subst (λ qs. IsGcd (product qs) c.gamma.result.now 1) (sym c.data_base-base.ensures)
    (subst (λ p. IsGcd (product base) p 1) (sym c.gamma.ensures) (coprime_from_inverse gamma (product base) (HasInverse-gamma set c.args.ctx.now.level)))

pub unwrap-requires : goal.unwrap-requires
unwrap-requires g c =
    c.inverse.ensures.coprime.1 (subst (λ p. IsGcd p c.plain_modulus.result.now 1) (sym c.value.ensures.value)
    (subst (λ p. IsGcd p c.plain_modulus.result.now 1) (sym c.gamma.ensures)
    (subst (λ t. IsGcd gamma t 1) (sym c.plain_modulus.ensures) (gamma_coprime_to_plain c.args.ctx.now.set))))

pub returns-clause-constants : goal.returns-clause-constants
returns-clause-constants g c =
    let set = c.args.ctx.now.set in
    let base = data_at set c.args.ctx.now.level in
    let t : ℕ = c.plain_modulus.result.now in
    let p : ℕ = c.gamma.result.now in
    let v : ℕ = c.unwrap.result in
    let one : v * c.value.result % t ≡ 1 = rw c.unwrap.ensures at c.inverse.ensures.value in
    let positive : 0 < t = omega (arith, c.negative_inverse_of_product.ensures.below) in
    let above : 1 < t = subst (λ r. r < t) one (mod-lt (v * c.value.result) positive) in
    let Opposite : ℕ → ℕ → List ℕ → Type 0 = λ w m qs. Congruent m (pos w *ℤ pos (product qs)) (neg_ℤ (pos 1)) in
    let Unit : ℕ → ℕ → ℕ → Type 0 = λ w m r. Congruent m (pos w *ℤ pos r) (pos 1) in
    record {
      plain_is = c.plain_modulus.ensures;
      gamma_is = c.gamma.ensures;
      plain_factor_is = subst (λ m. Opposite c.negative_inverse_of_product.result.w m base) c.plain_modulus.ensures
          (subst (Opposite c.negative_inverse_of_product.result.w t) c.data_base-base.ensures c.negative_inverse_of_product.ensures.value);
      gamma_factor_is = subst (λ m. Opposite c.negative_inverse_of_product-2.result.w m base) c.gamma.ensures
          (subst (Opposite c.negative_inverse_of_product-2.result.w p) c.data_base-base.ensures c.negative_inverse_of_product-2.ensures.value);
      gamma_inverse_is = subst (λ w. Unit w (plain_of set) gamma) (sym c.factor.ensures.w)
          (subst (λ m. Unit v m gamma) c.plain_modulus.ensures (subst (Unit v t) c.gamma.ensures (subst (Unit v t) c.value.ensures.value (Congruent-one t (v * c.value.result) above one))));
    }
