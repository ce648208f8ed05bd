-- What rounding gives is the plaintext.
use Rattle.std.proofs.Common.{◌≡◌, ℕ, ◌+◌, ◌*◌, ◌<◌, ◌≤◌, ℤ, pos, ◌*ℤ◌, arith, ◌∙◌, length, mul-le-mul_left}
use Rattle.set_table.specs.declared.SetName.{SetName}
use Rattle.set_table.specs.Sets.{data_of, plain_of, gamma}
use Rattle.ring_law.specs.Moduli.{IsFastConversion, product}
use Rattle.ring_law.specs.Rows.{natural_polynomial}
use Rattle.ring_law.proofs.Congruence.{Congruent-refl}
use Rattle.ring_law.proofs.Moduli.{AllAboveOne-take, product_positive}
use Rattle.res_base.specs.Sizes.{FitTogether}
use Rattle.res_base.proofs.Bases.{AllAboveOne-from_IsBase}
use Rattle.res_base.proofs.Sizes.{IsBase-data_of, fit_together}
use Rattle.bfv_model.specs.Holds.{CipherHolds, phase}
use Rattle.bfv_model.proofs.Decryption.{decryption_over_residues}
use Rattle.bfv_params.specs.Moduli.{data_at}
use Rattle.behz_decrypt.specs.Rounding.{IsRounded}
use Rattle.behz_decrypt.proofs.Coprimality.{HasInverse-gamma, HasInverse-plain}

-- q is positive
modulus_positive : (set : SetName) (level : ℕ) → 0 < product (data_at set level)
modulus_positive set level =
    product_positive (data_at set level) (AllAboveOne-take level (data_of set) (AllAboveOne-from_IsBase (data_of set) (IsBase-data_of set)))

pub decrypted : (n : ℕ) (set : SetName) (level : ℕ) (word : ℕ → ℕ → ℕ → ℕ) (s : ℕ → ℤ) (m : ℕ → ℕ) (W : ℕ) → level ≤ length (data_of set)
    → (h : CipherHolds n (data_at set level) (plain_of set) word s m W) → 4 * W ≤ product (data_at set level) → (k : ℕ) → k < n → (y : ℤ) (found : ℕ)
    → IsFastConversion (product (data_at set level)) level (pos gamma *ℤ (pos (plain_of set) *ℤ phase n (natural_polynomial (h.part 0))
    (natural_polynomial (h.part 1)) (natural_polynomial (h.part 2)) s k)) y
    → IsRounded (product (data_at set level)) (plain_of set) gamma y found → found ≡ m k
decrypted n set level word s m W within h small k less y found converted rounded =
    let q = product (data_at set level) in
    let t = plain_of set in
    let fit : FitTogether set = fit_together set in
    let some : 0 < q = modulus_positive set level in
    let below : m k < t = h.holds.plain k less in
    let above_one : 1 ≤ t = omega arith in
    let room : 4 * (level + 1) ≤ gamma = omega (arith, fit.decrypt_room) in
    let both : 0 < t * q = omega (arith, mul-le-mul_left q above_one) in
    let x = phase n (natural_polynomial (h.part 0)) (natural_polynomial (h.part 1)) (natural_polynomial (h.part 2)) s k in
    rounded.word_is
    ∙ decryption_over_residues gamma level k x y rounded.in_plain rounded.in_gamma rounded.gamma_inverse some both h.holds small room less (Congruent-refl q x)
    converted (HasInverse-plain set level) (HasInverse-gamma set level) rounded.in_plain_is rounded.in_gamma_is rounded.gamma_inverse_is
