-- The rounding of decryption in the moduli t and gamma, coefficient by coefficient (Bajard, Eynard, Hasan and Zucca 2016).
use Rattle.std.specs.Prelude.{◌≡◌, ℕ, ◌<◌, ℤ, pos, neg_ℤ, ◌-ℤ◌, ◌*ℤ◌}
use Rattle.word_mod.specs.Moduli.{shoup_of}
use Rattle.ring_law.specs.Residues.{Congruent, centred_residue, residue}
use Rattle.behz_decrypt.specs.declared.rounding.Rounding.{Rounding}

-- the word is (a - e) / g modulo t, where a is -y / q modulo t and e is -y / q modulo g, taken nearest to 0
pub record IsRounded (q t g : ℕ) (y : ℤ) (word : ℕ) : Type 0 where
  pub in_plain : ℤ
  pub in_gamma : ℤ
  pub gamma_inverse : ℤ
  pub in_plain_is : Congruent t (in_plain *ℤ pos q) (neg_ℤ y)
  pub in_gamma_is : Congruent g (in_gamma *ℤ pos q) (neg_ℤ y)
  pub gamma_inverse_is : Congruent t (gamma_inverse *ℤ pos g) (pos 1)
  pub word_is : word ≡ residue t ((in_plain -ℤ centred_residue g in_gamma) *ℤ gamma_inverse)

-- the factors are those of q, t and g
pub record AreConstants (q t g : ℕ) (c : Rounding) : Type 0 where
  pub plain_is : c.plain ≡ t
  pub gamma_is : c.gamma ≡ g
  pub plain_factor_is : Congruent t (pos c.plain_factor.w *ℤ pos q) (neg_ℤ (pos 1))
  pub gamma_factor_is : Congruent g (pos c.gamma_factor.w *ℤ pos q) (neg_ℤ (pos 1))
  pub gamma_inverse_is : Congruent t (pos c.gamma_inverse.w *ℤ pos g) (pos 1)

-- the factors are residues, and each has its quotient
pub record HaveQuotients (c : Rounding) : Type 0 where
  pub plain_factor_below : c.plain_factor.w < c.plain
  pub gamma_factor_below : c.gamma_factor.w < c.gamma
  pub gamma_inverse_below : c.gamma_inverse.w < c.plain
  pub plain_factor_shoup : c.plain_factor.shoup ≡ shoup_of c.plain c.plain_factor.w
  pub gamma_factor_shoup : c.gamma_factor.shoup ≡ shoup_of c.gamma c.gamma_factor.w
  pub gamma_inverse_shoup : c.gamma_inverse.shoup ≡ shoup_of c.plain c.gamma_inverse.w
