-- The transform by layers: from c blocks of 2t coefficients to 2c blocks of t.
use Rattle.std.proofs.Common.{◌≡◌, ℕ, suc, ◌+◌, ◌*◌, ◌^◌, refl, ap, ap₂, ◌∙◌, arith, ℤ, pos, neg_ℤ, ◌+ℤ◌, ◌*ℤ◌}
use Rattle.std.proofs.lemmas.Nat.{pow-add}
use Rattle.std.proofs.Math.Nat.{pow-zero}
use Rattle.ring_law.specs.Sums.{sum_below}
use Rattle.ring_law.specs.Residues.{Congruent}
use Rattle.ring_law.specs.Polynomials.{minus_one_to}
use Rattle.ring_law.specs.Transform.{bit_reversal, evaluation}
use Rattle.ring_law.proofs.WholeNumbers.{int_one_mul}
use Rattle.ring_law.proofs.RingSolver.{identity1, identity3, literal, minus, ◌⊕◌, ◌⊗◌}
use Rattle.ring_law.proofs.Sums.{sum_below_ext, sum_below_odd_even, sum_below_scale}
use Rattle.ring_law.proofs.Congruence.{Congruent-add, Congruent-equal, Congruent-mul, Congruent-refl, Congruent-sum_below, Congruent-trans}
use Rattle.ring_law.proofs.PowerCoefficients.{minus_one_to_even}
use Rattle.ring_law.proofs.BitReversal.{bit_reversal_even, bit_reversal_odd}
use Rattle.ring_law.proofs.Evaluation.{power_shifted}

-- the value at x^(t * e) of the polynomial whose c coefficients are those of a at the places r, r + t, r + 2t and so on:
-- coefficient r of a modulo X^t - x^(t * e), where a has c * t coefficients
unfoldable pub block_value : ℕ → ℕ → ℕ → ℕ → ℕ → (ℕ → ℤ) → ℤ
block_value x c t e r a = sum_below c (λ p. a (r + p * t) *ℤ pos (x ^ (p * t * e)))

-- a block of half the width, from two of the whole
pub block_value_split : (x c t e r : ℕ) (a : ℕ → ℤ) →
    block_value x (c + c) t e r a ≡ block_value x c (2 * t) e r a +ℤ pos (x ^ (t * e)) *ℤ block_value x c (2 * t) e (r + t) a
unfolding block_value
block_value_split x c t e r a =
    sum_below_odd_even c (λ p. a (r + p * t) *ℤ pos (x ^ (p * t * e)))
    ∙ ap₂ ◌+ℤ◌
    (sum_below_ext c (λ p. a (r + 2 * p * t) *ℤ pos (x ^ (2 * p * t * e))) (λ p. a (r + p * (2 * t)) *ℤ pos (x ^ (p * (2 * t) * e)))
    (λ p l. ap₂ (λ u v. a u *ℤ pos (x ^ v)) (first r p t) (first_e p t e)))
    (sum_below_ext c (λ p. a (r + (2 * p + 1) * t) *ℤ pos (x ^ ((2 * p + 1) * t * e)))
    (λ p. pos (x ^ (t * e)) *ℤ (a (r + t + p * (2 * t)) *ℤ pos (x ^ (p * (2 * t) * e)))) (λ p l.
    ap₂ (λ u v. a u *ℤ pos v) (second r p t) (ap (λ y. x ^ y) (second_e p t e) ∙ pow-add x (t * e) (p * (2 * t) * e))
    ∙ identity3 (λ a y z. a ⊗ (y ⊗ z)) (λ a y z. y ⊗ (a ⊗ z)) refl (a (r + t + p * (2 * t))) (pos (x ^ (t * e))) (pos (x ^ (p * (2 * t) * e))))
    ∙ sum_below_scale c (pos (x ^ (t * e))) (λ p. a (r + t + p * (2 * t)) *ℤ pos (x ^ (p * (2 * t) * e))))
  where
    first : (r p t : ℕ) → r + 2 * p * t ≡ r + p * (2 * t)
    first r p t = omega arith

    first_e : (p t e : ℕ) → 2 * p * t * e ≡ p * (2 * t) * e
    first_e p t e = omega arith

    second : (r p t : ℕ) → r + (2 * p + 1) * t ≡ r + t + p * (2 * t)
    second r p t = omega arith

    second_e : (p t e : ℕ) → (2 * p + 1) * t * e ≡ t * e + p * (2 * t) * e
    second_e p t e = omega arith

-- the other square root: 2h more in the power, where t * h is n
module _ (m n x : ℕ) (minus_one : Congruent m (pos (x ^ n)) (neg_ℤ (pos 1))) where
  -- 2h more in the power change nothing where t * h is n
  pub block_value_wrap : (c t h e r : ℕ) (a : ℕ → ℤ) → t * h ≡ n → Congruent m (block_value x c t (e + 2 * h) r a) (block_value x c t e r a)
  unfolding block_value
  block_value_wrap c t h e r a s =
      Congruent-sum_below m c (λ p. a (r + p * t) *ℤ pos (x ^ (p * t * (e + 2 * h)))) (λ p. a (r + p * t) *ℤ pos (x ^ (p * t * e)))
      (λ p l. Congruent-mul m (Congruent-refl m (a (r + p * t)))
      (Congruent-trans m (Congruent-equal m (ap (λ y. pos (x ^ y)) (spread p t e h ∙ ap (λ y. p * t * e + y * (2 * p)) s)))
      (Congruent-trans m (power_shifted m n x minus_one (p * t * e) (2 * p))
      (Congruent-equal m (ap (λ y. y *ℤ pos (x ^ (p * t * e))) (minus_one_to_even p) ∙ int_one_mul (pos (x ^ (p * t * e))))))))
    where
      spread : (p t e h : ℕ) → p * t * (e + 2 * h) ≡ p * t * e + (t * h) * (2 * p)
      spread p t e h = omega arith

  -- and turn the sign where 2 * t * h is n
  pub power_wrap : (t h e : ℕ) → t * (2 * h) ≡ n → Congruent m (pos (x ^ (t * (e + 2 * h)))) (neg_ℤ (pos (x ^ (t * e))))
  unfolding minus_one_to
  power_wrap t h e s =
      Congruent-trans m (Congruent-equal m (ap (λ y. pos (x ^ y)) (spread t e h ∙ ap (λ y. t * e + y * 1) s)))
      (Congruent-trans m (power_shifted m n x minus_one (t * e) 1)
      (Congruent-equal m (identity1 (λ y. minus (literal (pos 1)) ⊗ y) (λ y. minus y) refl (pos (x ^ (t * e))))))
    where
      spread : (t e h : ℕ) → t * (e + 2 * h) ≡ t * e + t * (2 * h) * 1
      spread t e h = omega arith

  -- block 2i and block 2i + 1 of the next layer, c = 2^s blocks in this one
  pub block_value_even : (s t i r : ℕ) (a : ℕ → ℤ) → block_value x (2 ^ s + 2 ^ s) t (2 * bit_reversal (suc s) (2 * i) + 1) r a
      ≡ block_value x (2 ^ s) (2 * t) (2 * bit_reversal s i + 1) r a +ℤ pos (x ^ (t * (2 * bit_reversal s i + 1))) *ℤ block_value x (2 ^ s) (2 * t)
      (2 * bit_reversal s i + 1) (r + t) a
  block_value_even s t i r a =
      ap (λ v. block_value x (2 ^ s + 2 ^ s) t (2 * v + 1) r a) (bit_reversal_even s i) ∙ block_value_split x (2 ^ s) t (2 * bit_reversal s i + 1) r a

  -- the odd blocks of the next layer
  pub block_value_odd : (s t i r : ℕ) (a : ℕ → ℤ) → 2 * t * 2 ^ s ≡ n →
      Congruent m (block_value x (2 ^ s + 2 ^ s) t (2 * bit_reversal (suc s) (2 * i + 1) + 1) r a)
      (block_value x (2 ^ s) (2 * t) (2 * bit_reversal s i + 1) r a +ℤ neg_ℤ (pos (x ^ (t * (2 * bit_reversal s i + 1)))) *ℤ block_value x (2 ^ s) (2 * t)
      (2 * bit_reversal s i + 1) (r + t) a)
  block_value_odd s t i r a e =
      Congruent-trans m
      (Congruent-equal m
      (ap (λ v. block_value x (2 ^ s + 2 ^ s) t v r a) (ap (λ v. 2 * v + 1) (bit_reversal_odd s i) ∙ place (2 ^ s) (bit_reversal s i))
      ∙ block_value_split x (2 ^ s) t (2 * bit_reversal s i + 1 + 2 * 2 ^ s) r a))
      (Congruent-add m (block_value_wrap (2 ^ s) (2 * t) (2 ^ s) (2 * bit_reversal s i + 1) r a e)
      (Congruent-mul m (power_wrap t (2 ^ s) (2 * bit_reversal s i + 1) (turn t (2 ^ s) e))
      (block_value_wrap (2 ^ s) (2 * t) (2 ^ s) (2 * bit_reversal s i + 1) (r + t) a e)))
    where
      place : (h v : ℕ) → 2 * (h + v) + 1 ≡ 2 * v + 1 + 2 * h
      place h v = omega arith

      turn : (t h : ℕ) → 2 * t * h ≡ n → t * (2 * h) ≡ n
      turn t h e = omega arith

-- the first layer's one block is a itself, and the last one's blocks are the entries
pub block_value_first : (x t e r : ℕ) (a : ℕ → ℤ) → block_value x 1 t e r a ≡ a r
unfolding block_value sum_below
block_value_first x t e r a =
    ap₂ (λ u v. pos 0 +ℤ a u *ℤ pos v) (none r t) (ap (λ y. x ^ y) (none' t e) ∙ pow-zero x)
    ∙ identity1 (λ a. literal (pos 0) ⊕ a ⊗ literal (pos 1)) (λ a. a) refl (a r)
  where
    none : (r t : ℕ) → r + 0 * t ≡ r
    none r t = omega arith

    none' : (t e : ℕ) → 0 * t * e ≡ 0
    none' t e = omega arith

-- the blocks of the last layer are the values
pub block_value_last : (x k j : ℕ) (a : ℕ → ℤ) →
    block_value x (2 ^ k) 1 (2 * bit_reversal k j + 1) 0 a ≡ evaluation (2 ^ k) x (2 * bit_reversal k j + 1) a
unfolding block_value evaluation
block_value_last x k j a =
    sum_below_ext (2 ^ k) (λ p. a (0 + p * 1) *ℤ pos (x ^ (p * 1 * (2 * bit_reversal k j + 1)))) (λ p. a p *ℤ pos (x ^ (p * (2 * bit_reversal k j + 1))))
    (λ p l. ap₂ (λ u v. a u *ℤ pos (x ^ v)) (one p) (ap (λ y. y * (2 * bit_reversal k j + 1)) (one' p)))
  where
    one : (p : ℕ) → 0 + p * 1 ≡ p
    one p = omega arith

    one' : (p : ℕ) → p * 1 ≡ p
    one' p = omega arith
