-- The entries of a transform: of sums and products, and that they determine a polynomial modulo p and may be any numbers.
use Rattle.std.proofs.Common.{◌≡◌, ℕ, ◌+◌, ◌-◌, ◌*◌, ◌%◌, ◌^◌, ◌<◌, sym, ap, ◌∙◌, ℤ, pos, neg_ℤ, ◌*ℤ◌, pow_pos, arith}
use Rattle.std.proofs.lemmas.Int.{ints}
use Rattle.ring_law.specs.Residues.{Congruent, HasInverse, residue}
use Rattle.ring_law.specs.Polynomials.{CongruentPolynomials, ring_product, ring_sum}
use Rattle.ring_law.specs.Transform.{bit_reversal, evaluation, transform_entry}
use Rattle.ring_law.proofs.WholeNumbers.{int_mul_assoc, int_one_mul}
use Rattle.ring_law.proofs.Congruence.{Congruent-cancel, Congruent-equal, Congruent-mul, Congruent-refl, Congruent-sum_below, Congruent-sym, Congruent-trans}
use Rattle.ring_law.proofs.Residues.{Congruent-from_residues, residue-add, residue-mul, residue_equal, residue_lt, residue_unique}
use Rattle.ring_law.proofs.BitReversal.{bit_reversal_lt, bit_reversal_twice}
use Rattle.ring_law.proofs.Evaluation.{evaluation_add, evaluation_congruent, evaluation_product, evaluation_scale}
use Rattle.ring_law.proofs.TransformInverse.{coefficient_from_values, evaluation-from_values, from_values}

-- entries are below the modulus
pub transform_entry_lt : (p k x : ℕ) (a : ℕ → ℤ) (j : ℕ) → 0 < p → transform_entry p k x a j < p
transform_entry_lt p k x a j positive = residue_lt p (evaluation (2 ^ k) x (2 * bit_reversal k j + 1) a) positive

-- congruent polynomials have equal entries
pub transform_entry_congruent : (p k x : ℕ) (a b : ℕ → ℤ) (j : ℕ) → 0 < p → CongruentPolynomials p (2 ^ k) a b →
    transform_entry p k x a j ≡ transform_entry p k x b j
transform_entry_congruent p k x a b j positive same =
    residue_equal p (evaluation (2 ^ k) x (2 * bit_reversal k j + 1) a) (evaluation (2 ^ k) x (2 * bit_reversal k j + 1) b) positive
    (evaluation_congruent p (2 ^ k) x (2 * bit_reversal k j + 1) a b same.at)

-- the entries of a sum are the sums of the entries
pub transform_entry-ring_sum : (p k x : ℕ) (a b : ℕ → ℤ) (j : ℕ) → 0 < p →
    transform_entry p k x (ring_sum a b) j ≡ (transform_entry p k x a j + transform_entry p k x b j) % p
transform_entry-ring_sum p k x a b j positive =
    ap (residue p) (evaluation_add (2 ^ k) x (2 * bit_reversal k j + 1) a b)
    ∙ residue-add p (evaluation (2 ^ k) x (2 * bit_reversal k j + 1) a) (evaluation (2 ^ k) x (2 * bit_reversal k j + 1) b) positive

module _ (p k x : ℕ) (positive : 0 < p) (minus_one : Congruent p (pos (x ^ (2 ^ k))) (neg_ℤ (pos 1))) where
  -- the entries of a product are the products of the entries
  pub transform_entry-ring_product : (a b : ℕ → ℤ) (j : ℕ) →
      transform_entry p k x (ring_product (2 ^ k) a b) j ≡ (transform_entry p k x a j * transform_entry p k x b j) % p
  transform_entry-ring_product a b j =
      residue_equal p (evaluation (2 ^ k) x (2 * bit_reversal k j + 1) (ring_product (2 ^ k) a b))
      (evaluation (2 ^ k) x (2 * bit_reversal k j + 1) a *ℤ evaluation (2 ^ k) x (2 * bit_reversal k j + 1) b) positive
      (evaluation_product p (2 ^ k) x minus_one (pow_pos k) (bit_reversal k j) a b)
      ∙ residue-mul p (evaluation (2 ^ k) x (2 * bit_reversal k j + 1) a) (evaluation (2 ^ k) x (2 * bit_reversal k j + 1) b) positive

  -- entry bit_reversal(j) is the value at the power 2j + 1
  entry_reversed : (a : ℕ → ℤ) (j : ℕ) → j < 2 ^ k → transform_entry p k x a (bit_reversal k j) ≡ residue p (evaluation (2 ^ k) x (2 * j + 1) a)
  entry_reversed a j l = ap (λ i. residue p (evaluation (2 ^ k) x (2 * i + 1) a)) (bit_reversal_twice k j l)

  module _ (unit : HasInverse p (2 ^ k)) where
    -- n has an inverse modulo p, so it may be divided by
    divided : (a b : ℤ) → Congruent p (pos (2 ^ k) *ℤ a) (pos (2 ^ k) *ℤ b) → Congruent p a b
    divided a b h =
        Congruent-cancel p (2 ^ k) a b unit
        (Congruent-trans p (Congruent-equal p (flip a (pos (2 ^ k)))) (Congruent-trans p h (Congruent-equal p (flip (pos (2 ^ k)) b))))
      where
        flip : (a b : ℤ) → a *ℤ b ≡ b *ℤ a
        flip a b = omega (arith, ints)

    -- polynomials with equal entries are congruent
    pub transform_determines : (a b : ℕ → ℤ) → ((j : ℕ) → j < 2 ^ k → transform_entry p k x a j ≡ transform_entry p k x b j) →
        CongruentPolynomials p (2 ^ k) a b
    transform_determines a b same = record {
      at = λ i l. divided (a i) (b i)
          (Congruent-trans p (Congruent-sym p (coefficient_from_values p k x minus_one a i l))
          (Congruent-trans p
          (Congruent-sum_below p (2 ^ k) (λ j. evaluation (2 ^ k) x (2 * j + 1) a *ℤ pos (x ^ ((2 * j + 1) * (2 ^ k + 2 ^ k - i))))
          (λ j. evaluation (2 ^ k) x (2 * j + 1) b *ℤ pos (x ^ ((2 * j + 1) * (2 ^ k + 2 ^ k - i)))) (λ j h.
          Congruent-mul p (value j h) (Congruent-refl p (pos (x ^ ((2 * j + 1) * (2 ^ k + 2 ^ k - i)))))))
          (coefficient_from_values p k x minus_one b i l)));
    }
      where
        value : (j : ℕ) → j < 2 ^ k → Congruent p (evaluation (2 ^ k) x (2 * j + 1) a) (evaluation (2 ^ k) x (2 * j + 1) b)
        value j l = Congruent-from_residues p (evaluation (2 ^ k) x (2 * j + 1) a) (evaluation (2 ^ k) x (2 * j + 1) b) positive
            (sym (entry_reversed a j l) ∙ same (bit_reversal k j) (bit_reversal_lt k j) ∙ entry_reversed b j l)

    -- the polynomial whose transform has the entries word 0, word 1 and so on
    unfoldable pub polynomial_of_entries : (ℕ → ℕ) → ℕ → ℤ
    polynomial_of_entries word i = unit.inverse *ℤ from_values p k x minus_one (λ j. pos (word (bit_reversal k j))) i

    pub transform_entry-polynomial_of_entries : (word : ℕ → ℕ) (j : ℕ) → j < 2 ^ k → word j < p →
        transform_entry p k x (polynomial_of_entries word) j ≡ word j
    unfolding polynomial_of_entries
    transform_entry-polynomial_of_entries word j l small =
        sym (residue_unique p (evaluation (2 ^ k) x (2 * bit_reversal k j + 1) (polynomial_of_entries word)) (word j) small (Congruent-sym p
        (Congruent-trans p
        (Congruent-equal p
        (evaluation_scale (2 ^ k) x (2 * bit_reversal k j + 1) unit.inverse (from_values p k x minus_one (λ j. pos (word (bit_reversal k j))))))
        (Congruent-trans p
        (Congruent-mul p (Congruent-refl p unit.inverse)
        (evaluation-from_values p k x minus_one (λ j. pos (word (bit_reversal k j))) (bit_reversal k j) (bit_reversal_lt k j)))
        (Congruent-trans p (Congruent-equal p (sym (int_mul_assoc unit.inverse (pos (2 ^ k)) (pos (word (bit_reversal k (bit_reversal k j)))))))
        (Congruent-trans p (Congruent-mul p unit.is_one (Congruent-refl p (pos (word (bit_reversal k (bit_reversal k j))))))
        (Congruent-equal p (int_one_mul (pos (word (bit_reversal k (bit_reversal k j)))) ∙ ap (λ i. pos (word i)) (bit_reversal_twice k j l)))))))))
