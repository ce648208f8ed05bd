-- Polynomials modulo X^n + 1 with coefficients modulo m, as a commutative ring.
use Rattle.std.proofs.Common.{◌≡◌, ℕ, ◌+◌, ◌<◌, refl, sym, ap, ap₂, ◌∙◌, ℤ, pos, negsuc, ◌+ℤ◌, ◌*ℤ◌, cond, eqb, Bool, true, false}
use Rattle.std.proofs.Math.IntN.{*ℤ_comm}
use Rattle.ring_law.specs.Sums.{sum_below}
use Rattle.ring_law.specs.Polynomials.{CongruentPolynomials, power_coefficient, ring_constant, ring_negative, ring_product, ring_sum}
use Rattle.ring_law.proofs.WholeNumbers.{int_one_mul, int_zero_mul}
use Rattle.ring_law.proofs.RingSolver.{identity1, identity2, identity3, literal, minus, ◌⊕◌, ◌⊗◌}
use Rattle.ring_law.proofs.CommutativeRing.{CommutativeRing}
use Rattle.ring_law.proofs.Congruence.{Congruent-add, Congruent-equal, Congruent-mul, Congruent-refl, Congruent-sum_below, Congruent-sym, Congruent-trans}
use Rattle.ring_law.proofs.RingProduct.{ring_product_add, ring_product_assoc, ring_product_comm, ring_product_constant}

-- products of congruent polynomials are congruent
pub ring_product_congruent : (m n : ℕ) {a b c d : ℕ → ℤ} → CongruentPolynomials m n a b → CongruentPolynomials m n c d →
    CongruentPolynomials m n (ring_product n a c) (ring_product n b d)
unfolding ring_product
ring_product_congruent m n {a} {b} {c} {d} h k = record {
  at = λ p l.
      Congruent-sum_below m n (λ i. sum_below n (λ j. (a i *ℤ c j) *ℤ power_coefficient n (i + j) p))
      (λ i. sum_below n (λ j. (b i *ℤ d j) *ℤ power_coefficient n (i + j) p)) (λ i x.
      Congruent-sum_below m n (λ j. (a i *ℤ c j) *ℤ power_coefficient n (i + j) p) (λ j. (b i *ℤ d j) *ℤ power_coefficient n (i + j) p) (λ j y.
      Congruent-mul m (Congruent-mul m (h.at i x) (k.at j y)) (Congruent-refl m (power_coefficient n (i + j) p))));
}

-- equal polynomials are congruent
pub CongruentPolynomials-equal : (m n : ℕ) {a b : ℕ → ℤ} → ((k : ℕ) → k < n → a k ≡ b k) → CongruentPolynomials m n a b
CongruentPolynomials-equal m n h = record { at = λ k l. Congruent-equal m (h k l) }

-- how the constants of the ring add up and multiply, at the place of the constant and at the others
pub constant_zero : (t : Bool) → cond t (pos 0) (pos 0) ≡ pos 0
constant_zero true = refl
constant_zero false = refl

pub constant_sum : (t : Bool) (c d : ℤ) → cond t (c +ℤ d) (pos 0) ≡ cond t c (pos 0) +ℤ cond t d (pos 0)
constant_sum true c d = refl
constant_sum false c d = refl

pub constant_mul : (t : Bool) (c d : ℤ) → cond t (c *ℤ d) (pos 0) ≡ d *ℤ cond t c (pos 0)
constant_mul true c d = *ℤ_comm c d
constant_mul false c d = identity1 (λ d. literal (pos 0)) (λ d. d ⊗ literal (pos 0)) refl d

-- the polynomials of n coefficients modulo m
abbrev pub polynomial_ring : (m n : ℕ) → 0 < n → CommutativeRing
polynomial_ring m n pos_n = record {
  Element = ℕ → ℤ;
  Equal = CongruentPolynomials m n;
  add = ring_sum;
  mul = ring_product n;
  neg = ring_negative;
  of_integer = ring_constant;
  equal_refl = λ a. record { at = λ k l. Congruent-refl m (a k) };
  equal_sym = λ h. record { at = λ k l. Congruent-sym m (h.at k l) };
  equal_trans = λ h g. record { at = λ k l. Congruent-trans m (h.at k l) (g.at k l) };
  add_equal = λ h g. record { at = λ k l. Congruent-add m (h.at k l) (g.at k l) };
  mul_equal = λ h g. ring_product_congruent m n h g;
  neg_is =
      λ a. CongruentPolynomials-equal m n
      (λ k l. identity1 (λ a. minus a) (λ a. literal (negsuc 0) ⊗ a) refl (a k) ∙ sym (ring_product_constant n a (negsuc 0) k l)
      ∙ ring_product_comm n a (ring_constant (negsuc 0)) k);
  add_assoc = λ a b c. CongruentPolynomials-equal m n (λ k l. identity3 (λ a b c. a ⊕ b ⊕ c) (λ a b c. a ⊕ (b ⊕ c)) refl (a k) (b k) (c k));
  add_comm = λ a b. CongruentPolynomials-equal m n (λ k l. identity2 (λ a b. a ⊕ b) (λ a b. b ⊕ a) refl (a k) (b k));
  add_zero =
      λ a. CongruentPolynomials-equal m n (λ k l. ap (λ x. a k +ℤ x) (constant_zero (eqb k 0)) ∙ identity1 (λ a. a ⊕ literal (pos 0)) (λ a. a) refl (a k));
  mul_assoc = λ a b c. CongruentPolynomials-equal m n (λ k l. ring_product_assoc n pos_n a b c k);
  mul_comm = λ a b. CongruentPolynomials-equal m n (λ k l. ring_product_comm n a b k);
  mul_one = λ a. CongruentPolynomials-equal m n (λ k l. ring_product_constant n a (pos 1) k l ∙ int_one_mul (a k));
  mul_zero = λ a. CongruentPolynomials-equal m n (λ k l. ring_product_constant n a (pos 0) k l ∙ int_zero_mul (a k) ∙ sym (constant_zero (eqb k 0)));
  mul_add =
      λ a b c. CongruentPolynomials-equal m n
      (λ k l. ring_product_comm n a (ring_sum b c) k ∙ ring_product_add n b c a k ∙ ap₂ ◌+ℤ◌ (ring_product_comm n b a k) (ring_product_comm n c a k));
  of_integer_add = λ c d. CongruentPolynomials-equal m n (λ k l. constant_sum (eqb k 0) c d);
  of_integer_mul = λ c d. CongruentPolynomials-equal m n (λ k l. constant_mul (eqb k 0) c d ∙ sym (ring_product_constant n (ring_constant c) d k l));
}
