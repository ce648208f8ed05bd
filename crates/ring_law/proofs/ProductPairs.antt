-- Coefficient k of a product, pair by pair: for each place of one factor there is one place of the other.
use Rattle.std.proofs.Common.{◌≡◌, ℕ, ◌+◌, ◌-◌, ◌*◌, ◌%◌, ◌<◌, ◌≤◌, ◌≢◌, refl, sym, ap, ◌∙◌, subst, arith, ℤ, pos, neg_ℤ, ◌*ℤ◌, nat_abs, mod-lt, mod-eq_of_lt, ⊎_elim, cond, nat_le, true, false, suc}
use Rattle.std.proofs.Math.Nat.{add-mod_right}
use Rattle.std.proofs.lemmas.Int.{ints}
use Rattle.std.proofs.lemmas.Bool.{cases_lt}
use Rattle.ring_law.specs.Sums.{sum_below}
use Rattle.ring_law.specs.Polynomials.{power_coefficient, ring_product}
use Rattle.ring_law.proofs.WholeNumbers.{int_abs_mul_le, int_mul_one}
use Rattle.ring_law.proofs.RingSolver.{identity1, literal, minus, ◌⊗◌}
use Rattle.ring_law.proofs.Sums.{sum_below_ext, sum_below_single, sum_below_size}
use Rattle.ring_law.proofs.PowerCoefficients.{power_coefficient_abs, power_coefficient_apart, power_coefficient_here, power_coefficient_round}

-- the one j below n with (i + j) % n ≡ k
unfoldable pub partner_place : ℕ → ℕ → ℕ → ℕ
partner_place n i k = (k + (n - i)) % n

-- at every other j the power X^(i + j) has its coefficient elsewhere
pub apart_from_partner : (n i k j : ℕ) → i < n → k < n → j < n → j ≢ partner_place n i k → (i + j) % n ≢ k
unfolding partner_place
apart_from_partner n i k j hi hk hj d e = d (⊎_elim low high (cases_lt (i + j) n))
  where
    low : i + j < n → j ≡ (k + (n - i)) % n
    low l = let s : i + j ≡ k = sym (mod-eq_of_lt l) ∙ e in sym (ap (λ x. x % n) (a s) ∙ add-mod_right j n ∙ mod-eq_of_lt hj)
      where
        a : i + j ≡ k → k + (n - i) ≡ j + n
        a s = omega arith

    high : n ≤ i + j → j ≡ (k + (n - i)) % n
    high l =
        let s : i + j - n ≡ k = sym (ap (λ x. x % n) (back l) ∙ add-mod_right (i + j - n) n ∙ mod-eq_of_lt (small l)) ∙ e in
        sym (ap (λ x. x % n) (a s l) ∙ mod-eq_of_lt hj)
      where
        back : n ≤ i + j → i + j ≡ i + j - n + n
        back l = omega arith

        small : n ≤ i + j → i + j - n < n
        small l = omega arith

        a : i + j - n ≡ k → n ≤ i + j → k + (n - i) ≡ j
        a s l = omega arith

-- the terms of a product's coefficient k that hold a i: there is one pair
pub product_term_low : (n : ℕ) (a b : ℕ → ℤ) (i k : ℕ) → i ≤ k → k < n →
    sum_below n (λ j. (a i *ℤ b j) *ℤ power_coefficient n (i + j) k) ≡ a i *ℤ b (k - i)
unfolding partner_place
product_term_low n a b i k h l =
    sum_below_single n (k - i) (λ j. (a i *ℤ b j) *ℤ power_coefficient n (i + j) k) (omega arith)
    (λ j c d. ap (λ x. (a i *ℤ b j) *ℤ x) (power_coefficient_apart n (i + j) k (apart_from_partner n i k j (omega arith) l c (λ e. d (e ∙ here))))
    ∙ identity1 (λ x. x ⊗ literal (pos 0)) (λ x. literal (pos 0)) refl (a i *ℤ b j))
    ∙ ap (λ x. (a i *ℤ b (k - i)) *ℤ x) (ap (λ s. power_coefficient n s k) (back i k h) ∙ power_coefficient_here n k l) ∙ int_mul_one (a i *ℤ b (k - i))
  where
    back : (i k : ℕ) → i ≤ k → i + (k - i) ≡ k
    back i k h = omega arith

    here : partner_place n i k ≡ k - i
    here = ap (λ x. x % n) (move n i k h (omega arith)) ∙ add-mod_right (k - i) n ∙ mod-eq_of_lt (omega arith)
      where
        move : (n i k : ℕ) → i ≤ k → i ≤ n → k + (n - i) ≡ k - i + n
        move n i k h l = omega arith

-- and where its power passes X^n it has the other sign
pub product_term_high : (n : ℕ) (a b : ℕ → ℤ) (i k : ℕ) → k < i → i < n →
    sum_below n (λ j. (a i *ℤ b j) *ℤ power_coefficient n (i + j) k) ≡ neg_ℤ (a i *ℤ b (k + (n - i)))
unfolding partner_place
product_term_high n a b i k h l =
    sum_below_single n (k + (n - i)) (λ j. (a i *ℤ b j) *ℤ power_coefficient n (i + j) k) small
    (λ j c d. ap (λ x. (a i *ℤ b j) *ℤ x)
    (power_coefficient_apart n (i + j) k (apart_from_partner n i k j l (omega arith) c (λ e. d (e ∙ mod-eq_of_lt small))))
    ∙ identity1 (λ x. x ⊗ literal (pos 0)) (λ x. literal (pos 0)) refl (a i *ℤ b j))
    ∙ ap (λ x. (a i *ℤ b (k + (n - i))) *ℤ x)
    (ap (λ s. power_coefficient n s k) (back n i k l) ∙ power_coefficient_round n k k (omega arith)
    ∙ ap neg_ℤ (power_coefficient_here n k (omega arith))) ∙ identity1 (λ x. x ⊗ minus (literal (pos 1))) (λ x. minus x) refl (a i *ℤ b (k + (n - i)))
  where
    small : k + (n - i) < n
    small = omega arith

    back : (n i k : ℕ) → i < n → i + (k + (n - i)) ≡ k + n
    back n i k l = omega arith

-- the term of coefficient k that holds a_i
abbrev pub pair_term : ℕ → (ℕ → ℤ) → (ℕ → ℤ) → ℕ → ℕ → ℤ
pair_term n a b k i = cond (nat_le i k) (a i *ℤ b (k - i)) (neg_ℤ (a i *ℤ b (k + n - i)))

-- the two cases of a term
pub pair_term_low : (n : ℕ) (a b : ℕ → ℤ) (k i : ℕ) → i ≤ k → pair_term n a b k i ≡ a i *ℤ b (k - i)
pair_term_low n a b k i h = ap (λ t. cond t (a i *ℤ b (k - i)) (neg_ℤ (a i *ℤ b (k + n - i)))) (test i k h)
  where
    test : (i k : ℕ) → i ≤ k → nat_le i k ≡ true
    test i k h = grind arith

pub pair_term_high : (n : ℕ) (a b : ℕ → ℤ) (k i : ℕ) → k < i → pair_term n a b k i ≡ neg_ℤ (a i *ℤ b (k + n - i))
pair_term_high n a b k i h = ap (λ t. cond t (a i *ℤ b (k - i)) (neg_ℤ (a i *ℤ b (k + n - i)))) (test i k h)
  where
    test : (i k : ℕ) → k < i → nat_le i k ≡ false
    test i k h = grind arith

-- coefficient k is the sum of a_i * b_j over i + j = k less the sum over i + j = k + n
pub ring_product-pairs : (n : ℕ) (a b : ℕ → ℤ) (k : ℕ) → k < n → ring_product n a b k ≡ sum_below n (pair_term n a b k)
unfolding ring_product
ring_product-pairs n a b k l =
    sum_below_ext n (λ i. sum_below n (λ j. (a i *ℤ b j) *ℤ power_coefficient n (i + j) k)) (pair_term n a b k) (λ i h. ⊎_elim
    (λ (low : i < suc k). product_term_low n a b i k (omega arith) l ∙ sym (pair_term_low n a b k i (omega arith)))
    (λ (high : suc k ≤ i). product_term_high n a b i k (omega arith) h ∙ ap (λ j. neg_ℤ (a i *ℤ b j)) (place n i k h)
    ∙ sym (pair_term_high n a b k i (omega arith)))
    (cases_lt i (suc k)))
  where
    place : (n i k : ℕ) → i < n → k + (n - i) ≡ k + n - i
    place n i k h = omega arith

-- a coefficient of a product is at most n times the product of the bounds of the factors
pub ring_product_size : (n A B : ℕ) → (a b : ℕ → ℤ) → ((i : ℕ) → i < n → nat_abs (a i) ≤ A) → ((i : ℕ) → i < n → nat_abs (b i) ≤ B) → (k : ℕ) →
    k < n → nat_abs (ring_product n a b k) ≤ n * (A * B)
unfolding ring_product partner_place
ring_product_size n A B a b ha hb k l =
    sum_below_size n (A * B) (λ i. sum_below n (λ j. (a i *ℤ b j) *ℤ power_coefficient n (i + j) k)) (λ i h.
    let j0 = partner_place n i k in
    let small : j0 < n = mod-lt (k + (n - i)) (pos_n n i h) in
    subst (λ x. nat_abs x ≤ A * B)
    (sym (sum_below_single n j0 (λ j. (a i *ℤ b j) *ℤ power_coefficient n (i + j) k) small
    (λ j b' d. ap (λ x. (a i *ℤ b j) *ℤ x) (power_coefficient_apart n (i + j) k (apart_from_partner n i k j h l b' d)) ∙ none (a i *ℤ b j))))
    (last (nat_abs ((a i *ℤ b j0) *ℤ power_coefficient n (i + j0) k)) (A * B)
    (int_abs_mul_le (a i *ℤ b j0) (power_coefficient n (i + j0) k) (A * B) 1 (int_abs_mul_le (a i) (b j0) A B (ha i h) (hb j0 small))
    (power_coefficient_abs n (i + j0) k))))
  where
    pos_n : (n i : ℕ) → i < n → 0 < n
    pos_n n i h = omega arith

    none : (a : ℤ) → a *ℤ pos 0 ≡ pos 0
    none a = omega (arith, ints)

    last : (x y : ℕ) → x ≤ y * 1 → x ≤ y
    last x y h = omega arith
