-- What fresh ciphers and the results of linear operations hold.
use Rattle.std.proofs.Common.{[], ap, ap₂, arith, div-add-mod', mod-lt, mul-le-mul_left, nat_abs, neg_ℤ, pos, refl, subst, sym, ℕ, ℤ, ◌%◌, ◌*ℤ◌, ◌*◌, ◌+ℤ◌, ◌+◌, ◌-ℤ◌, ◌/◌, ◌<◌, ◌∙◌, ◌∷◌, ◌≡◌, ◌≤◌}
use Rattle.std.proofs.lemmas.Int.{ints, unsigned_abs-mul}
use Rattle.ring_law.specs.Polynomials.{AllWithin, CongruentPolynomials, ring_negative, ring_product, ring_sum}
use Rattle.ring_law.specs.Residues.{Congruent, centred_residue, residue}
use Rattle.ring_law.specs.Rows.{natural_polynomial}
use Rattle.ring_law.proofs.Congruence.{Congruent-add, Congruent-equal, Congruent-neg, Congruent-refl, Congruent-scaled, Congruent-sym, Congruent-trans, Congruent-zero}
use Rattle.ring_law.proofs.PolynomialRing.{polynomial_ring, ring_product_congruent}
use Rattle.ring_law.proofs.ProductPairs.{ring_product_size}
use Rattle.ring_law.proofs.Residues.{Congruent-centred_residue, Congruent-residue, residue_equal, residue_lt}
use Rattle.ring_law.proofs.RingProduct.{ring_product_add, ring_product_ext, ring_product_scale}
use Rattle.ring_law.proofs.RingSolver.{identity4, identity5, identity6, identity8, minus, variable, ◌⊕◌, ◌⊖◌, ◌⊗◌}
use Rattle.ring_law.proofs.Sums.{sum_below_neg}
use Rattle.ring_law.proofs.WholeNumbers.{int_neg_mul}
use Rattle.bfv_model.specs.Holds.{Holds, phase, zero_polynomial}
use Rattle.bfv_model.specs.Keys.{IsPublicKeyOf}
use Rattle.bfv_model.specs.NoiseBounds.{fresh_bound_under}
use Rattle.bfv_model.specs.Plaintexts.{plain_product, scaled_plain}
use Rattle.bfv_model.proofs.Noise.{Holds-equal_plain, Holds-from_congruent, Noise, noise_of, phase_of_two_parts}
use Rattle.bfv_model.proofs.FreshNoise as Fresh
use Rattle.ring_law.proofs.CommutativeRing as Ring

-- the plaintext M modulo t is held where t * phase - q * M is congruent to a small number
pub Holds-reduced : {n q t : ℕ} {x0 x1 x2 s : ℕ → ℤ} {W : ℕ} (M w : ℕ → ℤ) → 0 < t → 0 < t * q
    → ((k : ℕ) → k < n → Congruent (t * q) (pos t *ℤ phase n x0 x1 x2 s k -ℤ pos q *ℤ M k) (w k)) → AllWithin n W w
    → Holds n q t x0 x1 x2 s (λ k. residue t (M k)) W
Holds-reduced {n} {q} {t} {x0} {x1} {x2} {s} {W} M w pos_t some c small = Holds-from_congruent w some (λ k l. residue_lt t (M k) pos_t)
    (λ k l. Congruent-trans (t * q)
    (Congruent-add (t * q) (Congruent-refl (t * q) (pos t *ℤ phase n x0 x1 x2 s k))
    (Congruent-neg (t * q)
    (subst (λ z. Congruent z (pos q *ℤ pos (residue t (M k))) (pos q *ℤ M k)) (flip q t)
    (Congruent-scaled q t (Congruent-sym t (Congruent-residue t (M k) pos_t)))))) (c k l)) small
  where
    flip : (a b : ℕ) → a * b ≡ b * a
    flip a b = omega arith

-- ---- scaled plaintexts
pub scaled_plain_rest : (q t m : ℕ) → 0 < t → (r : ℤ) × (pos t *ℤ pos (scaled_plain q t m) ≡ pos q *ℤ pos m +ℤ r) × (nat_abs r ≤ t)
scaled_plain_rest q t m h = (
  pos (t / 2) -ℤ pos ((q * m + t / 2) % t),
  let e = div-add-mod' (q * m + t / 2) t in let f : t * ((q * m + t / 2) / t) ≡
      (q * m + t / 2) / t * t = omega arith in omega (arith, ints),
  let l = mod-lt (q * m + t / 2) h in omega (arith, ints),
)

-- ---- fresh ciphers
module _ (n q t E K S : ℕ) (p0 p1 s u e1 e2 c0 c1 : ℕ → ℤ) (m : ℕ → ℕ) (pos_n : 0 < n) (pos_t : 0 < t) (pos_q : 0 < q) (some : 0 < t * q)
    (key : IsPublicKeyOf n q K p0 p1 s) (secret : AllWithin n S s) (hu : AllWithin n 1 u) (h1 : AllWithin n E e1) (h2 : AllWithin n E e2) (plain : (k : ℕ) → k < n → m k < t)
    (first : CongruentPolynomials q n c0 (ring_sum (ring_sum (ring_product n p0 u) e1) (λ k. pos (scaled_plain q t (m k)))))
    (second : CongruentPolynomials q n c1 (ring_sum (ring_product n p1 u) e2)) where
  error : ℕ → ℤ
  error k = centred_residue q (p0 k +ℤ ring_product n p1 s k)

  r : ℕ → ℤ
  r k = (scaled_plain_rest q t (m k) pos_t).0

  key_is : CongruentPolynomials q n (ring_sum p0 (ring_product n p1 s)) error
  unfolding error
  key_is = record { at = λ k l. Congruent-centred_residue q (p0 k +ℤ ring_product n p1 s k) pos_q }

  scale : (k : ℕ) → k < n → pos t *ℤ pos (scaled_plain q t (m k)) ≡ pos q *ℤ natural_polynomial m k +ℤ r k
  unfolding r
  scale k l = (scaled_plain_rest q t (m k) pos_t).1

  -- a fresh cipher holds its plaintext within the bound that the errors and the secret give
  pub Holds-fresh : Holds n q t c0 c1 zero_polynomial s m (fresh_bound_under n t E K S)
  unfolding error r
  Holds-fresh = Holds-from_congruent
      (Fresh.noise n q t pos_n p0 p1 s error u e1 e2 (natural_polynomial m) r
      (λ k. pos (scaled_plain q t (m k))) c0 c1 key_is scale first second) some plain
      (λ k l. Congruent-trans (t * q)
      (Congruent-equal (t * q) (ap (λ z. pos t *ℤ z -ℤ pos q *ℤ pos (m k)) (phase_of_two_parts n c0 c1 s k)))
      (Fresh.fresh n q t pos_n p0 p1 s error u e1 e2 (natural_polynomial m) r
      (λ k. pos (scaled_plain q t (m k))) c0 c1 key_is scale first second k l))
      (Fresh.fresh_size n q t pos_n p0 p1 s error u e1 e2 (natural_polynomial m) r
      (λ k. pos (scaled_plain q t (m k))) c0 c1 key_is scale first second K E S key hu h1 h2 secret
      (λ k l. (scaled_plain_rest q t (m k) pos_t).2))

-- ---- linear operations
pub ring_product_neg : (n : ℕ) (a b : ℕ → ℤ) (k : ℕ) → ring_product n (λ i. neg_ℤ (a i)) b k ≡ neg_ℤ (ring_product n a b k)
unfolding ring_product
ring_product_neg n a b k = simp (int_neg_mul, sum_below_neg)

-- the phase of a sum, of a negative, of a multiple, and of a product with a plaintext
pub phase_add : (n : ℕ) (a0 a1 a2 b0 b1 b2 s : ℕ → ℤ) (k : ℕ)
    → phase n (ring_sum a0 b0) (ring_sum a1 b1) (ring_sum a2 b2) s k ≡ phase n a0 a1 a2 s k +ℤ phase n b0 b1 b2 s k
phase_add n a0 a1 a2 b0 b1 b2 s k =
    ap₂ (λ x y. a0 k +ℤ b0 k +ℤ x +ℤ y) (ring_product_add n a1 b1 s k) (ring_product_add n a2 b2 (ring_product n s s) k)
    ∙ regroup (a0 k) (b0 k) (ring_product n a1 s k) (ring_product n b1 s k) (ring_product n a2 (ring_product n s s) k)
    (ring_product n b2 (ring_product n s s) k)
  where
    regroup : (a b c d e f : ℤ) → a +ℤ b +ℤ (c +ℤ d) +ℤ (e +ℤ f) ≡ a +ℤ c +ℤ e +ℤ (b +ℤ d +ℤ f)
    regroup a b c d e f = omega (arith, ints)

pub phase_neg : (n : ℕ) (a0 a1 a2 s : ℕ → ℤ) (k : ℕ)
    → phase n (ring_negative a0) (ring_negative a1) (ring_negative a2) s k ≡ neg_ℤ (phase n a0 a1 a2 s k)
phase_neg n a0 a1 a2 s k =
    ap₂ (λ x y. neg_ℤ (a0 k) +ℤ x +ℤ y) (ring_product_neg n a1 s k) (ring_product_neg n a2 (ring_product n s s) k)
    ∙ regroup (a0 k) (ring_product n a1 s k) (ring_product n a2 (ring_product n s s) k)
  where
    regroup : (a b c : ℤ) → neg_ℤ a +ℤ neg_ℤ b +ℤ neg_ℤ c ≡ neg_ℤ (a +ℤ b +ℤ c)
    regroup a b c = omega (arith, ints)

pub phase_scale : (n : ℕ) (c : ℤ) (a0 a1 a2 s : ℕ → ℤ) (k : ℕ)
    → phase n (λ i. c *ℤ a0 i) (λ i. c *ℤ a1 i) (λ i. c *ℤ a2 i) s k ≡ c *ℤ phase n a0 a1 a2 s k
phase_scale n c a0 a1 a2 s k =
    ap₂ (λ x y. c *ℤ a0 k +ℤ x +ℤ y) (ring_product_scale n c a1 s k) (ring_product_scale n c a2 (ring_product n s s) k)
    ∙ identity4 (λ c x y z. c ⊗ x ⊕ c ⊗ y ⊕ c ⊗ z) (λ c x y z. c ⊗ (x ⊕ y ⊕ z)) refl c (a0 k) (ring_product n a1 s k)
    (ring_product n a2 (ring_product n s s) k)

pub phase_product : (n : ℕ) → 0 < n → (a0 a1 a2 p s : ℕ → ℤ) (k : ℕ) → k < n
    → phase n (ring_product n a0 p) (ring_product n a1 p) (ring_product n a2 p) s k ≡ ring_product n (phase n a0 a1 a2 s) p k
phase_product n pos_n a0 a1 a2 p s k l =
    let h = Ring.ring_identity (polynomial_ring 0 n pos_n) (a0 ∷ a1 ∷ a2 ∷ p ∷ s ∷ [])
    (variable 0 ⊗ variable 3 ⊕ (variable 1 ⊗ variable 3) ⊗ variable 4 ⊕ (variable 2 ⊗ variable 3) ⊗ (variable 4 ⊗ variable 4))
    ((variable 0 ⊕ variable 1 ⊗ variable 4 ⊕ variable 2 ⊗ (variable 4 ⊗ variable 4)) ⊗ variable 3) refl in
    Congruent-zero (h.at k l)

module _ {n q t W1 : ℕ} {a0 a1 a2 s : ℕ → ℤ} {m1 : ℕ → ℕ} (pos_n : 0 < n) (pos_t : 0 < t) (some : 0 < t * q) (ha : Holds n q t a0 a1 a2 s m1 W1) where
  z1 : Noise n q t a0 a1 a2 s m1 W1
  z1 = noise_of some ha

  -- the negative
  pub Holds-neg : Holds n q t (ring_negative a0) (ring_negative a1) (ring_negative a2) s (λ k. residue t (neg_ℤ (pos (m1 k)))) W1
  Holds-neg = Holds-reduced (λ k. neg_ℤ (pos (m1 k))) (λ k. neg_ℤ (z1.noise k)) pos_t some
      (λ k l. record {
        quotient = neg_ℤ (z1.multiple k);
        equation =
            ap (λ z. pos t *ℤ z -ℤ pos q *ℤ neg_ℤ (pos (m1 k))) (phase_neg n a0 a1 a2 s k)
            ∙ identity4 (λ t p q m. t ⊗ minus p ⊖ q ⊗ minus m) (λ t p q m. minus (t ⊗ p) ⊕ q ⊗ m) refl (pos t) (phase n a0 a1 a2 s k)
            (pos q) (pos (m1 k))
            ∙ ap (λ z. neg_ℤ z +ℤ pos q *ℤ pos (m1 k)) (z1.equation k)
            ∙ identity5 (λ q m w r t. minus (q ⊗ m ⊕ w ⊕ r ⊗ (t ⊗ q)) ⊕ q ⊗ m) (λ q m w r t. minus w ⊕ minus r ⊗ (t ⊗ q)) refl (pos q)
            (pos (m1 k)) (z1.noise k) (z1.multiple k) (pos t);
      })
      (λ k l. let h = z1.small k l in omega (arith, ints))

  -- the sum
  pub Holds-add : {W2 : ℕ} {b0 b1 b2 : ℕ → ℤ} {m2 : ℕ → ℕ} → Holds n q t b0 b1 b2 s m2 W2
      → Holds n q t (ring_sum a0 b0) (ring_sum a1 b1) (ring_sum a2 b2) s (λ k. residue t (pos (m1 k) +ℤ pos (m2 k))) (W1 + W2)
  Holds-add {W2} {b0} {b1} {b2} {m2} hb = from (noise_of some hb)
    where
      from : Noise n q t b0 b1 b2 s m2 W2
          → Holds n q t (ring_sum a0 b0) (ring_sum a1 b1) (ring_sum a2 b2) s (λ k. residue t (pos (m1 k) +ℤ pos (m2 k))) (W1 + W2)
      from z2 = Holds-reduced (λ k. pos (m1 k) +ℤ pos (m2 k)) (λ k. z1.noise k +ℤ z2.noise k) pos_t some
          (λ k l. record {
            quotient = z1.multiple k +ℤ z2.multiple k;
            equation =
                ap (λ z. pos t *ℤ z -ℤ pos q *ℤ (pos (m1 k) +ℤ pos (m2 k))) (phase_add n a0 a1 a2 b0 b1 b2 s k)
                ∙ identity6 (λ t p o q m l. t ⊗ (p ⊕ o) ⊖ q ⊗ (m ⊕ l)) (λ t p o q m l. t ⊗ p ⊕ t ⊗ o ⊖ q ⊗ (m ⊕ l)) refl (pos t)
                (phase n a0 a1 a2 s k) (phase n b0 b1 b2 s k) (pos q) (pos (m1 k)) (pos (m2 k))
                ∙ ap₂ (λ x y. x +ℤ y -ℤ pos q *ℤ (pos (m1 k) +ℤ pos (m2 k))) (z1.equation k) (z2.equation k)
                ∙ identity8 (λ q m w r t l v o. (q ⊗ m ⊕ w ⊕ r ⊗ (t ⊗ q)) ⊕ (q ⊗ l ⊕ v ⊕ o ⊗ (t ⊗ q)) ⊖ q ⊗ (m ⊕ l))
                (λ q m w r t l v o. (w ⊕ v) ⊕ (r ⊕ o) ⊗ (t ⊗ q)) refl (pos q) (pos (m1 k)) (z1.noise k) (z1.multiple k) (pos t)
                (pos (m2 k)) (z2.noise k) (z2.multiple k);
          })
          (λ k l. let h = z1.small k l in let g = z2.small k l in omega (arith, ints))

  -- times a polynomial p of coefficients at most H that is congruent to the plaintext m2 modulo t
  pub Holds-mul_plain : {m2 : ℕ → ℕ} (H : ℕ) (p : ℕ → ℤ) → AllWithin n H p → CongruentPolynomials t n p (natural_polynomial m2)
      → Holds n q t (ring_product n a0 p) (ring_product n a1 p) (ring_product n a2 p) s (plain_product n t m1 m2) (n * H * W1)
  Holds-mul_plain {m2} H p hp same = Holds-equal_plain (plain_product n t m1 m2)
      (λ k l. residue_equal t (ring_product n (natural_polynomial m1) p k)
      (ring_product n (natural_polynomial m1) (natural_polynomial m2) k) pos_t
      ((ring_product_congruent t n {a = natural_polynomial m1} {b = natural_polynomial m1} {c = p} {d = natural_polynomial m2}
      (record { at = λ k l. Congruent-refl t (pos (m1 k)) }) same).at k l))
      (Holds-reduced (ring_product n (natural_polynomial m1) p) (ring_product n z1.noise p) pos_t some
      (λ k l. record {
        quotient = ring_product n z1.multiple p k;
        equation =
            ap (λ z. pos t *ℤ z -ℤ pos q *ℤ ring_product n (natural_polynomial m1) p k) (phase_product n pos_n a0 a1 a2 p s k l)
            ∙ ap (λ z. z -ℤ pos q *ℤ ring_product n (natural_polynomial m1) p k) (
            sym (ring_product_scale n (pos t) (phase n a0 a1 a2 s) p k)
            ∙ ring_product_ext n (λ i. pos t *ℤ phase n a0 a1 a2 s i)
            (λ i. (pos q *ℤ natural_polynomial m1 i +ℤ z1.noise i) +ℤ (pos t *ℤ pos q) *ℤ z1.multiple i) p p
            (λ i l. z1.equation i ∙ ap (λ z. pos q *ℤ natural_polynomial m1 i +ℤ z1.noise i +ℤ z)
            (turn (z1.multiple i) (pos t *ℤ pos q))) (λ i l. refl) k
            ∙ ring_product_add n (λ i. pos q *ℤ natural_polynomial m1 i +ℤ z1.noise i) (λ i. (pos t *ℤ pos q) *ℤ z1.multiple i) p k
            ∙ ap₂ ◌+ℤ◌ (ring_product_add n (λ i. pos q *ℤ natural_polynomial m1 i) z1.noise p k ∙ ap (λ z. z +ℤ ring_product n z1.noise p k)
            (ring_product_scale n (pos q) (natural_polynomial m1) p k)) (ring_product_scale n (pos t *ℤ pos q) z1.multiple p k))
            ∙ identity4 (λ a w c r. (a ⊕ w ⊕ c ⊗ r) ⊖ a) (λ a w c r. w ⊕ r ⊗ c) refl (pos q *ℤ ring_product n (natural_polynomial m1) p k)
            (ring_product n z1.noise p k) (pos t *ℤ pos q) (ring_product n z1.multiple p k);
      })
      (λ k l. trim (ring_product_size n W1 H z1.noise p z1.small hp k l)))
    where
      trim : {a : ℕ} → a ≤ n * (W1 * H) → a ≤ n * H * W1
      trim h = omega arith

      turn : (a b : ℤ) → a *ℤ b ≡ b *ℤ a
      turn a b = omega (arith, ints)

  -- times a constant c
  pub Holds-mul_constant : (c : ℤ)
      → Holds n q t (λ k. c *ℤ a0 k) (λ k. c *ℤ a1 k) (λ k. c *ℤ a2 k) s (λ k. residue t (c *ℤ pos (m1 k))) (nat_abs c * W1)
  Holds-mul_constant c = Holds-reduced (λ k. c *ℤ pos (m1 k)) (λ k. c *ℤ z1.noise k) pos_t some
      (λ k l. record {
        quotient = c *ℤ z1.multiple k;
        equation =
            ap (λ z. pos t *ℤ z -ℤ pos q *ℤ (c *ℤ pos (m1 k))) (phase_scale n c a0 a1 a2 s k)
            ∙ identity5 (λ t p q m c. t ⊗ (c ⊗ p) ⊖ q ⊗ (c ⊗ m)) (λ t p q m c. c ⊗ (t ⊗ p) ⊖ q ⊗ (c ⊗ m)) refl (pos t)
            (phase n a0 a1 a2 s k) (pos q) (pos (m1 k)) c
            ∙ ap (λ z. c *ℤ z -ℤ pos q *ℤ (c *ℤ pos (m1 k))) (z1.equation k)
            ∙ identity6 (λ q m w r t c. c ⊗ (q ⊗ m ⊕ w ⊕ r ⊗ (t ⊗ q)) ⊖ q ⊗ (c ⊗ m)) (λ q m w r t c. c ⊗ w ⊕ (c ⊗ r) ⊗ (t ⊗ q)) refl (pos q)
            (pos (m1 k)) (z1.noise k) (z1.multiple k) (pos t) c;
      })
      (λ k l. subst (λ z. z ≤ nat_abs c * W1) (sym (unsigned_abs-mul c (z1.noise k))) (mul-le-mul_left (nat_abs c) (z1.small k l)))

  -- plus a scaled plaintext in part 0
  pub Holds-add_plain : (m2 : ℕ → ℕ)
      → Holds n q t (λ k. a0 k +ℤ pos (scaled_plain q t (m2 k))) a1 a2 s (λ k. residue t (pos (m1 k) +ℤ pos (m2 k))) (W1 + t)
  Holds-add_plain m2 = Holds-reduced (λ k. pos (m1 k) +ℤ pos (m2 k)) (λ k. z1.noise k +ℤ (scaled_plain_rest q t (m2 k) pos_t).0) pos_t some
      (λ k l. record {
        quotient = z1.multiple k;
        equation = gap (pos t) (a0 k) (pos (scaled_plain q t (m2 k))) (ring_product n a1 s k) (ring_product n a2 (ring_product n s s) k)
            (pos q) (pos (m1 k)) (pos (m2 k)) (z1.noise k) (z1.multiple k) (scaled_plain_rest q t (m2 k) pos_t).0 (z1.equation k)
            (scaled_plain_rest q t (m2 k) pos_t).1;
      })
      (λ k l. let h = z1.small k l in let g = (scaled_plain_rest q t (m2 k) pos_t).2 in omega (arith, ints))
    where
      gap : (t a x b c q m l w k r : ℤ) → t *ℤ (a +ℤ b +ℤ c) ≡ q *ℤ m +ℤ w +ℤ k *ℤ (t *ℤ q) → t *ℤ x ≡ q *ℤ l +ℤ r
          → t *ℤ (a +ℤ x +ℤ b +ℤ c) -ℤ q *ℤ (m +ℤ l) ≡ w +ℤ r +ℤ k *ℤ (t *ℤ q)
      gap t a x b c q m l w k r e f =
          identity8 (λ t a x b c q m l. t ⊗ (a ⊕ x ⊕ b ⊕ c) ⊖ q ⊗ (m ⊕ l))
          (λ t a x b c q m l. t ⊗ (a ⊕ b ⊕ c) ⊕ t ⊗ x ⊖ q ⊗ (m ⊕ l)) refl t a x b c q m l
          ∙ ap₂ (λ y z. y +ℤ z -ℤ q *ℤ (m +ℤ l)) e f
          ∙ identity6 (λ q m l w k r. (q ⊗ m ⊕ w ⊕ k) ⊕ (q ⊗ l ⊕ r) ⊖ q ⊗ (m ⊕ l)) (λ q m l w k r. w ⊕ r ⊕ k) refl q m l w (k *ℤ (t *ℤ q)) r

  -- less a scaled plaintext in part 0
  pub Holds-sub_plain : (m2 : ℕ → ℕ)
      → Holds n q t (λ k. a0 k -ℤ pos (scaled_plain q t (m2 k))) a1 a2 s (λ k. residue t (pos (m1 k) -ℤ pos (m2 k))) (W1 + t)
  Holds-sub_plain m2 = Holds-reduced (λ k. pos (m1 k) -ℤ pos (m2 k)) (λ k. z1.noise k -ℤ (scaled_plain_rest q t (m2 k) pos_t).0) pos_t some
      (λ k l. record {
        quotient = z1.multiple k;
        equation = gap (pos t) (a0 k) (pos (scaled_plain q t (m2 k))) (ring_product n a1 s k) (ring_product n a2 (ring_product n s s) k)
            (pos q) (pos (m1 k)) (pos (m2 k)) (z1.noise k) (z1.multiple k) (scaled_plain_rest q t (m2 k) pos_t).0 (z1.equation k)
            (scaled_plain_rest q t (m2 k) pos_t).1;
      })
      (λ k l. let h = z1.small k l in let g = (scaled_plain_rest q t (m2 k) pos_t).2 in omega (arith, ints))
    where
      gap : (t a x b c q m l w k r : ℤ) → t *ℤ (a +ℤ b +ℤ c) ≡ q *ℤ m +ℤ w +ℤ k *ℤ (t *ℤ q) → t *ℤ x ≡ q *ℤ l +ℤ r
          → t *ℤ (a -ℤ x +ℤ b +ℤ c) -ℤ q *ℤ (m -ℤ l) ≡ w -ℤ r +ℤ k *ℤ (t *ℤ q)
      gap t a x b c q m l w k r e f =
          identity8 (λ t a x b c q m l. t ⊗ (a ⊖ x ⊕ b ⊕ c) ⊖ q ⊗ (m ⊖ l))
          (λ t a x b c q m l. t ⊗ (a ⊕ b ⊕ c) ⊖ t ⊗ x ⊖ q ⊗ (m ⊖ l)) refl t a x b c q m l
          ∙ ap₂ (λ y z. y -ℤ z -ℤ q *ℤ (m -ℤ l)) e f
          ∙ identity6 (λ q m l w k r. (q ⊗ m ⊕ w ⊕ k) ⊖ (q ⊗ l ⊕ r) ⊖ q ⊗ (m ⊖ l)) (λ q m l w k r. w ⊖ r ⊕ k) refl q m l w (k *ℤ (t *ℤ q)) r

-- the difference
pub Holds-sub : {n q t W1 W2 : ℕ} {a0 a1 a2 b0 b1 b2 s : ℕ → ℤ} {m1 m2 : ℕ → ℕ} → 0 < n → 0 < t → 0 < t * q → Holds n q t a0 a1 a2 s m1 W1
    → Holds n q t b0 b1 b2 s m2 W2
    → Holds n q t (ring_sum a0 (ring_negative b0)) (ring_sum a1 (ring_negative b1)) (ring_sum a2 (ring_negative b2)) s
    (λ k. residue t (pos (m1 k) -ℤ pos (m2 k))) (W1 + W2)
Holds-sub {n} {q} {t} {W1} {W2} {a0} {a1} {a2} {b0} {b1} {b2} {s} {m1} {m2} pos_n pos_t some ha hb =
    Holds-equal_plain (λ k. residue t (pos (m1 k) -ℤ pos (m2 k)))
    (λ k l. residue_equal t (pos (m1 k) +ℤ pos (residue t (neg_ℤ (pos (m2 k))))) (pos (m1 k) -ℤ pos (m2 k)) pos_t
    (Congruent-add t (Congruent-refl t (pos (m1 k))) (Congruent-sym t (Congruent-residue t (neg_ℤ (pos (m2 k))) pos_t))))
    (Holds-add pos_n pos_t some ha (Holds-neg pos_n pos_t some hb))
