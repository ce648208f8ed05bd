-- The noise of a product.
use Rattle.std.proofs.Common.{ap, arith, le_trans, mul-le-mul_left, nat_abs, neg_ℤ, pos, refl, subst, suc, sym, zero, ℕ, ℤ, ◌*ℤ◌, ◌*◌, ◌+ℤ◌, ◌+◌, ◌-ℤ◌, ◌-◌, ◌<◌, ◌∙◌, ◌≡◌, ◌≤◌}
use Rattle.std.proofs.Math.Nat.{le_of_mul-le-mul_left}
use Rattle.std.proofs.lemmas.Int.{ints, unsigned_abs-mul}
use Rattle.ring_law.specs.Polynomials.{AllWithin, CongruentPolynomials, ring_constant, ring_negative, ring_product, ring_sum}
use Rattle.ring_law.specs.Residues.{Congruent}
use Rattle.ring_law.proofs.Congruence.{Congruent-zero}
use Rattle.ring_law.proofs.PolynomialRing.{polynomial_ring}
use Rattle.ring_law.proofs.ProductPairs.{ring_product_size}
use Rattle.ring_law.proofs.RingProduct.{ring_product_assoc, ring_product_comm, ring_product_constant}
use Rattle.ring_law.proofs.RingSolver.{identity8, minus, ◌⊕◌, ◌⊖◌, ◌⊗◌}
use Rattle.bfv_model.specs.Holds.{phase}
use Rattle.bfv_model.proofs.ProductIdentity.{product_identity}

-- a constant times a
pub ring_constant_product : (n : ℕ) (c : ℤ) (a : ℕ → ℤ) (k : ℕ) → k < n → ring_product n (ring_constant c) a k ≡ c *ℤ a k
ring_constant_product n c a k l = ring_product_comm n (ring_constant c) a k ∙ ring_product_constant n a c k l

-- the arithmetic of the bound
end : (n t q K L W1 W2 y a b c d v : ℕ) → 0 < q → 4 * W2 ≤ q → 0 < t → q * y ≤ n * (W1 * W2) + t * (L * q * (1 + n + n * n))
    → a ≤ n * ((t - 1) * W2) → b ≤ n * ((t - 1) * W1) → c ≤ n * (K * W2) → d ≤ n * (K * W1) → v ≤ a + b + t * (c + d) + y
    → v ≤ n * t * (K + 1) * (W1 + W2) + t * L * (1 + n + n * n)
end n zero q K L W1 W2 y a b c d v pq hw pt hy ha hb hc hd hv = absurd (omega arith)
end n (suc t) q K L W1 W2 y a b c d v pq hw pt hy ha hb hc hd hv =
    let less : n * W1 * (4 * W2) ≤ n * W1 * q = mul-le-mul_left (n * W1) hw in
    let four : q * (4 * y) ≤ q * (n * W1 + 4 * (suc t * L * (1 + n + n * n))) = scale4 n (suc t) q L W1 W2 y hy less in
    let y4 : 4 * y ≤ n * W1 + 4 * (suc t * L * (1 + n + n * n)) = le_of_mul-le-mul_left four pq in
    let cd : c + d ≤ n * (K * W2) + n * (K * W1) = omega arith in
    let tcd : suc t * (c + d) ≤ suc t * (n * (K * W2) + n * (K * W1)) = mul-le-mul_left (suc t) cd in
    last n t K L W1 W2 y a b (c + d) v y4 ha hb tcd hv
  where
    scale4 : (n t q L W1 W2 y : ℕ) → q * y ≤ n * (W1 * W2) + t * (L * q * (1 + n + n * n)) → n * W1 * (4 * W2) ≤ n * W1 * q
        → q * (4 * y) ≤ q * (n * W1 + 4 * (t * L * (1 + n + n * n)))
    scale4 n t q L W1 W2 y h l = omega arith

    last : (n t K L W1 W2 y a b e v : ℕ) → 4 * y ≤ n * W1 + 4 * (suc t * L * (1 + n + n * n)) → a ≤ n * ((suc t - 1) * W2)
        → b ≤ n * ((suc t - 1) * W1) → suc t * e ≤ suc t * (n * (K * W2) + n * (K * W1)) → v ≤ a + b + suc t * e + y
        → v ≤ n * suc t * (K + 1) * (W1 + W2) + suc t * L * (1 + n + n * n)
    last n t K L W1 W2 y a b e v hy ha hb he hv = let z : suc t - 1 ≡ t = omega arith in
        let ha' = subst (λ x. a ≤ n * (x * W2)) z ha in let hb' = subst (λ x. b ≤ n * (x * W1)) z hb in finish n t K L W1 W2 y a b
        (suc t * e) v (suc t * L * (1 + n + n * n)) hy ha' hb' (omega arith) hv
      where
        finish : (n t K L W1 W2 y a b e v f : ℕ) → 4 * y ≤ n * W1 + 4 * f → a ≤ n * (t * W2) → b ≤ n * (t * W1)
            → e ≤ (t + 1) * (n * (K * W2) + n * (K * W1)) → v ≤ a + b + e + y → v ≤ n * suc t * (K + 1) * (W1 + W2) + f
        finish n t K L W1 W2 y a b e v f hy ha hb he hv = omega arith

glue : (t q x mm c f A B C D mw1 mw2 : ℤ) → A ≡ t *ℤ x → B ≡ q *ℤ mm → C ≡ t *ℤ c → D ≡ t *ℤ (q *ℤ f)
    → t *ℤ x -ℤ q *ℤ mm ≡ (mw2 +ℤ mw1 +ℤ t *ℤ c +ℤ ((A +ℤ neg_ℤ (B +ℤ mw2 +ℤ mw1 +ℤ C)) +ℤ neg_ℤ D)) +ℤ f *ℤ (t *ℤ q)
glue t q x mm c f A B C D mw1 mw2 a b d e = rw a (rw b (rw d (rw e
    (identity8 (λ t q x mm c f u v. t ⊗ x ⊖ q ⊗ mm)
    (λ t q x mm c f u v. (v ⊕ u ⊕ t ⊗ c ⊕ ((t ⊗ x ⊕ minus (q ⊗ mm ⊕ v ⊕ u ⊕ t ⊗ c)) ⊕ minus (t ⊗ (q ⊗ f)))) ⊕ f ⊗
    (t ⊗ q)) refl t q x mm c f mw1 mw2))))

module _ (n q t L K W1 W2 : ℕ) (pos_n : 0 < n) (pos_q : 0 < q) (pos_t : 0 < t) (s a0 a1 b0 b1 m1 m2 w1 w2 k1 k2 x0 x1 x2 r0 r1 r2 : ℕ → ℤ)
    (ha : CongruentPolynomials 0 n (ring_product n (ring_constant (pos t)) (ring_sum a0 (ring_product n a1 s))) (ring_sum (ring_sum (ring_product n (ring_constant (pos q)) m1) w1) (ring_product n (ring_product n (ring_constant (pos q)) (ring_constant (pos t))) k1)))
    (hb : CongruentPolynomials 0 n (ring_product n (ring_constant (pos t)) (ring_sum b0 (ring_product n b1 s))) (ring_sum (ring_sum (ring_product n (ring_constant (pos q)) m2) w2) (ring_product n (ring_product n (ring_constant (pos q)) (ring_constant (pos t))) k2)))
    (h0 : CongruentPolynomials 0 n (ring_product n (ring_constant (pos t)) (ring_product n a0 b0)) (ring_sum (ring_product n (ring_constant (pos q)) x0) r0))
    (h1 : CongruentPolynomials 0 n (ring_product n (ring_constant (pos t)) (ring_sum (ring_product n a0 b1) (ring_product n a1 b0))) (ring_sum (ring_product n (ring_constant (pos q)) x1) r1))
    (h2 : CongruentPolynomials 0 n (ring_product n (ring_constant (pos t)) (ring_product n a1 b1)) (ring_sum (ring_product n (ring_constant (pos q)) x2) r2)) where
  r_s : ℕ → ℤ
  r_s = ring_sum (ring_sum r0 (ring_product n r1 s)) (ring_product n r2 (ring_product n s s))

  cross : ℕ → ℤ
  cross = ring_sum (ring_product n k1 w2) (ring_product n k2 w1)

  far : ℕ → ℤ
  far = ring_sum (ring_sum (ring_product n m1 k2) (ring_product n k1 m2)) (ring_product n (ring_constant (pos t)) (ring_product n k1 k2))

  y : ℕ → ℤ
  y = ring_sum (ring_sum (ring_product n (ring_constant (pos t)) (phase n x0 x1 x2 s)) (ring_negative (ring_sum (ring_sum (ring_sum (ring_product n (ring_constant (pos q)) (ring_product n m1 m2)) (ring_product n m1 w2)) (ring_product n m2 w1)) (ring_product n (ring_constant (pos t)) cross)))) (ring_negative (ring_product n (ring_product n (ring_constant (pos t)) (ring_constant (pos q))) far))

  y_is : (k : ℕ) → k < n → pos q *ℤ y k ≡ ring_product n w1 w2 k -ℤ pos t *ℤ r_s k
  unfolding y r_s cross far
  y_is k l =
      sym (ring_constant_product n (pos q) y k l)
      ∙ Congruent-zero ((product_identity (polynomial_ring 0 n pos_n) (ring_constant (pos q)) (ring_constant (pos t)) s a0 a1 b0 b1 m1 m2 w1 w2 k1 k2 x0 x1 x2 r0 r1 r2 ha hb h0 h1 h2).at k l)
      ∙ ap (λ z. ring_product n w1 w2 k -ℤ z) (ring_constant_product n (pos t) r_s k l)

  -- the noise of the product
  pub product_noise : ℕ → ℤ
  product_noise k = ring_product n m1 w2 k +ℤ ring_product n m2 w1 k +ℤ pos t *ℤ cross k +ℤ y k

  -- t times the phase is q times the product of the plaintexts and this noise, modulo t*q
  pub product_congruent : (k : ℕ) → k < n
      → Congruent (t * q) (pos t *ℤ phase n x0 x1 x2 s k -ℤ pos q *ℤ ring_product n m1 m2 k) (product_noise k)
  unfolding product_noise y
  product_congruent k l = record {
    quotient = far k;
    equation =
        glue (pos t) (pos q) (phase n x0 x1 x2 s k) (ring_product n m1 m2 k) (cross k) (far k)
        (ring_product n (ring_constant (pos t)) (phase n x0 x1 x2 s) k)
        (ring_product n (ring_constant (pos q)) (ring_product n m1 m2) k) (ring_product n (ring_constant (pos t)) cross k)
        (ring_product n (ring_product n (ring_constant (pos t)) (ring_constant (pos q))) far k) (ring_product n m2 w1 k)
        (ring_product n m1 w2 k)
        (ring_constant_product n (pos t) (phase n x0 x1 x2 s) k l) (ring_constant_product n (pos q) (ring_product n m1 m2) k l)
        (ring_constant_product n (pos t) cross k l)
        (ring_product_assoc n pos_n (ring_constant (pos t)) (ring_constant (pos q)) far k ∙ ring_constant_product n (pos t)
        (ring_product n (ring_constant (pos q)) far) k l ∙ ap (λ z. pos t *ℤ z) (ring_constant_product n (pos q) far k l));
  }

  -- and its size
  pub product_size : AllWithin n 1 s → AllWithin n (t - 1) m1 → AllWithin n (t - 1) m2 → AllWithin n W1 w1 → AllWithin n W2 w2
      → AllWithin n K k1 → AllWithin n K k2 → AllWithin n (L * q) r0 → AllWithin n (L * q) r1 → AllWithin n (L * q) r2 → 4 * W2 ≤ q
      → (k : ℕ) → k < n → nat_abs (product_noise k) ≤ n * t * (K + 1) * (W1 + W2) + t * L * (1 + n + n * n)
  unfolding product_noise cross r_s
  product_size hs e1 e2 f1 f2 g1 g2 i0 i1 i2 hw k l =
      let a = ring_product_size n (t - 1) W2 m1 w2 e1 f2 k l in
      let b = ring_product_size n (t - 1) W1 m2 w1 e2 f1 k l in
      let c = ring_product_size n K W2 k1 w2 g1 f2 k l in
      let d = ring_product_size n K W1 k2 w1 g2 f1 k l in
      let ww = ring_product_size n W1 W2 w1 w2 f1 f2 k l in
      let r1s = ring_product_size n (L * q) 1 r1 s i1 hs k l in
      let ss : AllWithin n (n * (1 * 1)) (ring_product n s s) = λ k l. ring_product_size n 1 1 s s hs hs k l in
      let r2s = ring_product_size n (L * q) (n * (1 * 1)) r2 (ring_product n s s) i2 ss k l in
      let r0s = i0 k l in
      end n t q K L W1 W2 (nat_abs (y k)) (nat_abs (ring_product n m1 w2 k)) (nat_abs (ring_product n m2 w1 k))
      (nat_abs (ring_product n k1 w2 k)) (nat_abs (ring_product n k2 w1 k)) (nat_abs (product_noise k)) pos_q hw pos_t
      (small n t q L W1 W2 (y k) (ring_product n w1 w2 k) (r0 k) (ring_product n r1 s k) (ring_product n r2 (ring_product n s s) k)
      (y_is k l) ww r0s r1s r2s) a b c d
      (sum4 t (ring_product n m1 w2 k) (ring_product n m2 w1 k) (ring_product n k1 w2 k) (ring_product n k2 w1 k) (y k))
    where
      sum4 : (t : ℕ) (a b c d y : ℤ)
          → nat_abs (a +ℤ b +ℤ pos t *ℤ (c +ℤ d) +ℤ y) ≤ nat_abs a + nat_abs b + t * (nat_abs c + nat_abs d) + nat_abs y
      sum4 t a b c d y =
          let p = unsigned_abs-mul (pos t) (c +ℤ d) in
          let h : nat_abs (c +ℤ d) ≤ nat_abs c + nat_abs d = omega (arith, ints) in
          let g : t * nat_abs (c +ℤ d) ≤ t * (nat_abs c + nat_abs d) = mul-le-mul_left t h in
          four t a b (pos t *ℤ (c +ℤ d)) y (t * (nat_abs c + nat_abs d)) (subst (λ z. z ≤ t * (nat_abs c + nat_abs d)) (sym p) g)
        where
          four : (t : ℕ) (a b e y : ℤ) (f : ℕ) → nat_abs e ≤ f → nat_abs (a +ℤ b +ℤ e +ℤ y) ≤ nat_abs a + nat_abs b + f + nat_abs y
          four t a b e y f h = omega (arith, ints)

      small : (n t q L W1 W2 : ℕ) (y w r0 r1 r2 : ℤ) → pos q *ℤ y ≡ w -ℤ pos t *ℤ (r0 +ℤ r1 +ℤ r2) → nat_abs w ≤ n * (W1 * W2)
          → nat_abs r0 ≤ L * q → nat_abs r1 ≤ n * (L * q * 1) → nat_abs r2 ≤ n * (L * q * (n * (1 * 1)))
          → q * nat_abs y ≤ n * (W1 * W2) + t * (L * q * (1 + n + n * n))
      small n t q L W1 W2 y w r0 r1 r2 e hw h0 h1 h2 =
          let p = unsigned_abs-mul (pos q) y in
          let g = unsigned_abs-mul (pos t) (r0 +ℤ r1 +ℤ r2) in
          let h : nat_abs (r0 +ℤ r1 +ℤ r2) ≤ nat_abs r0 + nat_abs r1 + nat_abs r2 = omega (arith, ints) in
          let i : nat_abs r0 + nat_abs r1 + nat_abs r2 ≤ L * q * (1 + n + n * n) = omega arith in
          let j : t * nat_abs (r0 +ℤ r1 +ℤ r2) ≤ t * (L * q * (1 + n + n * n)) = mul-le-mul_left t (le_trans h i) in
          subst (λ z. z ≤ n * (W1 * W2) + t * (L * q * (1 + n + n * n))) (sym (ap nat_abs e) ∙ p)
          (diff w (pos t *ℤ (r0 +ℤ r1 +ℤ r2)) (n * (W1 * W2)) (t * (L * q * (1 + n + n * n))) hw
          (subst (λ z. z ≤ t * (L * q * (1 + n + n * n))) (sym g) j))
        where
          diff : (a b : ℤ) (x y : ℕ) → nat_abs a ≤ x → nat_abs b ≤ y → nat_abs (a -ℤ b) ≤ x + y
          diff a b x y h g = omega (arith, ints)
