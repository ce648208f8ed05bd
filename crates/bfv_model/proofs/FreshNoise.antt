-- The noise of a fresh cipher.
use Rattle.std.proofs.Common.{[], ap, arith, mul-le-mul_left, nat_abs, neg_ℤ, pos, refl, ℕ, ℤ, ◌*ℤ◌, ◌*◌, ◌+ℤ◌, ◌+◌, ◌-ℤ◌, ◌<◌, ◌∙◌, ◌∷◌, ◌≡◌, ◌≤◌}
use Rattle.std.proofs.lemmas.Int.{ints, unsigned_abs-mul}
use Rattle.ring_law.specs.Polynomials.{AllWithin, CongruentPolynomials, ring_product, ring_sum}
use Rattle.ring_law.specs.Residues.{Congruent}
use Rattle.ring_law.proofs.Congruence.{Congruent-add, Congruent-equal, Congruent-refl, Congruent-scaled, Congruent-trans}
use Rattle.ring_law.proofs.PolynomialRing.{polynomial_ring}
use Rattle.ring_law.proofs.ProductPairs.{ring_product_size}
use Rattle.ring_law.proofs.RingSolver.{identity3, identity4, variable, ◌⊕◌, ◌⊖◌, ◌⊗◌}
use Rattle.ring_law.proofs.CommutativeRing as Ring
use Rattle.bfv_model.specs.NoiseBounds.{fresh_bound, fresh_bound_under}

-- with a key error as small as the others and a ternary secret it is the bound of a fresh cipher
pub fresh_bound-ternary : (n t E : ℕ) → fresh_bound_under n t E E 1 ≡ fresh_bound n t E
fresh_bound-ternary n t E = ap (λ (x : ℕ). t * x) inner
  where
    inner : n * E + E + n * E * 1 + 1 ≡ (2 * n + 1) * E + 1
    inner = omega arith

module _ (n q t : ℕ) (pos_n : 0 < n) (p0 p1 s e u e1 e2 m r scaled c0 c1 : ℕ → ℤ)
    (key : CongruentPolynomials q n (ring_sum p0 (ring_product n p1 s)) e)
    (scale : (k : ℕ) → k < n → pos t *ℤ scaled k ≡ pos q *ℤ m k +ℤ r k)
    (first : CongruentPolynomials q n c0 (ring_sum (ring_sum (ring_product n p0 u) e1) scaled))
    (second : CongruentPolynomials q n c1 (ring_sum (ring_product n p1 u) e2)) where
  sum_lem : CongruentPolynomials q n (ring_sum c0 (ring_product n c1 s)) (ring_sum (ring_sum (ring_product n e u) (ring_sum e1 (ring_product n e2 s))) scaled)
  sum_lem =
      let R = polynomial_ring q n pos_n in
      R.equal_trans (R.add_equal first (R.mul_equal second (R.equal_refl s)))
      (R.equal_trans (Ring.ring_identity (polynomial_ring q n pos_n) (p0 ∷ p1 ∷ s ∷ u ∷ e1 ∷ e2 ∷ scaled ∷ [])
      (((variable 0 ⊗ variable 3) ⊕ variable 4) ⊕ variable 6 ⊕ ((variable 1 ⊗ variable 3) ⊕ variable 5) ⊗ variable 2)
      (((variable 0 ⊕ variable 1 ⊗ variable 2) ⊗ variable 3) ⊕ (variable 4 ⊕ variable 5 ⊗ variable 2) ⊕ variable 6) refl)
      (R.add_equal (R.add_equal (R.mul_equal key (R.equal_refl u)) (R.equal_refl (ring_sum e1 (ring_product n e2 s))))
      (R.equal_refl scaled)))

  -- the noise: t times the errors, and the rest of scaling
  pub noise : ℕ → ℤ
  noise k = pos t *ℤ (ring_product n e u k +ℤ (e1 k +ℤ ring_product n e2 s k)) +ℤ r k

  -- t times the phase is q times m and the noise
  pub fresh : (k : ℕ) → k < n → Congruent (t * q) (pos t *ℤ (c0 k +ℤ ring_product n c1 s k) -ℤ pos q *ℤ m k) (noise k)
  unfolding noise
  fresh k l =
      Congruent-trans (t * q)
      (Congruent-add (t * q) (Congruent-scaled t q (sum_lem.at k l)) (Congruent-refl (t * q) (neg_ℤ (pos q *ℤ m k))))
      (Congruent-equal (t * q) (
      identity4 (λ t a sc qm. t ⊗ (a ⊕ sc) ⊖ qm) (λ t a sc qm. t ⊗ a ⊕ (t ⊗ sc ⊖ qm)) refl (pos t)
      (ring_product n e u k +ℤ (e1 k +ℤ ring_product n e2 s k)) (scaled k) (pos q *ℤ m k)
      ∙ ap (λ x. pos t *ℤ (ring_product n e u k +ℤ (e1 k +ℤ ring_product n e2 s k)) +ℤ (x -ℤ pos q *ℤ m k)) (scale k l)
      ∙ identity3 (λ a qm r. a ⊕ (qm ⊕ r ⊖ qm)) (λ a qm r. a ⊕ r) refl (pos t *ℤ (ring_product n e u k +ℤ (e1 k +ℤ ring_product n e2 s k)))
      (pos q *ℤ m k) (r k)))

  -- its size, for a secret of coefficients at most S and a key error of at most K
  pub fresh_size : (K E S : ℕ) → AllWithin n K e → AllWithin n 1 u → AllWithin n E e1 → AllWithin n E e2 → AllWithin n S s
      → AllWithin n t r → (k : ℕ) → k < n → nat_abs (noise k) ≤ fresh_bound_under n t E K S
  unfolding noise
  fresh_size K E S he hu h1 h2 hs hr k l =
      let a = ring_product_size n K 1 e u he hu k l in
      let b = h1 k l in
      let c = ring_product_size n E S e2 s h2 hs k l in
      let d = hr k l in
      let x = ring_product n e u k +ℤ (e1 k +ℤ ring_product n e2 s k) in
      let in' : nat_abs x ≤ n * K + E + n * (E * S) = omega (arith, ints) in
      let out = unsigned_abs-mul (pos t) x in
      let f : t * nat_abs x ≤ t * (n * K + E + n * (E * S)) = mul-le-mul_left t in' in
      omega (arith, ints)
