-- Layers of the transform on words: what a layer of butterflies makes of the blocks of a polynomial.
use Rattle.std.proofs.Common.{◌≡◌, ℕ, suc, ◌+◌, ◌-◌, ◌*◌, ◌%◌, ◌^◌, ◌<◌, ◌≤◌, refl, sym, ap, ◌∙◌, subst, arith, ℤ, pos, neg_ℤ, ◌+ℤ◌, ◌*ℤ◌, List, get_or, ⊎_elim}
use Rattle.std.proofs.lemmas.Bool.{cases_lt}
use Rattle.ring_law.specs.Residues.{Congruent}
use Rattle.ring_law.specs.Transform.{bit_reversal}
use Rattle.ring_law.proofs.RingSolver.{identity3, identity4, identity5, literal, minus, ◌⊕◌, ◌⊗◌}
use Rattle.ring_law.proofs.Congruence.{Congruent-add, Congruent-equal, Congruent-mul, Congruent-neg, Congruent-refl, Congruent-sym, Congruent-trans}
use Rattle.ring_law.proofs.Residues.{Congruent-from_residues}
use Rattle.ring_law.proofs.BitReversal.{even_or_odd}
use Rattle.ring_law.proofs.TransformLayers.{block_value, block_value_even, block_value_odd}
use Rattle.lane_rows.specs.Butterflies.{IsButterfly, IsButterflyBack, IsScaledButterflyBack}
use Rattle.neg_ntt.specs.Butterflies.{EachBlock}

-- the row has 2^s blocks of width words, congruent modulo q to m times the blocks of a
pub record AreBlocks (q x s width m : ℕ) (a : ℕ → ℤ) (row : List ℕ) : Type 0 where
  pub at : (i r : ℕ) → i < 2 ^ s → r < width →
      Congruent q (pos (get_or row (i * width + r) 0)) (pos m *ℤ block_value x (2 ^ s) width (2 * bit_reversal s i + 1) r a)

-- a pair of words, congruent to m times U and m times V, and w congruent to W
module _ (q m x y w sum difference : ℕ) (positive : 0 < q) (U V W : ℤ) (w_is : Congruent q (pos w) W) where
  pub butterfly_sum : IsButterfly q w x y sum difference → Congruent q (pos x) (pos m *ℤ U) → Congruent q (pos y) (pos m *ℤ V)
      → Congruent q (pos sum) (pos m *ℤ (U +ℤ W *ℤ V))
  butterfly_sum step x_is y_is =
      Congruent-trans q (Congruent-from_residues q (pos sum) (pos (x + w * y)) positive step.adds)
      (Congruent-trans q (Congruent-add q x_is (Congruent-mul q w_is y_is))
      (Congruent-equal q (identity4 (λ m u v w. m ⊗ u ⊕ w ⊗ (m ⊗ v)) (λ m u v w. m ⊗ (u ⊕ w ⊗ v)) refl (pos m) U V W)))

  pub butterfly_difference : IsButterfly q w x y sum difference → Congruent q (pos x) (pos m *ℤ U) → Congruent q (pos y) (pos m *ℤ V)
      → Congruent q (pos difference) (pos m *ℤ (U +ℤ neg_ℤ W *ℤ V))
  butterfly_difference step x_is y_is =
      Congruent-trans q (Congruent-equal q (identity3 (λ d w y. d) (λ d w y. (d ⊕ w ⊗ y) ⊕ minus (w ⊗ y)) refl (pos difference) (pos w) (pos y)))
      (Congruent-trans q
      (Congruent-add q (Congruent-trans q (Congruent-from_residues q (pos (difference + w * y)) (pos x) positive step.subtracts) x_is)
      (Congruent-neg q (Congruent-mul q w_is y_is)))
      (Congruent-equal q (identity4 (λ m u v w. m ⊗ u ⊕ minus (w ⊗ (m ⊗ v))) (λ m u v w. m ⊗ (u ⊕ minus w ⊗ v)) refl (pos m) U V W)))

-- backwards: a pair of words congruent to m times the sum and the difference, and w the inverse of W, times f
module _ (q f m x y w sum difference : ℕ) (positive : 0 < q) (U V W : ℤ) (w_is : Congruent q (pos w *ℤ W) (pos f))
    (step : IsScaledButterflyBack q f w x y sum difference) (x_is : Congruent q (pos x) (pos m *ℤ (U +ℤ W *ℤ V)))
    (y_is : Congruent q (pos y) (pos m *ℤ (U +ℤ neg_ℤ W *ℤ V))) where
  pub butterfly_back_sum : Congruent q (pos sum) (pos (f * (2 * m)) *ℤ U)
  butterfly_back_sum =
      Congruent-trans q (Congruent-from_residues q (pos sum) (pos (f * (x + y))) positive step.adds)
      (Congruent-trans q (Congruent-mul q (Congruent-refl q (pos f)) (Congruent-add q x_is y_is))
      (Congruent-equal q
      (identity5 (λ m u v w f. f ⊗ (m ⊗ (u ⊕ w ⊗ v) ⊕ m ⊗ (u ⊕ minus w ⊗ v))) (λ m u v w f. (f ⊗ (literal (pos 2) ⊗ m)) ⊗ u) refl (pos m) U V W (pos f))))

  pub butterfly_back_difference : Congruent q (pos difference) (pos (f * (2 * m)) *ℤ V)
  butterfly_back_difference =
      Congruent-trans q (Congruent-equal q (identity3 (λ d w y. d) (λ d w y. (d ⊕ w ⊗ y) ⊕ minus (w ⊗ y)) refl (pos difference) (pos w) (pos y)))
      (Congruent-trans q
      (Congruent-add q
      (Congruent-trans q (Congruent-from_residues q (pos (difference + w * y)) (pos (w * x)) positive step.subtracts) (Congruent-mul q (Congruent-refl q (pos w)) x_is))
      (Congruent-neg q (Congruent-mul q (Congruent-refl q (pos w)) y_is)))
      (Congruent-trans q
      (Congruent-equal q
      (identity5 (λ m u v w c. c ⊗ (m ⊗ (u ⊕ w ⊗ v)) ⊕ minus (c ⊗ (m ⊗ (u ⊕ minus w ⊗ v)))) (λ m u v w c. (c ⊗ w) ⊗ ((literal (pos 2) ⊗ m) ⊗ v)) refl (pos m) U V W
      (pos w)))
      (Congruent-trans q (Congruent-mul q w_is (Congruent-refl q (pos (2 * m) *ℤ V)))
      (Congruent-equal q (identity3 (λ f m v. f ⊗ ((literal (pos 2) ⊗ m) ⊗ v)) (λ f m v. (f ⊗ (literal (pos 2) ⊗ m)) ⊗ v) refl (pos f) (pos m) V)))))

module _ (q x n s t m : ℕ) (positive : 0 < q) (minus_one : Congruent q (pos (x ^ n)) (neg_ℤ (pos 1))) (size : 2 * t * 2 ^ s ≡ n) (a : ℕ → ℤ)
    (w : ℕ → ℕ) (old new : List ℕ) where
  -- a layer forward takes blocks apart
  pub AreBlocks-next : ((i : ℕ) → i < 2 ^ s → Congruent q (pos (w i)) (pos (x ^ (t * (2 * bit_reversal s i + 1)))))
      → EachBlock (λ i. IsButterfly q (w i)) (2 ^ s) t old new → AreBlocks q x s (2 * t) m a old → AreBlocks q x (suc s) t m a new
  AreBlocks-next w_is steps before = record {
    at = λ j r below inside. ⊎_elim
        (λ (p : (i : ℕ) × (j ≡ 2 * i)). subst (at_block r) (sym p.1) (even p.0 r (omega arith) inside))
        (λ (p : (i : ℕ) × (j ≡ 2 * i + 1)). subst (at_block r) (sym p.1) (odd p.0 r (omega arith) inside))
        (even_or_odd j);
  }
    where
      at_block : ℕ → ℕ → Type 0
      at_block r j = Congruent q (pos (get_or new (j * t + r) 0)) (pos m *ℤ block_value x (2 ^ suc s) t (2 * bit_reversal (suc s) j + 1) r a)

      double : (s : ℕ) → 2 ^ s + 2 ^ s ≡ 2 ^ suc s
      double s = omega arith

      far : (i r : ℕ) → i < 2 ^ s → r < t → Congruent q (pos (get_or old (i * (2 * t) + (t + r)) 0))
          (pos m *ℤ block_value x (2 ^ s) (2 * t) (2 * bit_reversal s i + 1) (r + t) a)
      far i r below inside = subst (λ p. Congruent q (pos (get_or old p 0)) (pos m *ℤ block_value x (2 ^ s) (2 * t) (2 * bit_reversal s i + 1) (r + t) a))
          (place (i * (2 * t)) r t) (before.at i (r + t) below (omega arith))
        where
          place : (b r t : ℕ) → b + (r + t) ≡ b + (t + r)
          place b r t = omega arith

      even : (i r : ℕ) → i < 2 ^ s → r < t → at_block r (2 * i)
      even i r below inside =
          subst (λ p. Congruent q (pos (get_or new p 0)) (pos m *ℤ block_value x (2 ^ suc s) t (2 * bit_reversal (suc s) (2 * i) + 1) r a)) (place i t r)
          (Congruent-trans q
          (butterfly_sum q m (get_or old (i * (2 * t) + r) 0) (get_or old (i * (2 * t) + (t + r)) 0) (w i) (get_or new (i * (2 * t) + r) 0) (get_or new (i * (2 * t) + (t + r)) 0)
          positive _ _ _ (w_is i below) (steps i r below inside) (before.at i r below (omega arith)) (far i r below inside))
          (Congruent-mul q (Congruent-refl q (pos m))
          (Congruent-equal q (sym (block_value_even q n x minus_one s t i r a) ∙ ap (λ c. block_value x c t (2 * bit_reversal (suc s) (2 * i) + 1) r a) (double s)))))
        where
          place : (i t r : ℕ) → i * (2 * t) + r ≡ 2 * i * t + r
          place i t r = omega arith

      odd : (i r : ℕ) → i < 2 ^ s → r < t → at_block r (2 * i + 1)
      odd i r below inside =
          subst (λ p. Congruent q (pos (get_or new p 0)) (pos m *ℤ block_value x (2 ^ suc s) t (2 * bit_reversal (suc s) (2 * i + 1) + 1) r a)) (place i t r)
          (Congruent-trans q
          (butterfly_difference q m (get_or old (i * (2 * t) + r) 0) (get_or old (i * (2 * t) + (t + r)) 0) (w i) (get_or new (i * (2 * t) + r) 0) (get_or new (i * (2 * t) + (t + r)) 0)
          positive _ _ _ (w_is i below) (steps i r below inside) (before.at i r below (omega arith)) (far i r below inside))
          (Congruent-mul q (Congruent-refl q (pos m))
          (Congruent-trans q (Congruent-sym q (block_value_odd q n x minus_one s t i r a size))
          (Congruent-equal q (ap (λ c. block_value x c t (2 * bit_reversal (suc s) (2 * i + 1) + 1) r a) (double s))))))
        where
          place : (i t r : ℕ) → i * (2 * t) + (t + r) ≡ (2 * i + 1) * t + r
          place i t r = omega arith

  -- a layer back puts them together, and doubles them and multiplies them by f
  pub AreBlocks-previous_scaled : (f : ℕ) → ((i : ℕ) → i < 2 ^ s → Congruent q (pos (w i) *ℤ pos (x ^ (t * (2 * bit_reversal s i + 1)))) (pos f))
      → EachBlock (λ i. IsScaledButterflyBack q f (w i)) (2 ^ s) t old new → AreBlocks q x (suc s) t m a old → AreBlocks q x s (2 * t) (f * (2 * m)) a new
  AreBlocks-previous_scaled f w_is steps before = record {
    at = λ i r below inside. ⊎_elim
        (λ (l : r < t). butterfly_back_sum q f m (get_or old (i * (2 * t) + r) 0) (get_or old (i * (2 * t) + (t + r)) 0) (w i) (get_or new (i * (2 * t) + r) 0)
        (get_or new (i * (2 * t) + (t + r)) 0) positive (block_value x (2 ^ s) (2 * t) (2 * bit_reversal s i + 1) r a) (block_value x (2 ^ s) (2 * t) (2 * bit_reversal s i + 1) (r + t) a) (pos (x ^ (t * (2 * bit_reversal s i + 1)))) (w_is i below) (steps i r below l) (even i r below l) (odd i r below l))
        (λ (l : t ≤ r). let in_half : r - t < t = omega arith in
        let sum : t + (r - t) ≡ r = omega arith in
        let turned : (r - t) + t ≡ r = omega arith in
        let here = butterfly_back_difference q f m (get_or old (i * (2 * t) + (r - t)) 0) (get_or old (i * (2 * t) + (t + (r - t))) 0) (w i)
        (get_or new (i * (2 * t) + (r - t)) 0) (get_or new (i * (2 * t) + (t + (r - t))) 0) positive (block_value x (2 ^ s) (2 * t) (2 * bit_reversal s i + 1) (r - t) a) (block_value x (2 ^ s) (2 * t) (2 * bit_reversal s i + 1) (r - t + t) a) (pos (x ^ (t * (2 * bit_reversal s i + 1)))) (w_is i below)
        (steps i (r - t) below in_half) (even i (r - t) below in_half) (odd i (r - t) below in_half) in
        subst (λ v. Congruent q (pos (get_or new (i * (2 * t) + r) 0)) (pos (f * (2 * m)) *ℤ block_value x (2 ^ s) (2 * t) (2 * bit_reversal s i + 1) v a)) turned
        (subst (λ p. Congruent q (pos (get_or new (i * (2 * t) + p) 0)) (pos (f * (2 * m)) *ℤ block_value x (2 ^ s) (2 * t) (2 * bit_reversal s i + 1) (r - t + t) a)) sum here))
        (cases_lt r t);
  }
    where
      double : (s : ℕ) → 2 ^ suc s ≡ 2 ^ s + 2 ^ s
      double s = omega arith

      even : (i r : ℕ) → i < 2 ^ s → r < t → Congruent q (pos (get_or old (i * (2 * t) + r) 0))
          (pos m *ℤ (block_value x (2 ^ s) (2 * t) (2 * bit_reversal s i + 1) r a
          +ℤ pos (x ^ (t * (2 * bit_reversal s i + 1))) *ℤ block_value x (2 ^ s) (2 * t) (2 * bit_reversal s i + 1) (r + t) a))
      even i r below inside =
          subst (λ p. Congruent q (pos (get_or old p 0)) (pos m *ℤ (block_value x (2 ^ s) (2 * t) (2 * bit_reversal s i + 1) r a
          +ℤ pos (x ^ (t * (2 * bit_reversal s i + 1))) *ℤ block_value x (2 ^ s) (2 * t) (2 * bit_reversal s i + 1) (r + t) a))) (place i t r)
          (Congruent-trans q (before.at (2 * i) r (omega arith) inside)
          (Congruent-mul q (Congruent-refl q (pos m))
          (Congruent-equal q (ap (λ c. block_value x c t (2 * bit_reversal (suc s) (2 * i) + 1) r a) (double s) ∙ block_value_even q n x minus_one s t i r a))))
        where
          place : (i t r : ℕ) → 2 * i * t + r ≡ i * (2 * t) + r
          place i t r = omega arith

      odd : (i r : ℕ) → i < 2 ^ s → r < t → Congruent q (pos (get_or old (i * (2 * t) + (t + r)) 0))
          (pos m *ℤ (block_value x (2 ^ s) (2 * t) (2 * bit_reversal s i + 1) r a
          +ℤ neg_ℤ (pos (x ^ (t * (2 * bit_reversal s i + 1)))) *ℤ block_value x (2 ^ s) (2 * t) (2 * bit_reversal s i + 1) (r + t) a))
      odd i r below inside =
          subst (λ p. Congruent q (pos (get_or old p 0)) (pos m *ℤ (block_value x (2 ^ s) (2 * t) (2 * bit_reversal s i + 1) r a
          +ℤ neg_ℤ (pos (x ^ (t * (2 * bit_reversal s i + 1)))) *ℤ block_value x (2 ^ s) (2 * t) (2 * bit_reversal s i + 1) (r + t) a))) (place i t r)
          (Congruent-trans q (before.at (2 * i + 1) r (omega arith) inside)
          (Congruent-mul q (Congruent-refl q (pos m))
          (Congruent-trans q (Congruent-equal q (ap (λ c. block_value x c t (2 * bit_reversal (suc s) (2 * i + 1) + 1) r a) (double s)))
          (block_value_odd q n x minus_one s t i r a size))))
        where
          place : (i t r : ℕ) → (2 * i + 1) * t + r ≡ i * (2 * t) + (t + r)
          place i t r = omega arith

  -- without a factor
  pub AreBlocks-previous : ((i : ℕ) → i < 2 ^ s → Congruent q (pos (w i) *ℤ pos (x ^ (t * (2 * bit_reversal s i + 1)))) (pos 1))
      → EachBlock (λ i. IsButterflyBack q (w i)) (2 ^ s) t old new → AreBlocks q x (suc s) t m a old → AreBlocks q x s (2 * t) (2 * m) a new
  AreBlocks-previous w_is steps before =
      subst (λ m. AreBlocks q x s (2 * t) m a new) (once (2 * m)) (AreBlocks-previous_scaled 1 w_is
      (λ i r below inside.
      let step = steps i r below inside in
      record {
        adds = step.adds ∙ ap (λ sum. sum % q) (sym (once (get_or old (i * (2 * t) + r) 0 + get_or old (i * (2 * t) + (t + r)) 0)));
        subtracts = step.subtracts;
      }) before)
    where
      once : (y : ℕ) → 1 * y ≡ y
      once y = omega arith
