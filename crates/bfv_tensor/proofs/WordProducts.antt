-- Products of transforms, word by word.
use Rattle.std.proofs.Common.{◌≡◌, ℕ, ◌+◌, ◌*◌, ◌%◌, ◌^◌, ◌<◌, ◌∙◌, ◌≢◌, arith, sym, subst, ap, ap₂, below_more, ℤ, List, [], length, get_or, get_or-set_other, get_or-set_same, set, slice_index}
use Rattle.std.proofs.Math.Nat.{add-mod-mod, mod-add-mod}
use Rattle.ring_law.specs.Polynomials.{ring_product, ring_sum}
use Rattle.ring_law.specs.Transform.{transform_entry}
use Rattle.ring_law.proofs.TransformEntries.{transform_entry-ring_product, transform_entry-ring_sum}
use Rattle.neg_ntt.specs.Parameters.{AreParameters, IsTransformBy, Parameters}
use Rattle.neg_ntt.proofs.Steps.{AreParameters-minus_one}

module _ (n : ℕ) (t : Parameters) (fit : AreParameters n t) where
  entry : (ℕ → ℤ) → ℕ → ℕ
  entry x j = transform_entry t.modulus t.log_degree t.root x j

  positive : 0 < t.modulus
  positive = omega (arith, fit.modulus.from_three)

  in_row : (j : ℕ) → j < 2 ^ t.log_degree → j < n
  in_row j below = subst (λ m. j < m) (sym fit.power) below

  -- the product of entries is the entry of the product
  entry_product : (x y : ℕ → ℤ) (j : ℕ) → entry x j * entry y j % t.modulus ≡ entry (ring_product n x y) j
  unfolding entry
  entry_product x y j =
      sym (transform_entry-ring_product t.modulus t.log_degree t.root positive (AreParameters-minus_one n t fit) x y j)
      ∙ ap (λ m. transform_entry t.modulus t.log_degree t.root (ring_product m x y) j) (sym fit.power)

  pub transform_of_product : (x y : ℕ → ℤ) (a b d : List ℕ) → IsTransformBy t a x → IsTransformBy t b y
      → ((k : ℕ) → k < n → slice_index d k ≡ slice_index a k * slice_index b k % t.modulus) → IsTransformBy t d (ring_product n x y)
  unfolding entry
  transform_of_product x y a b d of_a of_b words j below =
      words j (in_row j below) ∙ ap₂ (λ (u v : ℕ). u * v % t.modulus) (of_a j below) (of_b j below) ∙ entry_product x y j

  -- the same for the sum of two products
  pub transform_of_sum : (x y z w : ℕ → ℤ) (a b c e d : List ℕ) → IsTransformBy t a x → IsTransformBy t b y → IsTransformBy t c z → IsTransformBy t e w
      → ((k : ℕ) → k < n → slice_index d k ≡ (slice_index a k * slice_index b k + slice_index c k * slice_index e k) % t.modulus)
      → IsTransformBy t d (ring_sum (ring_product n x y) (ring_product n z w))
  unfolding entry
  transform_of_sum x y z w a b c e d of_a of_b of_c of_e words j below =
      words j (in_row j below)
      ∙ ap₂ (λ (u v : ℕ). (u + v) % t.modulus) (ap₂ (λ (u v : ℕ). u * v) (of_a j below) (of_b j below)) (ap₂ (λ (u v : ℕ). u * v) (of_c j below) (of_e j below))
      ∙ apart (entry x j * entry y j) (entry z j * entry w j)
      ∙ ap₂ (λ (u v : ℕ). (u + v) % t.modulus) (entry_product x y j) (entry_product z w j)
      ∙ sym (transform_entry-ring_sum t.modulus t.log_degree t.root (ring_product n x y) (ring_product n z w) j positive)
    where
      apart : (u v : ℕ) → (u + v) % t.modulus ≡ (u % t.modulus + v % t.modulus) % t.modulus
      apart u v = sym (mod-add-mod u t.modulus v) ∙ sym (add-mod-mod (u % t.modulus) v t.modulus)

-- ---- loops that write one place after another
-- a word
pub word_written : (P : ℕ → ℕ → Type 0) (row : List ℕ) (k w : ℕ) → k < length row → ((j : ℕ) → j < k → P j (get_or row j 0)) → P k w
    → (j : ℕ) → j < k + 1 → P j (get_or (set row k w) j 0)
word_written P row k w within before now = below_more (λ j. P j (get_or (set row k w) j 0)) k
    (λ j less. let other : j ≢ k = omega arith in subst (P j) (sym (get_or-set_other row k j w 0 other)) (before j less))
    (subst (P k) (sym (get_or-set_same row k w 0 within)) now)

-- a row in each of three lists
pub rows_written : (P : ℕ → List ℕ → List ℕ → List ℕ → Type 0) (a b c : List (List ℕ)) (i : ℕ) (x y z : List ℕ) → i < length a → i < length b → i < length c
    → ((j : ℕ) → j < i → P j (get_or a j []) (get_or b j []) (get_or c j [])) → P i x y z
    → (j : ℕ) → j < i + 1 → P j (get_or (set a i x) j []) (get_or (set b i y) j []) (get_or (set c i z) j [])
rows_written P a b c i x y z in_a in_b in_c before now = below_more (λ j. P j (get_or (set a i x) j []) (get_or (set b i y) j []) (get_or (set c i z) j [])) i
    (λ j less. let other : j ≢ i = omega arith in
    subst (λ r. P j r (get_or (set b i y) j []) (get_or (set c i z) j [])) (sym (get_or-set_other a i j x [] other))
    (subst (λ r. P j (get_or a j []) r (get_or (set c i z) j [])) (sym (get_or-set_other b i j y [] other))
    (subst (P j (get_or a j []) (get_or b j [])) (sym (get_or-set_other c i j z [] other)) (before j less))))
    (subst (λ r. P i r (get_or (set b i y) i []) (get_or (set c i z) i [])) (sym (get_or-set_same a i x [] in_a))
    (subst (λ r. P i x r (get_or (set c i z) i [])) (sym (get_or-set_same b i y [] in_b)) (subst (P i x y) (sym (get_or-set_same c i z [] in_c)) now)))
