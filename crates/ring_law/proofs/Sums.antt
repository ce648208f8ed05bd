-- Laws of `sum_below`.
use Rattle.std.proofs.Common.{◌≡◌, ℕ, zero, suc, ◌+◌, ◌-◌, ◌*◌, ◌<◌, ◌≤◌, refl, sym, ap, ap₂, ◌∙◌, subst, arith, ℤ, pos, neg_ℤ, ◌+ℤ◌, ◌*ℤ◌, nat_abs, ◌≢◌, ◌%◌, mod-eq_of_lt, List, [], ◌∷◌, length, slice_index}
use Rattle.std.proofs.lemmas.Int.{ints}
use Rattle.std.proofs.Math.Nat.{add-mod_right}
use Rattle.std.specs.List.{sum}
use Rattle.std.proofs.lemmas.List.Sums.{sum_by-cons}
use Rattle.ring_law.specs.Sums.{sum_below}
use Rattle.ring_law.proofs.WholeNumbers.{int_abs_add, int_add_mul, int_mul_add, int_zero_mul}
use Rattle.ring_law.proofs.RingSolver.{identity4, ◌⊕◌}

-- one term more
pub sum_below-suc : (n : ℕ) (f : ℕ → ℤ) → sum_below (suc n) f ≡ sum_below n f +ℤ f n
unfolding sum_below
sum_below-suc n f = refl

-- equal terms make equal sums
pub sum_below_ext : (n : ℕ) (f g : ℕ → ℤ) → ((i : ℕ) → i < n → f i ≡ g i) → sum_below n f ≡ sum_below n g
unfolding sum_below
sum_below_ext zero f g h = refl
sum_below_ext (suc n) f g h = ap₂ ◌+ℤ◌ (sum_below_ext n f g (λ i l. h i (omega arith))) (h n (omega arith))

-- terms that are 0
pub sum_below_zero : (n : ℕ) (f : ℕ → ℤ) → ((i : ℕ) → i < n → f i ≡ pos 0) → sum_below n f ≡ pos 0
unfolding sum_below
sum_below_zero zero f h = refl
sum_below_zero (suc n) f h = ap₂ ◌+ℤ◌ (sum_below_zero n f (λ i l. h i (omega arith))) (h n (omega arith))

-- the sum of sums
pub sum_below_add : (n : ℕ) (f g : ℕ → ℤ) → sum_below n (λ i. f i +ℤ g i) ≡ sum_below n f +ℤ sum_below n g
unfolding sum_below
sum_below_add zero f g = refl
sum_below_add (suc n) f g = ap (λ x. x +ℤ (f n +ℤ g n)) (sum_below_add n f g) ∙ regroup (sum_below n f) (sum_below n g) (f n) (g n)
  where
    regroup : (a b c d : ℤ) → a +ℤ b +ℤ (c +ℤ d) ≡ a +ℤ c +ℤ (b +ℤ d)
    regroup a b c d = omega (arith, ints)

-- a common factor
pub sum_below_scale : (n : ℕ) (c : ℤ) (f : ℕ → ℤ) → sum_below n (λ i. c *ℤ f i) ≡ c *ℤ sum_below n f
unfolding sum_below
sum_below_scale zero c f = sym (none c)
  where
    none : (a : ℤ) → a *ℤ pos 0 ≡ pos 0
    none a = omega (arith, ints)
sum_below_scale (suc n) c f = ap (λ x. x +ℤ c *ℤ f n) (sum_below_scale n c f) ∙ sym (int_mul_add c (sum_below n f) (f n))

-- on the right
pub sum_below_scale_right : (n : ℕ) (f : ℕ → ℤ) (c : ℤ) → sum_below n (λ i. f i *ℤ c) ≡ sum_below n f *ℤ c
unfolding sum_below
sum_below_scale_right zero f c = sym (int_zero_mul c)
sum_below_scale_right (suc n) f c = ap (λ x. x +ℤ f n *ℤ c) (sum_below_scale_right n f c) ∙ sym (int_add_mul (sum_below n f) (f n) c)

-- the negative of a sum
pub sum_below_neg : (n : ℕ) (f : ℕ → ℤ) → sum_below n (λ i. neg_ℤ (f i)) ≡ neg_ℤ (sum_below n f)
unfolding sum_below
sum_below_neg zero f = refl
sum_below_neg (suc n) f = ap (λ x. x +ℤ neg_ℤ (f n)) (sum_below_neg n f) ∙ regroup (sum_below n f) (f n)
  where
    regroup : (a b : ℤ) → neg_ℤ a +ℤ neg_ℤ b ≡ neg_ℤ (a +ℤ b)
    regroup a b = omega (arith, ints)

-- two sums change places
pub sum_below_swap : (m n : ℕ) (f : ℕ → ℕ → ℤ) → sum_below m (λ i. sum_below n (λ j. f i j)) ≡ sum_below n (λ j. sum_below m (λ i. f i j))
unfolding sum_below
sum_below_swap zero n f = sym (sum_below_zero n (λ j. pos 0) (λ i l. refl))
sum_below_swap (suc m) n f =
    ap (λ x. x +ℤ sum_below n (λ j. f m j)) (sum_below_swap m n f) ∙ sym (sum_below_add n (λ j. sum_below m (λ i. f i j)) (λ j. f m j))

-- a sum in two parts
pub sum_below_split : (m n : ℕ) (f : ℕ → ℤ) → sum_below (m + n) f ≡ sum_below m f +ℤ sum_below n (λ i. f (m + i))
unfolding sum_below
sum_below_split m zero f = ap (λ k. sum_below k f) (plus m) ∙ sym (idr (sum_below m f))
  where
    plus : (m : ℕ) → m + zero ≡ m
    plus m = omega arith

    idr : (a : ℤ) → a +ℤ pos 0 ≡ a
    idr a = omega (arith, ints)
sum_below_split m (suc n) f =
    ap (λ k. sum_below k f) (plus m n) ∙ ap (λ x. x +ℤ f (m + n)) (sum_below_split m n f)
    ∙ regroup (sum_below m f) (sum_below n (λ i. f (m + i))) (f (m + n))
  where
    plus : (m n : ℕ) → m + suc n ≡ suc (m + n)
    plus m n = omega arith

    regroup : (a b c : ℤ) → a +ℤ b +ℤ c ≡ a +ℤ (b +ℤ c)
    regroup a b c = omega (arith, ints)

-- the first term apart
pub sum_below_first : (n : ℕ) (f : ℕ → ℤ) → sum_below (suc n) f ≡ f 0 +ℤ sum_below n (λ i. f (suc i))
unfolding sum_below
sum_below_first zero f = one (f 0)
  where
    one : (a : ℤ) → pos 0 +ℤ a ≡ a +ℤ pos 0
    one a = omega (arith, ints)
sum_below_first (suc n) f = ap (λ x. x +ℤ f (suc n)) (sum_below_first n f) ∙ regroup (f 0) (sum_below n (λ i. f (suc i))) (f (suc n))
  where
    regroup : (a b c : ℤ) → a +ℤ b +ℤ c ≡ a +ℤ (b +ℤ c)
    regroup a b c = omega (arith, ints)

-- in reversed order
pub sum_below_reverse : (n : ℕ) (f : ℕ → ℤ) → sum_below n f ≡ sum_below n (λ i. f (n - suc i))
unfolding sum_below
sum_below_reverse zero f = refl
sum_below_reverse (suc n) f =
    ap (λ x. x +ℤ f n) (sum_below_reverse n f)
    ∙ flip (sum_below n (λ i. f (n - suc i))) (f n)
    ∙ ap₂ ◌+ℤ◌ (ap f (last n)) (sum_below_ext n (λ i. f (n - suc i)) (λ i. f (suc n - suc (suc i))) (λ i l. ap f (inner n i)))
    ∙ sym (sum_below_first n (λ i. f (suc n - suc i)))
  where
    flip : (a b : ℤ) → a +ℤ b ≡ b +ℤ a
    flip a b = omega (arith, ints)

    last : (n : ℕ) → n ≡ suc n - suc 0
    last n = omega arith

    inner : (n i : ℕ) → n - suc i ≡ suc n - suc (suc i)
    inner n i = omega arith

-- one term alone
pub sum_below_single : (n k : ℕ) (f : ℕ → ℤ) → k < n → ((i : ℕ) → i < n → i ≢ k → f i ≡ pos 0) → sum_below n f ≡ f k
sum_below_single n k f l h =
    ap (λ j. sum_below j f) (parts n k l)
    ∙ sum_below_split k (suc (n - suc k)) f
    ∙ ap₂ ◌+ℤ◌ (sum_below_zero k f (λ i m. h i (omega arith) (omega arith)))
    (sum_below_first (n - suc k) (λ i. f (k + i))
    ∙ ap₂ ◌+ℤ◌ (ap f (here k)) (sum_below_zero (n - suc k) (λ i. f (k + suc i)) (λ i m. h (k + suc i) (omega arith) (omega arith))))
    ∙ alone (f k)
  where
    parts : (n k : ℕ) → k < n → n ≡ k + suc (n - suc k)
    parts n k l = omega arith

    here : (k : ℕ) → k + 0 ≡ k
    here k = omega arith

    alone : (a : ℤ) → pos 0 +ℤ (a +ℤ pos 0) ≡ a
    alone a = omega (arith, ints)

-- a sum of n terms that are at most B
pub sum_below_size : (n B : ℕ) (f : ℕ → ℤ) → ((i : ℕ) → i < n → nat_abs (f i) ≤ B) → nat_abs (sum_below n f) ≤ n * B
unfolding sum_below
sum_below_size zero B f h = omega arith
sum_below_size (suc n) B f h =
    let a = sum_below_size n B f (λ i l. h i (omega arith)) in
    let b = h n (omega arith) in
    let c = int_abs_add (sum_below n f) (f n) in
    omega arith

-- the product of two sums
pub sum_below_product : (m n : ℕ) (f g : ℕ → ℤ) → sum_below m (λ i. sum_below n (λ j. f i *ℤ g j)) ≡ sum_below m f *ℤ sum_below n g
sum_below_product m n f g =
    sum_below_ext m (λ i. sum_below n (λ j. f i *ℤ g j)) (λ i. f i *ℤ sum_below n g) (λ i l. sum_below_scale n (f i) g)
    ∙ sum_below_scale_right m f (sum_below n g)

-- ---- the digits in reverse
-- the terms at even places and those at odd places
pub sum_below_odd_even : (n : ℕ) (f : ℕ → ℤ) → sum_below (n + n) f ≡ sum_below n (λ i. f (2 * i)) +ℤ sum_below n (λ i. f (2 * i + 1))
unfolding sum_below
sum_below_odd_even zero f = refl
sum_below_odd_even (suc n) f =
    ap (λ k. sum_below k f) (more n)
    ∙ ap (λ x. x +ℤ f (n + n) +ℤ f (suc (n + n))) (sum_below_odd_even n f)
    ∙ ap₂ (λ u v. sum_below n (λ i. f (2 * i)) +ℤ sum_below n (λ i. f (2 * i + 1)) +ℤ f u +ℤ f v) (twice n) (twice_one n)
    ∙ identity4 (λ a b c d. a ⊕ b ⊕ c ⊕ d) (λ a b c d. a ⊕ c ⊕ (b ⊕ d)) refl (sum_below n (λ i. f (2 * i))) (sum_below n (λ i. f (2 * i + 1)))
    (f (2 * n)) (f (2 * n + 1))
  where
    more : (n : ℕ) → suc n + suc n ≡ suc (suc (n + n))
    more n = omega arith

    twice : (n : ℕ) → n + n ≡ 2 * n
    twice n = omega arith

    twice_one : (n : ℕ) → suc (n + n) ≡ 2 * n + 1
    twice_one n = omega arith

-- ---- the inverse
-- n times 1
pub sum_below_ones : (n : ℕ) → sum_below n (λ j. pos 1) ≡ pos n
unfolding sum_below
sum_below_ones zero = refl
sum_below_ones (suc n) = ap (λ x. x +ℤ pos 1) (sum_below_ones n) ∙ ap pos (more n)
  where
    more : (n : ℕ) → n + 1 ≡ suc n
    more n = omega arith

-- a turn of the places
pub sum_below_rotate : (n k : ℕ) (f : ℕ → ℤ) → k ≤ n → sum_below n (λ i. f ((i + k) % n)) ≡ sum_below n f
sum_below_rotate n k f h =
    ap (λ t. sum_below t (λ i. f ((i + k) % n))) (parts n k h)
    ∙ sum_below_split (n - k) k (λ i. f ((i + k) % n))
    ∙ ap₂ ◌+ℤ◌ (sum_below_ext (n - k) (λ i. f ((i + k) % n)) (λ i. f (k + i)) (λ i l. ap f (low n k i l)))
    (sum_below_ext k (λ i. f ((n - k + i + k) % n)) f (λ i l. ap f (high n k i h l)))
    ∙ flip (sum_below (n - k) (λ i. f (k + i))) (sum_below k f)
    ∙ sym (sum_below_split k (n - k) f) ∙ ap (λ t. sum_below t f) (sum n k h)
  where
    parts : (n k : ℕ) → k ≤ n → n ≡ n - k + k
    parts n k h = omega arith

    sum : (n k : ℕ) → k ≤ n → k + (n - k) ≡ n
    sum n k h = omega arith

    flip : (a b : ℤ) → a +ℤ b ≡ b +ℤ a
    flip a b = omega (arith, ints)

    low : (n k i : ℕ) → i < n - k → (i + k) % n ≡ k + i
    low n k i l = mod-eq_of_lt (omega arith) ∙ turn i k
      where
        turn : (i k : ℕ) → i + k ≡ k + i
        turn i k = omega arith

    high : (n k i : ℕ) → k ≤ n → i < k → (n - k + i + k) % n ≡ i
    high n k i h l = ap (λ x. x % n) (place n k i h) ∙ add-mod_right i n ∙ mod-eq_of_lt (omega arith)
      where
        place : (n k i : ℕ) → k ≤ n → n - k + i + k ≡ i + n
        place n k i h = omega arith

-- a sum of natural numbers is not negative
pub sum_below_natural : (n : ℕ) (f g : ℕ → ℕ) → sum_below n (λ i. pos (f i) *ℤ pos (g i)) ≡ pos (nat_abs (sum_below n (λ i. pos (f i) *ℤ pos (g i))))
unfolding sum_below
sum_below_natural zero f g = refl
sum_below_natural (suc n) f g = let h = sum_below_natural n f g in omega (arith, ints)

-- a sum whose terms are bounded by multiples of the listed numbers
pub sum_below_weighted : (C : ℕ) (qs : List ℕ) (f : ℕ → ℤ) → ((i : ℕ) → i < length qs → nat_abs (f i) ≤ C * slice_index qs i) →
    nat_abs (sum_below (length qs) f) ≤ C * sum qs
unfolding sum_below
sum_below_weighted C [] f h = omega arith
sum_below_weighted C (q ∷ qs) f h =
    let a = sum_below_weighted C qs (λ i. f (suc i)) (λ i l. h (suc i) (omega arith)) in
    let b = h 0 (omega arith) in
    subst (λ z. nat_abs z ≤ C * sum (q ∷ qs)) (sym (sum_below_first (length qs) f))
    (subst (λ z. nat_abs (f 0 +ℤ sum_below (length qs) (λ i. f (suc i))) ≤ C * z) (sym (sum_by-cons (λ x. x) q qs))
    (both (f 0) (sum_below (length qs) (λ i. f (suc i))) (sum qs) b a))
  where
    both : (x y : ℤ) (s : ℕ) → nat_abs x ≤ C * q → nat_abs y ≤ C * s → nat_abs (x +ℤ y) ≤ C * (q + s)
    both x y s h k = omega (arith, ints)
