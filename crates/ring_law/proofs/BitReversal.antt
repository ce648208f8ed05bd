-- The reversal of k binary digits.
use Rattle.std.proofs.Common.{◌≡◌, ℕ, zero, suc, ◌+◌, ◌*◌, ◌%◌, ◌/◌, ◌^◌, ◌<◌, ◌≤◌, refl, sym, ap, ap₂, ◌∙◌, arith, ℤ, ◌+ℤ◌, mod-lt, ◌⊎◌, inl, inr, mul-le-mul_right}
use Rattle.ring_law.specs.Sums.{sum_below}
use Rattle.ring_law.specs.Transform.{bit_reversal}
use Rattle.ring_law.proofs.Sums.{sum_below_ext, sum_below_odd_even, sum_below_split}

-- a number is even or odd
pub even_or_odd : (d : ℕ) → ((e : ℕ) × (d ≡ 2 * e)) ⊎ ((e : ℕ) × (d ≡ 2 * e + 1))
even_or_odd d = by (d % 2) refl (mod-lt d two)
  where
    two : 0 < 2
    two = omega arith

    by : (r : ℕ) → d % 2 ≡ r → d % 2 < 2 → ((e : ℕ) × (d ≡ 2 * e)) ⊎ ((e : ℕ) × (d ≡ 2 * e + 1))
    by zero h l = inl (d / 2, omega arith)
    by (suc zero) h l = inr (d / 2, omega arith)
    by (suc (suc r)) h l = absurd (omega arith)

-- the lowest digit goes to the top: of an even number it is 0
pub bit_reversal_even : (k i : ℕ) → bit_reversal (suc k) (2 * i) ≡ bit_reversal k i
unfolding bit_reversal
bit_reversal_even k i = ap₂ (λ r q. r * 2 ^ k + bit_reversal k q) (low i) (high i) ∙ none (2 ^ k) (bit_reversal k i)
  where
    low : (i : ℕ) → (2 * i) % 2 ≡ 0
    low i = omega arith

    high : (i : ℕ) → (2 * i) / 2 ≡ i
    high i = omega arith

    none : (a b : ℕ) → 0 * a + b ≡ b
    none a b = omega arith

-- and of an odd number it is 1
pub bit_reversal_odd : (k i : ℕ) → bit_reversal (suc k) (2 * i + 1) ≡ 2 ^ k + bit_reversal k i
unfolding bit_reversal
bit_reversal_odd k i = ap₂ (λ r q. r * 2 ^ k + bit_reversal k q) (low i) (high i) ∙ one (2 ^ k) (bit_reversal k i)
  where
    low : (i : ℕ) → (2 * i + 1) % 2 ≡ 1
    low i = omega arith

    high : (i : ℕ) → (2 * i + 1) / 2 ≡ i
    high i = omega arith

    one : (a b : ℕ) → 1 * a + b ≡ a + b
    one a b = omega arith

-- a sum in reversed order is the same sum
pub sum_below_bit_reversal : (k : ℕ) (f : ℕ → ℤ) → sum_below (2 ^ k) (λ j. f (bit_reversal k j)) ≡ sum_below (2 ^ k) f
unfolding bit_reversal sum_below
sum_below_bit_reversal zero f = refl
sum_below_bit_reversal (suc k) f =
    ap (λ n. sum_below n (λ j. f (bit_reversal (suc k) j))) (double k)
    ∙ sum_below_odd_even (2 ^ k) (λ j. f (bit_reversal (suc k) j))
    ∙ ap₂ ◌+ℤ◌
    (sum_below_ext (2 ^ k) (λ i. f (bit_reversal (suc k) (2 * i))) (λ i. f (bit_reversal k i)) (λ i l. ap f (bit_reversal_even k i))
    ∙ sum_below_bit_reversal k f)
    (sum_below_ext (2 ^ k) (λ i. f (bit_reversal (suc k) (2 * i + 1))) (λ i. f (2 ^ k + bit_reversal k i)) (λ i l. ap f (bit_reversal_odd k i))
    ∙ sum_below_bit_reversal k (λ j. f (2 ^ k + j)))
    ∙ sym (sum_below_split (2 ^ k) (2 ^ k) f)
    ∙ ap (λ n. sum_below n f) (sym (double k))
  where
    double : (k : ℕ) → 2 ^ suc k ≡ 2 ^ k + 2 ^ k
    double k = omega arith

-- it has k digits again
pub bit_reversal_lt : (k j : ℕ) → bit_reversal k j < 2 ^ k
unfolding bit_reversal
bit_reversal_lt zero j = omega arith
bit_reversal_lt (suc k) j =
    let h = bit_reversal_lt k (j / 2) in let l : j % 2 ≤ 1 = omega arith in let a : j % 2 * 2 ^ k ≤ 1 * 2 ^ k = mul-le-mul_right (2 ^ k) l in omega arith

-- the highest digit goes to the bottom
pub bit_reversal_top : (k i b : ℕ) → i < 2 ^ k → b ≤ 1 → bit_reversal (suc k) (b * 2 ^ k + i) ≡ 2 * bit_reversal k i + b
unfolding bit_reversal
bit_reversal_top zero i b l h = by b h (let e : i ≡ 0 = omega arith in e)
  where
    by : (b : ℕ) → b ≤ 1 → i ≡ 0 → (b * 1 + i) % 2 * 1 + 0 ≡ 2 * 0 + b
    by b h e = omega arith
bit_reversal_top (suc k) i b l h =
    ap₂ (λ r q. r * 2 ^ suc k + bit_reversal (suc k) q) (low (2 ^ k) (2 ^ suc k) b i (double k)) (high (2 ^ k) (2 ^ suc k) b i (double k))
    ∙ ap (λ y. i % 2 * 2 ^ suc k + y) (bit_reversal_top k (i / 2) b (omega arith) h)
    ∙ out (i % 2) (2 ^ k) (2 ^ suc k) (bit_reversal k (i / 2)) b (double k)
  where
    double : (k : ℕ) → 2 ^ suc k ≡ 2 * 2 ^ k
    double k = omega arith

    spread : (p q b : ℕ) → q ≡ 2 * p → b * q ≡ 2 * (b * p)
    spread p q b e = ap (λ q. b * q) e ∙ turn p b
      where
        turn : (p b : ℕ) → b * (2 * p) ≡ 2 * (b * p)
        turn p b = omega arith

    low : (p q b i : ℕ) → q ≡ 2 * p → (b * q + i) % 2 ≡ i % 2
    low p q b i e = let a = spread p q b e in omega arith

    high : (p q b i : ℕ) → q ≡ 2 * p → (b * q + i) / 2 ≡ b * p + i / 2
    high p q b i e = let a = spread p q b e in omega arith

    out : (r p q y b : ℕ) → q ≡ 2 * p → r * q + (2 * y + b) ≡ 2 * (r * p + y) + b
    out r p q y b e = let a = spread p q r e in omega arith

-- reversed twice a number is itself again
pub bit_reversal_twice : (k j : ℕ) → j < 2 ^ k → bit_reversal k (bit_reversal k j) ≡ j
unfolding bit_reversal
bit_reversal_twice zero j l = omega arith
bit_reversal_twice (suc k) j l =
    bit_reversal_top k (bit_reversal k (j / 2)) (j % 2) (bit_reversal_lt k (j / 2)) (omega arith)
    ∙ ap (λ y. 2 * y + j % 2) (bit_reversal_twice k (j / 2) (omega arith)) ∙ halves j
  where
    halves : (j : ℕ) → 2 * (j / 2) + j % 2 ≡ j
    halves j = omega arith
