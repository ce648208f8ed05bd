-- Rows that are written sample by sample.
use Rattle.std.proofs.Common.{ℕ, ◌+◌, ◌<◌, ◌≡◌, ◌≢◌, List, length, set, get_or, below_more, get_or-set_same, get_or-set_other, arith, subst, sym}

-- one sample more, of which the same is known
pub samples-each : {A : Type 0} (P : ℕ → A → Type 0) (row : List A) (i : ℕ) (value d : A) → i < length row → P i value
    → ((k : ℕ) → k < i → P k (get_or row k d)) → (k : ℕ) → k < i + 1 → P k (get_or (set row i value) k d)
samples-each P row i value d inside here before = below_more (λ k. P k (get_or (set row i value) k d)) i
    (λ k below. let other : k ≢ i = omega arith in subst (P k) (sym (get_or-set_other row i k value d other)) (before k below))
    (subst (P i) (sym (get_or-set_same row i value d inside)) here)

-- one sample more
pub samples-more : {A : Type 0} (sample : ℕ → A) (row : List A) (i : ℕ) (value d : A) → i < length row → value ≡ sample i
    → ((k : ℕ) → k < i → get_or row k d ≡ sample k) → (k : ℕ) → k < i + 1 → get_or (set row i value) k d ≡ sample k
samples-more sample row i value d inside here before = samples-each (λ k x. x ≡ sample k) row i value d inside here before
