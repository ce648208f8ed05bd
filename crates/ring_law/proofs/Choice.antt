-- Values that are there at each place, as one function.
use Rattle.std.proofs.Common.{ℕ, ◌<◌, ◌≤◌, arith, ◌⊎◌, inl, inr}
use Rattle.std.proofs.lemmas.Bool.{cases_lt}

-- numbers that are there at each place below n, as one function
pub choose : {A : Type 0} (n : ℕ) (P : ℕ → A → Type 0) (d : A) → ((k : ℕ) → k < n → (a : A) × P k a) → (f : ℕ → A) × ((k : ℕ) → k < n → P k (f k))
choose {A} n P d h = (λ k. pick k (cases_lt k n), λ k l. good k l (cases_lt k n))
  where
    pick : (k : ℕ) → (k < n) ⊎ (n ≤ k) → A
    pick k (inl l) = (h k l).0
    pick k (inr l) = d

    good : (k : ℕ) → k < n → (c : (k < n) ⊎ (n ≤ k)) → P k (pick k c)
    good k l (inl m) = (h k m).1
    good k l (inr m) = absurd (omega arith)
