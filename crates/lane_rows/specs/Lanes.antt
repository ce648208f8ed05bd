use Rattle.std.specs.Prelude.{ℕ, ◌≡◌, ◌<◌, List, length, slice_index}

-- a vector of four lanes, the lane at each place given by the function
pub record HasLanes (vector : List ℕ) (lane : ℕ → ℕ) : Type 0 where
  pub len : length vector ≡ 4
  pub at : (i : ℕ) → i < 4 → slice_index vector i ≡ lane i

-- a vector of four lanes, each below the bound
pub record LanesBelow (bound : ℕ) (vector : List ℕ) : Type 0 where
  pub len : length vector ≡ 4
  pub below : (i : ℕ) → i < 4 → slice_index vector i < bound
