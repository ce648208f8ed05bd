-- Rows of words that go through a list of moduli again and again, as the parts of a cipher or a key do.
use Rattle.std.specs.Prelude.{◌≡◌, ◌⊎◌, ℕ, ◌+◌, ◌%◌, ◌<◌, ◌≤◌, List, [], length, slice_index, slice_index_or}
use Rattle.ring_law.specs.Rows.{IsReduced, word_at}

-- row i is below the modulus at i in the first `count` of the list, which begin anew after the last of them
abbrev pub ReducedInTurn : ℕ → ℕ → List ℕ → List (List ℕ) → Type 0
ReducedInTurn n count moduli rows = (i : ℕ) → i < length rows → IsReduced n (slice_index moduli (i % count)) (slice_index_or rows i [])

-- the rows from a place on are zero
abbrev pub ZeroFrom : ℕ → ℕ → List (List ℕ) → Type 0
ZeroFrom n start rows = (i k : ℕ) → start ≤ i → i < length rows → k < n → word_at rows i k ≡ 0

-- the first `count` rows of `source` were written from the place `start` on, and the others are as they were
pub record ArePartlyWritten (start count : ℕ) (source old new : List (List ℕ)) : Type 0 where
  pub written : (i : ℕ) → i < count → slice_index_or new (start + i) [] ≡ slice_index_or source i []
  pub others : (i : ℕ) → (i < start) ⊎ (start + count ≤ i) → slice_index_or new i [] ≡ slice_index_or old i []
