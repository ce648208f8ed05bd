-- Lists of two halves, turned and exchanged.
use Rattle.std.specs.Prelude.{ℕ, ◌+◌, ◌*◌, ◌/◌, ◌%◌, List, slice_index}
use Rattle.ring_law.specs.Sums.{values_below}

-- both halves of a list turned left by `step`, each half having so many values
unfoldable pub turned_left : ℕ → ℕ → List ℕ → List ℕ
turned_left half step values = values_below (half + half) (λ i. slice_index values (i / half * half + (i % half + step) % half))

-- the two halves of a list in each other's place
unfoldable pub exchanged : ℕ → List ℕ → List ℕ
exchanged half values = values_below (half + half) (λ i. slice_index values ((i + half) % (half + half)))
