-- Layers of butterflies: a row of blocks, and the pairs of words of the halves of each block.
use Rattle.std.specs.Prelude.{ℕ, ◌+◌, ◌*◌, ◌<◌, List, slice_index, take, drop}

-- P holds of each word of the first half, the word at its place in the second half, and what became of both
abbrev pub EachPair : (ℕ → ℕ → ℕ → ℕ → Type 0) → ℕ → List ℕ → List ℕ → Type 0
EachPair P half old new = (r : ℕ) → r < half → P (slice_index old r) (slice_index old (half + r)) (slice_index new r) (slice_index new (half + r))

-- the same of each of the blocks, P being told the number of the block
abbrev pub EachBlock : (ℕ → ℕ → ℕ → ℕ → ℕ → Type 0) → ℕ → ℕ → List ℕ → List ℕ → Type 0
EachBlock P count half old new = (i r : ℕ) → i < count → r < half →
    P i (slice_index old (i * (2 * half) + r)) (slice_index old (i * (2 * half) + (half + r)))
    (slice_index new (i * (2 * half) + r)) (slice_index new (i * (2 * half) + (half + r)))

-- P holds of each of the parts of a width of two rows, and is told the number of the part
abbrev pub EachPart : (ℕ → List ℕ → List ℕ → Type 0) → ℕ → ℕ → List ℕ → List ℕ → Type 0
EachPart P count width old new = (i : ℕ) → i < count → P i (take width (drop (i * width) old)) (take width (drop (i * width) new))

-- the row became the new one by way of a middle row, as P and then Q says
pub record ByMiddleRow (P Q : List ℕ → List ℕ → Type 0) (old new : List ℕ) : Type 0 where
  pub middle : List ℕ
  pub first : P old middle
  pub second : Q middle new
