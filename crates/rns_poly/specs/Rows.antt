-- Rows of words under a list of moduli, one modulus for each row (Bajard, Eynard, Hasan and Zucca 2016).
use Rattle.std.specs.Prelude.{◌≡◌, ℕ, ◌<◌, ℤ, pos, ◌*ℤ◌, List, [], ◌++◌, length, take, drop, slice_index, slice_index_or}
use Rattle.ring_law.specs.Residues.{residue}
use Rattle.ring_law.specs.Rows.{IsReduced, word_at}

-- each of the n words of row i is below modulus i
abbrev pub AreReduced : ℕ → List ℕ → List (List ℕ) → Type 0
AreReduced n moduli rows = (i : ℕ) → i < length moduli → IsReduced n (slice_index moduli i) (slice_index_or rows i [])

-- row i represents the polynomial x_i of n coefficients modulo modulus i. Where all x_i are one polynomial, the rows
-- represent it
abbrev pub EachRepresents : ℕ → List ℕ → List (List ℕ) → (ℕ → ℕ → ℤ) → Type 0
EachRepresents n moduli rows x = (i k : ℕ) → i < length moduli → k < n → word_at rows i k ≡ residue (slice_index moduli i) (x i k)

-- the product coefficient by coefficient
abbrev pub entrywise_product : (ℕ → ℤ) → (ℕ → ℤ) → ℕ → ℤ
entrywise_product x y k = x k *ℤ y k

-- c times x
abbrev pub multiple : ℕ → (ℕ → ℤ) → ℕ → ℤ
multiple c x k = pos c *ℤ x k

-- the rows with others written over them from the front
abbrev pub written_over : List (List ℕ) → List (List ℕ) → List (List ℕ)
written_over rows others = take (length rows) (others ++ drop (length others) rows)
