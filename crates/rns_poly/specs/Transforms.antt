-- Rows and transforms, one transform for each row.
use Rattle.std.specs.Prelude.{◌≡◌, ℕ, ℤ, List, [], Some, map, slice_get, slice_index_or}
use Rattle.neg_ntt.specs.Parameters.{IsTransformBy, Parameters}

-- the modulus of each transform
abbrev pub moduli_of : List Parameters → List ℕ
moduli_of transforms = map (λ t. t.modulus) transforms

-- row i is what transform i makes of the polynomial x_i
abbrev pub AreTransforms : List Parameters → List (List ℕ) → (ℕ → ℕ → ℤ) → Type 0
AreTransforms transforms rows x = (i : ℕ) (t : Parameters) → slice_get transforms i ≡ Some t
    → IsTransformBy t (slice_index_or rows i []) (x i)
