-- The rows that a product of ciphers is computed in: those of a part are under the data moduli, and then under the auxiliary base B
-- and the modulus beside it.
use Rattle.std.specs.Prelude.{◌≡◌, ℕ, zero, suc, ◌+◌, ◌*◌, ◌%◌, ◌<◌, ℤ, List, [], Some, length, map, ◌++◌, slice_get, slice_index, slice_index_or}
use Rattle.set_table.specs.Sets.{plain_of, m_tilde}
use Rattle.ring_law.specs.Polynomials.{AllWithin, ring_product, ring_sum}
use Rattle.ring_law.specs.Rows.{Represents, RowRepresents, WordsRepresent}
use Rattle.neg_ntt.specs.Parameters.{IsTransformBy, Parameters}
use Rattle.bfv_model.specs.Conversions.{IsMontgomeryLift, IsScaledQuotient}
use Rattle.bfv_model.specs.Holds.{listed_word}
use Rattle.bfv_params.specs.Contexts.{data_in, modulus_in}
use Rattle.bfv_params.specs.Moduli.{wide_of}
use Rattle.bfv_params.specs.Transforms.{transform_of}
use Rattle.bfv_params.specs.Values.{CipherValue, ContextValue}

-- these moduli
abbrev pub product_moduli : ContextValue → List ℕ
product_moduli ctx = data_in ctx ++ wide_of ctx.set

-- the transforms modulo each of them
abbrev pub product_transforms : ContextValue → List Parameters
product_transforms ctx = map (transform_of ctx.set) (product_moduli ctx)

-- the number of rows of a part
abbrev pub part_rows : ContextValue → ℕ
part_rows ctx = ctx.level + length (wide_of ctx.set)

-- ---- factors
-- the rows of two parts are the transforms of x_0 and x_1
abbrev pub ArePairTransforms : ContextValue → List (List ℕ) → (ℕ → ℕ → ℤ) → Type 0
ArePairTransforms ctx rows x = (j i : ℕ) (t : Parameters) → j < 2 → slice_get (product_transforms ctx) i ≡ Some t
    → IsTransformBy t (slice_index_or rows (j * part_rows ctx + i) []) (x j)

-- the rows of two parts are the transforms of lifts of the first two parts of a cipher with these words
pub record AreLiftedParts (n : ℕ) (ctx : ContextValue) (word : ℕ → ℕ → ℕ → ℕ) (rows : List (List ℕ)) : Type 0 where
  pub part : ℕ → ℕ → ℤ
  pub lifted : ℕ → ℕ → ℤ
  pub represents : (j : ℕ) → j < 2 → WordsRepresent n (data_in ctx) (word j) (part j)
  pub lifts : (j : ℕ) → j < 2 → IsMontgomeryLift n (modulus_in ctx) m_tilde (length (data_in ctx)) (part j) (lifted j)
  pub transforms : ArePairTransforms ctx rows lifted

-- ---- products
-- the three parts of the product of x_0, x_1 and y_0, y_1
abbrev pub product_part : ℕ → (ℕ → ℕ → ℤ) → (ℕ → ℕ → ℤ) → ℕ → ℕ → ℤ
product_part n x y zero = ring_product n (x 0) (y 0)
product_part n x y (suc zero) = ring_sum (ring_product n (x 0) (y 1)) (ring_product n (x 1) (y 0))
product_part n x y (suc (suc j)) = ring_product n (x 1) (y 1)

-- three rows have the residues modulo q of the products of the words of two pairs of rows, those of the two in the middle added
pub record AreWordProducts (q count : ℕ) (a0 a1 b0 b1 d0 d1 d2 : List ℕ) : Type 0 where
  pub first : (k : ℕ) → k < count → slice_index d0 k ≡ slice_index a0 k * slice_index b0 k % q
  pub middle : (k : ℕ) → k < count → slice_index d1 k ≡ (slice_index a0 k * slice_index b1 k + slice_index a1 k * slice_index b0 k) % q
  pub last : (k : ℕ) → k < count → slice_index d2 k ≡ slice_index a1 k * slice_index b1 k % q

-- three rows represent the products of the polynomials that have two pairs of rows as their transforms
abbrev pub AreProductRows : ℕ → Parameters → List ℕ → List ℕ → List ℕ → List ℕ → List ℕ → List ℕ → List ℕ → Type 0
AreProductRows n t a0 a1 b0 b1 d0 d1 d2 = (x y : ℕ → ℕ → ℤ) → IsTransformBy t a0 (x 0) → IsTransformBy t a1 (x 1) → IsTransformBy t b0 (y 0)
    → IsTransformBy t b1 (y 1)
    → RowRepresents n t.modulus d0 (product_part n x y 0) × RowRepresents n t.modulus d1 (product_part n x y 1)
    × RowRepresents n t.modulus d2 (product_part n x y 2)

-- ---- scaling
-- the rows represent a polynomial whose coefficients are at most n*q*q in absolute value
pub record IsSmallPart (n : ℕ) (ctx : ContextValue) (rows : List (List ℕ)) : Type 0 where
  pub part : ℕ → ℤ
  pub small : AllWithin n (n * (modulus_in ctx * modulus_in ctx)) part
  pub represents : Represents n (product_moduli ctx) rows part

-- so do those of each of three parts
pub record AreSmallParts (n : ℕ) (ctx : ContextValue) (rows : List (List ℕ)) : Type 0 where
  pub part : ℕ → ℕ → ℤ
  pub small : (j : ℕ) → j < 3 → AllWithin n (n * (modulus_in ctx * modulus_in ctx)) (part j)
  pub represents : (j : ℕ) → j < 3 → WordsRepresent n (product_moduli ctx) (listed_word (part_rows ctx) rows j) (part j)

-- part j of the cipher represents t*d / q, up to a small rest
pub record IsScaledPart (n : ℕ) (ctx : ContextValue) (cipher : CipherValue) (j : ℕ) (d : ℕ → ℤ) : Type 0 where
  pub quotient : ℕ → ℤ
  pub scaled : IsScaledQuotient n (modulus_in ctx) (plain_of ctx.set) (length (data_in ctx)) d quotient
  pub represents : WordsRepresent n (data_in ctx) (listed_word ctx.level cipher.rows j) quotient
