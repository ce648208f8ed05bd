-- Rows of words, and the polynomials that they represent (Bajard, Eynard, Hasan and Zucca 2016).
use Rattle.std.specs.Prelude.{◌≡◌, ℕ, ◌<◌, ℤ, pos, List, [], length, slice_index, slice_index_or}
use Rattle.ring_law.specs.Residues.{residue}

-- the polynomial whose coefficients are natural numbers, as those of a plaintext
abbrev pub natural_polynomial : (ℕ → ℕ) → ℕ → ℤ
natural_polynomial m k = pos (m k)

-- the polynomial whose coefficients are the words of a row
abbrev pub row_polynomial : List ℕ → ℕ → ℤ
row_polynomial row k = pos (slice_index row k)

-- the polynomial whose coefficients are listed
abbrev pub listed_polynomial : List ℤ → ℕ → ℤ
listed_polynomial a k = slice_index_or a k (pos 0)

-- word k of row i
abbrev pub word_at : List (List ℕ) → ℕ → ℕ → ℕ
word_at rows i k = slice_index (slice_index_or rows i []) k

-- each of the n words of the row is below q
abbrev pub IsReduced : ℕ → ℕ → List ℕ → Type 0
IsReduced n q row = (k : ℕ) → k < n → slice_index row k < q

-- one row represents x modulo q: word k is the residue of coefficient x_k
abbrev pub RowRepresents : ℕ → ℕ → List ℕ → (ℕ → ℤ) → Type 0
RowRepresents n q row x = (k : ℕ) → k < n → slice_index row k ≡ residue q (x k)

-- word k of row i is the residue of coefficient x_k modulo modulus i, the words being given by a function
abbrev pub WordsRepresent : ℕ → List ℕ → (ℕ → ℕ → ℕ) → (ℕ → ℤ) → Type 0
WordsRepresent n moduli word x = (i k : ℕ) → i < length moduli → k < n → word i k ≡ residue (slice_index moduli i) (x k)

-- the rows, one for each modulus, represent the polynomial x of n coefficients
abbrev pub Represents : ℕ → List ℕ → List (List ℕ) → (ℕ → ℤ) → Type 0
Represents n moduli rows x = WordsRepresent n moduli (word_at rows) x
