-- What a cipher holds (Fan and Vercauteren 2012, in a form without the quotient of q by t). A polynomial is the function of
-- its coefficients, n is the degree, t the plaintext modulus and q the product of the data moduli.
use Rattle.std.specs.Prelude.{ℕ, ◌+◌, ◌*◌, ◌/◌, ◌%◌, ◌<◌, ℤ, pos, ◌+ℤ◌, ◌-ℤ◌, ◌*ℤ◌, List, slice_index, ◌==◌, if◌then◌else◌}
use Rattle.ring_law.specs.Sums.{values_below}
use Rattle.ring_law.specs.Residues.{centred_residue}
use Rattle.ring_law.specs.Moduli.{product}
use Rattle.ring_law.specs.Polynomials.{ring_product, AllWithin}
use Rattle.ring_law.specs.Rows.{natural_polynomial, WordsRepresent, word_at}

-- x0 + x1*s + x2*s^2
abbrev pub phase : ℕ → (ℕ → ℤ) → (ℕ → ℤ) → (ℕ → ℤ) → (ℕ → ℤ) → ℕ → ℤ
phase n x0 x1 x2 s k = x0 k +ℤ ring_product n x1 s k +ℤ ring_product n x2 (ring_product n s s) k

-- the polynomial 0, which is the third part of a cipher of two
abbrev pub zero_polynomial : ℕ → ℤ
zero_polynomial k = pos 0

-- the cipher with the parts x0, x1, x2 holds the plaintext m under the secret s: t times its phase is q times m, up to
-- noise of at most `bound` modulo t*q
pub record Holds (n q t : ℕ) (x0 x1 x2 s : ℕ → ℤ) (m : ℕ → ℕ) (bound : ℕ) : Type 0 where
  pub plain : (k : ℕ) → k < n → m k < t
  pub near : AllWithin n bound (λ k. centred_residue (t * q) (pos t *ℤ phase n x0 x1 x2 s k -ℤ pos q *ℤ pos (m k)))

-- The same of a cipher in residues: word j i k is word k of row i of its part j, and 0 in a part that it doesn't have. Its
-- parts are the polynomials with coefficients from 0 to q - 1 that these words represent.
pub record CipherHolds (n : ℕ) (moduli : List ℕ) (t : ℕ) (word : ℕ → ℕ → ℕ → ℕ) (s : ℕ → ℤ) (m : ℕ → ℕ) (bound : ℕ) : Type 0 where
  pub part : ℕ → ℕ → ℕ
  pub below : (j k : ℕ) → j < 3 → k < n → part j k < product moduli
  pub represents : (j : ℕ) → j < 3 → WordsRepresent n moduli (word j) (natural_polynomial (part j))
  pub holds : Holds n (product moduli) t (natural_polynomial (part 0)) (natural_polynomial (part 1)) (natural_polynomial (part 2)) s m bound

-- the words of a cipher whose rows are listed, those of its first part first, with `count` rows in a part
abbrev pub listed_word : ℕ → List (List ℕ) → ℕ → ℕ → ℕ → ℕ
listed_word count rows j i k = word_at rows (j * count + i) k

-- the words of a cipher whose words are listed, row after row of n words
abbrev pub stored_word : ℕ → ℕ → List ℕ → ℕ → ℕ → ℕ → ℕ
stored_word n count words j i k = slice_index words ((j * count + i) * n + k)

-- the list of the words of such a cipher of so many parts
abbrev pub listed_words : ℕ → ℕ → ℕ → (ℕ → ℕ → ℕ → ℕ) → List ℕ
listed_words n count parts word = values_below (parts * count * n) (λ place. word (place / n / count) (place / n % count) (place % n))

-- the coefficient that a word of a secret stands for: 2 stands for -1
abbrev pub ternary_coefficient : ℕ → ℤ
ternary_coefficient word = if word == 2 then pos 0 -ℤ pos 1 else pos word

-- the secret whose words are listed
abbrev pub secret_polynomial : List ℕ → ℕ → ℤ
secret_polynomial words k = ternary_coefficient (slice_index words k)

-- the whole number nearest to y / q, and the greater of two that are equally near
abbrev pub nearest_quotient : ℕ → ℕ → ℕ
nearest_quotient y q = (2 * y + q) / (2 * q)
