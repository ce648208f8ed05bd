-- Tables of powers of a root.
use Rattle.std.specs.Prelude.{ℕ, ◌≡◌, ◌-◌, ◌%◌, ◌^◌, ◌<◌, List, length, slice_index_or}
use Rattle.word_mod.specs.Moduli.{shoup_of}
use Rattle.word_mod.specs.declared.Factor.{Factor}
use Rattle.ring_law.specs.Transform.{bit_reversal}

-- the factor w of products modulo q
abbrev pub factor_of : ℕ → ℕ → Factor
factor_of q w = record { w = w; shoup = shoup_of q w }

-- factor i of a list
abbrev pub factor_at : List Factor → ℕ → Factor
factor_at factors i = slice_index_or factors i (record { w = 0; shoup = 0 })

-- each of the factors has its quotient
abbrev pub HaveQuotients : ℕ → List Factor → Type 0
HaveQuotients q factors = (i : ℕ) → i < length factors → (factor_at factors i).shoup ≡ shoup_of q (factor_at factors i).w

-- the negative of the factor at place i from the last one
abbrev pub negative_from_last : ℕ → List Factor → ℕ → ℕ
negative_from_last q factors i = q - (factor_at factors (length factors - 1 - i)).w

-- the quotient of the negative of a factor that isn't 0 is found from that of the factor
pub record HasNegative (q : ℕ) (factor : Factor) : Type 0 where
  pub positive : 0 < factor.w
  pub below : factor.w < q
  pub fits : factor.shoup < 2 ^ 64
  pub shoup : shoup_of q (q - factor.w) ≡ 2 ^ 64 - 1 - factor.shoup

-- this is so of each factor
abbrev pub HaveNegatives : ℕ → List Factor → Type 0
HaveNegatives q factors = (i : ℕ) → i < length factors → HasNegative q (factor_at factors i)

-- the first powers of x modulo q, as many as count says, the exponents being numbers of k binary digits reversed
pub record ArePowersReversed (q k x count : ℕ) (factors : List Factor) : Type 0 where
  pub len : length factors ≡ count
  pub at : (j : ℕ) → j < count → factor_at factors j ≡ factor_of q (x ^ bit_reversal k j % q)
