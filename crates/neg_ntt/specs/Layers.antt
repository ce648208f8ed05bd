-- The layers of a transform with given parameters.
use Rattle.std.specs.Prelude.{ℕ, ◌≡◌, ◌*◌, ◌%◌, ◌^◌, ◌<◌, List, length}
use Rattle.word_mod.specs.declared.Factor.{Factor}
use Rattle.lane_rows.specs.Butterflies.{IsButterfly, IsButterflyBack, IsScaledButterflyBack}
use Rattle.neg_ntt.specs.Butterflies.{EachBlock}
use Rattle.neg_ntt.specs.Parameters.{Parameters, inverse_root, layer_half, layer_root}
use Rattle.neg_ntt.specs.Roots.{factor_at, factor_of}

-- two blocks were made of each of 2^s
abbrev pub IsSplit : Parameters → ℕ → List ℕ → List ℕ → Type 0
IsSplit t s old new = EachBlock (λ i. IsButterfly t.modulus (layer_root t.root t s i)) (2 ^ s) (layer_half t s) old new

-- 2^s blocks were made, each of two
abbrev pub IsJoined : ℕ → Parameters → ℕ → List ℕ → List ℕ → Type 0
IsJoined n t s old new = EachBlock (λ i. IsButterflyBack t.modulus (layer_root (inverse_root n t) t s i)) (2 ^ s) (layer_half t s) old new

-- the one block was made, of two, and all words multiplied by the inverse of n
pub record IsJoinedLast (n : ℕ) (t : Parameters) (old new : List ℕ) : Type 0 where
  pub scale : ℕ
  pub is_inverse : scale * n % t.modulus ≡ 1
  pub pairs : EachBlock (λ i. IsScaledButterflyBack t.modulus scale (scale * layer_root (inverse_root n t) t 0 i % t.modulus)) (2 ^ 0) (layer_half t 0) old new

-- the factors of the blocks where there are 2^s, of the root x or of its inverse
pub record AreLayerRoots (t : Parameters) (x s : ℕ) (factors : List Factor) : Type 0 where
  pub len : length factors ≡ 2 ^ s
  pub at : (i : ℕ) → i < 2 ^ s → factor_at factors i ≡ factor_of t.modulus (layer_root x t s i)
