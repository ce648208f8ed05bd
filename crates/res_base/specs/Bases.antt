-- Bases: lists of moduli that are coprime in pairs.
use Rattle.std.specs.Prelude.{ℕ, ◌<◌, ◌≤◌, List, length, slice_index, All}
use Rattle.std.specs.Int.{IsGcd}
use Rattle.word_mod.specs.Moduli.{IsModulus}
use Rattle.ring_law.specs.Moduli.{PairwiseCoprime}

-- one to 32 moduli, no two of which have a common divisor but 1
pub record IsBase (moduli : List ℕ) : Type 0 where
  pub not_empty : 0 < length moduli
  pub few : length moduli ≤ 32
  pub each : All IsModulus moduli
  pub coprime : PairwiseCoprime moduli

-- moduli i and j are coprime
abbrev pub AreCoprime : List ℕ → ℕ → ℕ → Type 0
AreCoprime moduli i j = IsGcd (slice_index moduli i) (slice_index moduli j) 1

-- modulus i is coprime to those after it that stand before the end
abbrev pub CoprimeFromTo : List ℕ → ℕ → ℕ → Type 0
CoprimeFromTo moduli i end = (j : ℕ) → j < end → i < j → AreCoprime moduli i j

-- j is the first place after i whose modulus is not coprime to modulus i
pub record IsNextNotCoprime (moduli : List ℕ) (i j : ℕ) : Type 0 where
  pub ordered : i < j
  pub in_list : j < length moduli
  pub not_coprime : ¬ AreCoprime moduli i j
  pub least : CoprimeFromTo moduli i j

-- i is the first place whose modulus is not coprime to a later one, and j the first such later place
pub record IsFirstNotCoprime (moduli : List ℕ) (i j : ℕ) : Type 0 where
  pub next : IsNextNotCoprime moduli i j
  pub least : (k : ℕ) → k < i → CoprimeFromTo moduli k (length moduli)
