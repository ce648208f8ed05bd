-- The numbers of the sets.
use Rattle.std.proofs.Common.{length, lit<, refl, slice_index, ℕ, ◌<◌}
use Rattle.set_table.specs.declared.SetName.{SetName}
use Rattle.set_table.specs.declared.SetName.TheVariants.{One16, S16384, S4096, S8192, Toy16}
use Rattle.set_table.specs.Sets.{data_of, degree_of, plain_of}
use Rattle.ring_law.specs.Moduli.{AllAboveOne}
use Rattle.ring_law.proofs.Moduli.{PairwiseInvertible, positive_from_above_one}
use Rattle.ring_law.proofs.ModuliTests.{AllAboveOne-from_test, PairwiseInvertible-from_test}

-- a degree is positive and below 2^15
pub degree_pos : (set : SetName) → 0 < degree_of set
degree_pos One16 = lit< tt
degree_pos Toy16 = lit< tt
degree_pos S4096 = lit< tt
degree_pos S8192 = lit< tt
degree_pos S16384 = lit< tt

-- a degree is below 2^15, and there are at most eight data moduli
pub degree_lt : (set : SetName) → degree_of set < 32768
degree_lt One16 = lit< tt
degree_lt Toy16 = lit< tt
degree_lt S4096 = lit< tt
degree_lt S8192 = lit< tt
degree_lt S16384 = lit< tt

pub data_count_pos : (set : SetName) → 0 < length (data_of set)
data_count_pos One16 = lit< tt
data_count_pos Toy16 = lit< tt
data_count_pos S4096 = lit< tt
data_count_pos S8192 = lit< tt
data_count_pos S16384 = lit< tt

pub data_count_lt : (set : SetName) → length (data_of set) < 9
data_count_lt One16 = lit< tt
data_count_lt Toy16 = lit< tt
data_count_lt S4096 = lit< tt
data_count_lt S8192 = lit< tt
data_count_lt S16384 = lit< tt

pub plain_pos : (set : SetName) → 0 < plain_of set
plain_pos One16 = lit< tt
plain_pos Toy16 = lit< tt
plain_pos S4096 = lit< tt
plain_pos S8192 = lit< tt
plain_pos S16384 = lit< tt

pub PairwiseInvertible-data_of : (set : SetName) → PairwiseInvertible (data_of set)
PairwiseInvertible-data_of One16 = PairwiseInvertible-from_test (data_of One16) refl
PairwiseInvertible-data_of Toy16 = PairwiseInvertible-from_test (data_of Toy16) refl
PairwiseInvertible-data_of S4096 = PairwiseInvertible-from_test (data_of S4096) refl
PairwiseInvertible-data_of S8192 = PairwiseInvertible-from_test (data_of S8192) refl
PairwiseInvertible-data_of S16384 = PairwiseInvertible-from_test (data_of S16384) refl

pub AllAboveOne-data_of : (set : SetName) → AllAboveOne (data_of set)
AllAboveOne-data_of One16 = AllAboveOne-from_test (data_of One16) refl
AllAboveOne-data_of Toy16 = AllAboveOne-from_test (data_of Toy16) refl
AllAboveOne-data_of S4096 = AllAboveOne-from_test (data_of S4096) refl
AllAboveOne-data_of S8192 = AllAboveOne-from_test (data_of S8192) refl
AllAboveOne-data_of S16384 = AllAboveOne-from_test (data_of S16384) refl

pub data_modulus_pos : (set : SetName) (i : ℕ) → i < length (data_of set) → 0 < slice_index (data_of set) i
data_modulus_pos set i row = positive_from_above_one (slice_index (data_of set) i) (AllAboveOne-data_of set i row)
