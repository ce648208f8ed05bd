-- The numbers of each parameter set fit together.
use Rattle.std.proofs.Common.{refl, lit≤, lit<}
use Rattle.set_table.specs.declared.SetName.{SetName}
use Rattle.set_table.specs.declared.SetName.TheVariants.{One16, Toy16, S4096, S8192, S16384}
use Rattle.set_table.specs.Sets.{data_of, key_of, aux_of, moduli_of}
use Rattle.ring_law.specs.Moduli.{product}
use Rattle.res_base.specs.Bases.{IsBase}
use Rattle.res_base.specs.Sizes.{FitTogether}
use Rattle.res_base.proofs.Coprimality.{PairwiseCoprime-from_test}
use Rattle.res_base.proofs.Bases.{is_modulus, All-from_test, IsBase-from_test}

pub fit_together : (set : SetName) → FitTogether set
unfolding product is_modulus
fit_together One16 = record {
  each = All-from_test (moduli_of One16) refl;
  coprime = PairwiseCoprime-from_test (moduli_of One16) refl;
  lift_room = lit≤ tt;
  product_room = lit≤ tt;
  overflow_room = lit≤ tt;
  decrypt_room = lit≤ tt;
}
fit_together Toy16 = record {
  each = All-from_test (moduli_of Toy16) refl;
  coprime = PairwiseCoprime-from_test (moduli_of Toy16) refl;
  lift_room = lit≤ tt;
  product_room = lit≤ tt;
  overflow_room = lit≤ tt;
  decrypt_room = lit≤ tt;
}
fit_together S4096 = record {
  each = All-from_test (moduli_of S4096) refl;
  coprime = PairwiseCoprime-from_test (moduli_of S4096) refl;
  lift_room = lit≤ tt;
  product_room = lit≤ tt;
  overflow_room = lit≤ tt;
  decrypt_room = lit≤ tt;
}
fit_together S8192 = record {
  each = All-from_test (moduli_of S8192) refl;
  coprime = PairwiseCoprime-from_test (moduli_of S8192) refl;
  lift_room = lit≤ tt;
  product_room = lit≤ tt;
  overflow_room = lit≤ tt;
  decrypt_room = lit≤ tt;
}
fit_together S16384 = record {
  each = All-from_test (moduli_of S16384) refl;
  coprime = PairwiseCoprime-from_test (moduli_of S16384) refl;
  lift_room = lit≤ tt;
  product_room = lit≤ tt;
  overflow_room = lit≤ tt;
  decrypt_room = lit≤ tt;
}

-- the data moduli of a set are a base
pub IsBase-data_of : (set : SetName) → IsBase (data_of set)
unfolding is_modulus
IsBase-data_of One16 = IsBase-from_test (data_of One16) (lit< tt) (lit≤ tt) refl refl
IsBase-data_of Toy16 = IsBase-from_test (data_of Toy16) (lit< tt) (lit≤ tt) refl refl
IsBase-data_of S4096 = IsBase-from_test (data_of S4096) (lit< tt) (lit≤ tt) refl refl
IsBase-data_of S8192 = IsBase-from_test (data_of S8192) (lit< tt) (lit≤ tt) refl refl
IsBase-data_of S16384 = IsBase-from_test (data_of S16384) (lit< tt) (lit≤ tt) refl refl

-- and those of its keys
pub IsBase-key_of : (set : SetName) → IsBase (key_of set)
unfolding is_modulus
IsBase-key_of One16 = IsBase-from_test (key_of One16) (lit< tt) (lit≤ tt) refl refl
IsBase-key_of Toy16 = IsBase-from_test (key_of Toy16) (lit< tt) (lit≤ tt) refl refl
IsBase-key_of S4096 = IsBase-from_test (key_of S4096) (lit< tt) (lit≤ tt) refl refl
IsBase-key_of S8192 = IsBase-from_test (key_of S8192) (lit< tt) (lit≤ tt) refl refl
IsBase-key_of S16384 = IsBase-from_test (key_of S16384) (lit< tt) (lit≤ tt) refl refl

-- and its auxiliary moduli
pub IsBase-aux_of : (set : SetName) → IsBase (aux_of set)
unfolding is_modulus
IsBase-aux_of One16 = IsBase-from_test (aux_of One16) (lit< tt) (lit≤ tt) refl refl
IsBase-aux_of Toy16 = IsBase-from_test (aux_of Toy16) (lit< tt) (lit≤ tt) refl refl
IsBase-aux_of S4096 = IsBase-from_test (aux_of S4096) (lit< tt) (lit≤ tt) refl refl
IsBase-aux_of S8192 = IsBase-from_test (aux_of S8192) (lit< tt) (lit≤ tt) refl refl
IsBase-aux_of S16384 = IsBase-from_test (aux_of S16384) (lit< tt) (lit≤ tt) refl refl
