-- The numbers that operations use.
use Rattle.std.proofs.Common.{◌≡◌, ℕ, ◌-◌, ◌*◌, ◌<◌, min, refl, ap, ◌∙◌, arith, pos, ◌-ℤ◌, nat_abs, mod-eq_of_lt, Bool, true, false, cond, nat_le, leb-true, leb-false}
use Rattle.std.proofs.lemmas.Int.{ints}
use Rattle.set_table.specs.declared.SetName.{SetName}
use Rattle.set_table.specs.declared.SetName.TheVariants.{One16, Toy16, S4096, S8192, S16384}
use Rattle.set_table.specs.Sets.{plain_of}
use Rattle.ring_law.specs.Residues.{centred_residue, nearest_to_zero}
use Rattle.bound_num.specs.Bound.{digits_within, bit_length, spacing, up}

-- the residue nearest to 0 of a number below the modulus
pub nat_abs-centred_residue : (t k : ℕ) → k < t → nat_abs (centred_residue t (pos k)) ≡ min k (t - k)
unfolding centred_residue
nat_abs-centred_residue t k below = ap (λ r. nat_abs (nearest_to_zero t r)) (mod-eq_of_lt below) ∙ by (nat_le (2 * k) t) refl
  where
    by : (test : Bool) → nat_le (2 * k) t ≡ test → nat_abs (cond test (pos k) (pos k -ℤ pos t)) ≡ min k (t - k)
    by true is = let low = leb-true (2 * k) t is in omega (arith, ints)
    by false is = let high = leb-false (2 * k) t is in omega (arith, ints)

-- a plaintext modulus is a mantissa
pub up-plain : (set : SetName) → up (plain_of set) ≡ plain_of set
unfolding up spacing bit_length digits_within
up-plain One16 = refl
up-plain Toy16 = refl
up-plain S4096 = refl
up-plain S8192 = refl
up-plain S16384 = refl
