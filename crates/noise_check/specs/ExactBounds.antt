-- Exact bounds on the noise of a script's registers. A bound is a whole number, and no step rounds it.
use Rattle.std.specs.Prelude.{ℕ, ◌+◌, ◌*◌, ◌/◌, pos, nat_abs, List, length, slice_index, unwrap_or}
use Rattle.set_table.specs.declared.SetName.{SetName}
use Rattle.set_table.specs.Sets.{degree_of, plain_of, data_of, special_of}
use Rattle.ring_law.specs.Residues.{centred_residue}
use Rattle.bfv_model.specs.Drawn.{greatest_error}
use Rattle.bfv_model.specs.NoiseBounds.{product_bound, switch_bound}
use Rattle.script_text.specs.declared.script.Op.{Op}
use Rattle.script_text.specs.declared.script.Op.TheVariants.{Add, Sub, Neg, AddPlain, SubPlain, MulPlain, MulConst, Mul, Relin, Turn, Swap}
use Rattle.script_text.specs.Scripts.{Script, registers}

-- the absolute value of what a cipher is multiplied by for the constant k: the residue of k nearest to 0
abbrev pub constant_size : SetName → ℕ → ℕ
constant_size set k = nat_abs (centred_residue (plain_of set) (pos k))

-- what switching a key adds to the noise of a cipher; the number means nothing for a set without a special modulus
abbrev pub switch_noise : SetName → ℕ
switch_noise set = plain_of set * switch_bound (degree_of set) greatest_error (unwrap_or (special_of set) 0) (data_of set)

-- the bound of an operation's result, by the bounds of the registers before it
abbrev pub exact_bound : SetName → List ℕ → Op → ℕ
exact_bound set bounds (Add a b) = slice_index bounds a + slice_index bounds b
exact_bound set bounds (Sub a b) = slice_index bounds a + slice_index bounds b
exact_bound set bounds (Neg a) = slice_index bounds a
exact_bound set bounds (AddPlain a p) = slice_index bounds a + plain_of set
exact_bound set bounds (SubPlain a p) = slice_index bounds a + plain_of set
exact_bound set bounds (MulPlain a p) = degree_of set * (plain_of set / 2) * slice_index bounds a
exact_bound set bounds (MulConst a k) = constant_size set k * slice_index bounds a
exact_bound set bounds (Mul a b) = product_bound (degree_of set) (plain_of set) (length (data_of set)) (slice_index bounds a) (slice_index bounds b)
exact_bound set bounds (Relin a) = slice_index bounds a + switch_noise set
exact_bound set bounds (Turn a k) = slice_index bounds a + switch_noise set
exact_bound set bounds (Swap a) = slice_index bounds a + switch_noise set

-- the bounds of all registers, where those of the cipher inputs are given
unfoldable pub exact_bounds : Script → List ℕ → List ℕ
exact_bounds script inputs = registers (exact_bound script.set) inputs script.steps
