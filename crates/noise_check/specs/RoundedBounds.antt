-- The same bounds, rounded up after each operation to numbers that have the form of a bound.
use Rattle.std.specs.Prelude.{ℕ, ◌+◌, ◌*◌, ◌/◌, List, length, slice_index}
use Rattle.set_table.specs.declared.SetName.{SetName}
use Rattle.set_table.specs.Sets.{degree_of, plain_of, data_of}
use Rattle.bound_num.specs.Bound.{up}
use Rattle.noise_check.specs.ExactBounds.{constant_size, switch_noise}
use Rattle.script_text.specs.declared.script.Op.{Op}
use Rattle.script_text.specs.declared.script.Op.TheVariants.{Add, Sub, Neg, AddPlain, SubPlain, MulPlain, MulConst, Mul, Relin, Turn, Swap}
use Rattle.script_text.specs.Scripts.{Script, registers}

-- of the product of two ciphers: n is the degree, t the plaintext modulus, L the number of data moduli
abbrev pub rounded_product_bound : ℕ → ℕ → ℕ → ℕ → ℕ → ℕ
rounded_product_bound n t L bound other = up (up (up (bound + other) * (n * t * (n / 2 + 3))) + up (t * L * (1 + n + n * n)))

-- the bound of an operation's result, by the bounds of the registers before it
abbrev pub rounded_bound : SetName → List ℕ → Op → ℕ
rounded_bound set bounds (Add a b) = up (slice_index bounds a + slice_index bounds b)
rounded_bound set bounds (Sub a b) = up (slice_index bounds a + slice_index bounds b)
rounded_bound set bounds (Neg a) = slice_index bounds a
rounded_bound set bounds (AddPlain a p) = up (slice_index bounds a + plain_of set)
rounded_bound set bounds (SubPlain a p) = up (slice_index bounds a + plain_of set)
rounded_bound set bounds (MulPlain a p) = up (slice_index bounds a * (degree_of set * (plain_of set / 2)))
rounded_bound set bounds (MulConst a k) = up (slice_index bounds a * constant_size set k)
rounded_bound set bounds (Mul a b) = rounded_product_bound (degree_of set) (plain_of set) (length (data_of set)) (slice_index bounds a) (slice_index bounds b)
rounded_bound set bounds (Relin a) = up (slice_index bounds a + up (switch_noise set))
rounded_bound set bounds (Turn a k) = up (slice_index bounds a + up (switch_noise set))
rounded_bound set bounds (Swap a) = up (slice_index bounds a + up (switch_noise set))

-- the bounds of all registers, where those of the cipher inputs are given
unfoldable pub rounded_bounds : Script → List ℕ → List ℕ
rounded_bounds script inputs = registers (rounded_bound script.set) inputs script.steps
