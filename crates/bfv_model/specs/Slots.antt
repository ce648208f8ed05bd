-- The slots of a plaintext: its values at the odd powers of a root, in the order that turns both halves at once.
use Rattle.std.specs.Prelude.{ℕ, ◌-◌, ◌*◌, ◌/◌, ◌%◌, ◌^◌, ℤ, List, nat_lt, if◌then◌else◌}
use Rattle.set_table.specs.declared.SetName.{SetName}
use Rattle.set_table.specs.Sets.{degree_of, plain_of}
use Rattle.set_table.specs.Roots.{plain_root_of}
use Rattle.ring_law.specs.Sums.{values_below}
use Rattle.ring_law.specs.Residues.{residue}
use Rattle.ring_law.specs.Transform.{evaluation, bit_reversal}

-- the power of the root for slot i: 3^i in the first half, and -(3^i) for slot n/2 + i, where 2n - 1 is -1 modulo 2n
unfoldable pub slot_power : ℕ → ℕ → ℕ
slot_power n i = if nat_lt i (n / 2) then 3 ^ i else (2 * n - 1) * 3 ^ (i - n / 2)

-- slot i of m: its value there, modulo t
unfoldable pub slot : ℕ → ℕ → ℕ → (ℕ → ℤ) → ℕ → ℕ
slot n t root m i = residue t (evaluation n root (slot_power n i) m)

-- the n slots of m
unfoldable pub slots : ℕ → ℕ → ℕ → (ℕ → ℤ) → List ℕ
slots n t root m = values_below n (slot n t root m)

-- the slots of m in a set, by the root of its plaintext modulus
abbrev pub slots_of : SetName → (ℕ → ℤ) → List ℕ
slots_of set m = slots (degree_of set) (plain_of set) (plain_root_of set) m

-- the entry of the transform of a plaintext that is its slot i, where n is 2^k
unfoldable pub slot_place : ℕ → ℕ → ℕ
slot_place k i = bit_reversal k (slot_power (2 ^ k) i % (2 * 2 ^ k) / 2)
