-- Names and numbers in texts.
use Rattle.std.specs.Prelude.{ℕ, ◌+◌, ◌*◌, ◌-◌, fold, Bool, false, ◌||◌, ◌&&◌, not, nat_lt, nat_le, ◌==◌, List, [], ◌∷◌, length, codes, slice_index}
use Rattle.std.specs.List.{list_all}
use Rattle.std.specs.Str.{bytes_eq}
use Rattle.std.specs.Char.{is_ascii_digit, is_ascii_lowercase}

-- a byte that may follow in a name
abbrev pub is_name_byte : ℕ → Bool
is_name_byte byte = is_ascii_lowercase byte || is_ascii_digit byte || (byte == 95)

-- a lower-case letter, then at most 31 lower-case letters, digits or `_`; but not `key`
abbrev pub is_name : List ℕ → Bool
is_name [] = false
is_name (byte ∷ bytes) = is_ascii_lowercase byte && list_all is_name_byte bytes && nat_le (length bytes) 31 && not (bytes_eq (byte ∷ bytes) (codes "key"))

-- one to ten digits, the first of which is 0 only where it stands alone
abbrev pub is_number : List ℕ → Bool
is_number word = list_all is_ascii_digit word && nat_lt 0 (length word) && nat_le (length word) 10 && not ((slice_index word 0 == 48) && nat_lt 1 (length word))

-- the number that digits write; leading zeros don't matter
abbrev pub written_number : List ℕ → ℕ
written_number digits = fold (λ so_far digit. 10 * so_far + (digit - 48)) 0 digits

-- a number from one on and below another
abbrev pub is_number_in : ℕ → ℕ → List ℕ → Bool
is_number_in low end word = is_number word && nat_le low (written_number word) && nat_lt (written_number word) end
