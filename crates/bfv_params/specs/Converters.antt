-- The conversions between the bases of a set at a level (Bajard, Eynard, Hasan and Zucca 2016).
use Rattle.std.specs.Prelude.{ℕ, [], ◌∷◌, Option}
use Rattle.std.specs.Option.{option_map}
use Rattle.set_table.specs.declared.SetName.{SetName}
use Rattle.set_table.specs.Sets.{aux_of, plain_of, special_of, m_sk, gamma}
use Rattle.fast_conv.specs.Converters.{Conversion, ScaledConversion, ExactConversion, ModulusDrop}
use Rattle.bfv_params.specs.Moduli.{data_at, wide_of}

-- the lift of a part of a product's operand
abbrev pub lift_at : SetName → ℕ → Conversion
lift_at set level = record { from = data_at set level; to = wide_of set }

-- the division of t times a product by q
abbrev pub floor_at : SetName → ℕ → ScaledConversion
floor_at set level = record { from = data_at set level; to = wide_of set; factor = plain_of set }

-- the way back of a product
abbrev pub back_at : SetName → ℕ → ExactConversion
back_at set level = record { base = aux_of set; sk = m_sk; to = data_at set level }

-- the conversion of decryption
abbrev pub plain_at : SetName → ℕ → Conversion
plain_at set level = record { from = data_at set level; to = plain_of set ∷ gamma ∷ [] }

-- the division by the special modulus P that ends key switching
abbrev pub drop_at : SetName → ℕ → ℕ → ModulusDrop
drop_at set level P = record { kept = data_at set level; dropped = P }

-- the same where the set has one
abbrev pub special_drop_at : SetName → ℕ → Option ModulusDrop
special_drop_at set level = option_map (drop_at set level) (special_of set)
