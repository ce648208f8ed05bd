-- What a context keeps: its parts are those of its set at its level.
use Rattle.std.specs.Prelude.{◌≡◌, ℕ, ◌<◌, ◌≤◌, List, length, map}
use Rattle.set_table.specs.declared.SetName.{SetName}
use Rattle.set_table.specs.Sets.{data_of, plain_of, gamma}
use Rattle.neg_ntt.specs.Parameters.{Parameters}
use Rattle.bfv_params.specs.Moduli.{data_at, key_at, wide_of}
use Rattle.bfv_params.specs.Transforms.{transform_of}
use Rattle.bfv_params.specs.Converters.{lift_at, floor_at, back_at, plain_at, special_drop_at}
use Rattle.bfv_params.specs.declared.moduli.Moduli.{Moduli}
use Rattle.bfv_params.specs.declared.converters.Converters.{Converters}

pub record HasModuli (set : SetName) (level : ℕ) (m : Moduli) : Type 0 where
  pub some : 0 < level
  pub within : level ≤ length (data_of set)
  pub base_is : m.base ≡ data_at set level
  pub keys_are : m.keys.items ≡ key_at set level
  pub wide_is : m.wide.items ≡ wide_of set
  pub plain_is : m.plain ≡ plain_of set
  pub gamma_is : m.gamma ≡ gamma

pub record HasTransforms (set : SetName) (level : ℕ) (keys wide : List Parameters) (plain : Parameters) : Type 0 where
  pub keys_are : keys ≡ map (transform_of set) (key_at set level)
  pub wide_is : wide ≡ map (transform_of set) (wide_of set)
  pub plain_is : plain ≡ transform_of set (plain_of set)

pub record HasConverters (set : SetName) (level : ℕ) (c : Converters) : Type 0 where
  pub lift_is : c.lift ≡ lift_at set level
  pub floor_is : c.floor ≡ floor_at set level
  pub back_is : c.back ≡ back_at set level
  pub plain_is : c.plain ≡ plain_at set level
  pub special_is : c.special ≡ special_drop_at set level
