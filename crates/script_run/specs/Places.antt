-- The ciphers of a workspace, by their places.
use Rattle.std.specs.Prelude.{ℕ, List, [], slice_index_or}
use Rattle.set_table.specs.declared.SetName.TheVariants.{One16}
use Rattle.bfv_params.specs.Values.{CipherValue}

-- no cipher: what stands past the last place
abbrev pub no_cipher : CipherValue
no_cipher = record { set = One16; room = 0; level = 0; parts = 0; rows = [] }

-- the cipher at a place
abbrev pub cipher_at : List CipherValue → ℕ → CipherValue
cipher_at places p = slice_index_or places p no_cipher
