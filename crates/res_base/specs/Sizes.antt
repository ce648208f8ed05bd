-- How the numbers of a parameter set fit together.
use Rattle.std.specs.Prelude.{◌+◌, ◌-◌, ◌*◌, ◌/◌, ◌≤◌, length, All}
use Rattle.set_table.specs.declared.SetName.{SetName}
use Rattle.set_table.specs.Sets.{degree_of, plain_of, data_of, aux_of, moduli_of, m_sk, gamma, m_tilde}
use Rattle.word_mod.specs.Moduli.{IsModulus}
use Rattle.ring_law.specs.Moduli.{product, PairwiseCoprime}

-- what the conversions between the bases of a set need (Bajard, Eynard, Hasan and Zucca 2016). With n, t and q for the degree, the
-- plaintext modulus and the product of the data moduli, and B for the product of the auxiliary base:
--     lift_room        the Montgomery lift leaves at most q * (1 / 2 + 1 / (4 * (1 + n)))
--     product_room     a scaled product of two ciphertexts is at most B * (m_sk / 4)
--     overflow_room    its overflow past B is a centred residue modulo m_sk
--     decrypt_room     the error of decryption's conversion is below a quarter of gamma
pub record FitTogether (set : SetName) : Type 0 where
  pub each : All IsModulus (moduli_of set)
  pub coprime : PairwiseCoprime (moduli_of set)
  pub lift_room : 4 * (1 + degree_of set) * length (data_of set) ≤ m_tilde
  pub product_room : plain_of set * degree_of set * product (data_of set) + length (data_of set) ≤ product (aux_of set) * (m_sk / 4)
  pub overflow_room : length (aux_of set) + m_sk / 4 ≤ (m_sk - 1) / 2
  pub decrypt_room : 4 * (length (data_of set) + 1) ≤ gamma
