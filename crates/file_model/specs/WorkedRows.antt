-- Two ciphers that were worked out by hand. The first part of each is a number, and its other part is 0.
use Rattle.std.specs.Prelude.{◌≡◌, ℕ, ℤ, List, [], ◌∷◌, ◌++◌, length, replicate}
use Rattle.set_table.specs.declared.SetName.TheVariants.{One16, Toy16}
use Rattle.set_table.specs.Sets.{degree_of, data_of, plain_of}
use Rattle.bound_num.specs.Bound.{bound_value}
use Rattle.ring_law.specs.Rows.{natural_polynomial}
use Rattle.bfv_model.specs.Holds.{CipherHolds, stored_word}
use Rattle.bfv_model.specs.Slots.{slots_of}
use Rattle.file_model.specs.FileText.{FileContent}
use Rattle.file_model.specs.declared.file_kind.FileKind.TheVariants.{Cipher}

-- of one16: the first of 32 words is 700949358316277, and 257 times it is 5q - 16
unfoldable pub one16_cipher : FileContent
one16_cipher = record {
  kind = Cipher;
  set = One16;
  parts = 2;
  element = 0;
  key_id = replicate 16 17;
  mantissa = 257;
  exponent = 0;
  words = 700949358316277 ∷ replicate 31 0;
}

-- the head and the first word of its file
unfoldable pub one16_front : List ℕ
one16_front =
    0x42 ∷ 0x46 ∷ 0x56 ∷ 0x52 ∷ 0x4e ∷ 0x53 ∷ 0x46 ∷ 0x01 ∷ 0x05 ∷ 0x00 ∷ 0x02 ∷ 0x00 ∷ 0x00 ∷ 0x00 ∷ 0x00 ∷ 0x00
    ∷ 0x11 ∷ 0x11 ∷ 0x11 ∷ 0x11 ∷ 0x11 ∷ 0x11 ∷ 0x11 ∷ 0x11 ∷ 0x11 ∷ 0x11 ∷ 0x11 ∷ 0x11 ∷ 0x11 ∷ 0x11 ∷ 0x11 ∷ 0x11
    ∷ 0x01 ∷ 0x01 ∷ 0x00 ∷ 0x00 ∷ 0x00 ∷ 0x00 ∷ 0x00 ∷ 0x00 ∷ 0x20 ∷ 0x00 ∷ 0x00 ∷ 0x00 ∷ 0x00 ∷ 0x00 ∷ 0x00 ∷ 0x00
    ∷ 0x00 ∷ 0x00 ∷ 0x00 ∷ 0x00 ∷ 0x00 ∷ 0x00 ∷ 0x00 ∷ 0x00 ∷ 0x00 ∷ 0x00 ∷ 0x00 ∷ 0x00 ∷ 0x00 ∷ 0x00 ∷ 0x00 ∷ 0x00
    ∷ 0xf5 ∷ 0x0a ∷ 0x82 ∷ 0x7d ∷ 0x82 ∷ 0x7d ∷ 0x02 ∷ 0x00 ∷ []

-- of toy16: the words 0 and 16 of 64 are the residues of a number x, and 257 times it is 5q - 49
unfoldable pub toy16_cipher : FileContent
toy16_cipher = record {
  kind = Cipher;
  set = Toy16;
  parts = 2;
  element = 0;
  key_id = replicate 16 17;
  mantissa = 257;
  exponent = 0;
  words = (2601179211035 ∷ replicate 15 0) ++ (2772309401632 ∷ replicate 47 0);
}

-- under this secret the cipher holds, within the bound that its head states, the plaintext with this value in each slot
pub record HoldsInEachSlot (c : FileContent) (value : ℕ) (secret : ℕ → ℤ) : Type 0 where
  pub plaintext : ℕ → ℕ
  pub slots : slots_of c.set (natural_polynomial plaintext) ≡ replicate (degree_of c.set) value
  pub holds : CipherHolds (degree_of c.set) (data_of c.set) (plain_of c.set)
      (stored_word (degree_of c.set) (length (data_of c.set)) c.words) secret plaintext (bound_value c.mantissa c.exponent)
