-- The words of drawn keys and ciphers: they are reduced, and stored ones are read back.
use Rattle.std.proofs.Common.{List, arith, length, lit<, mod-lt, neg_ℤ, pos, slice_index, suc, zero, ℕ, ℤ, ◌*◌, ◌+ℤ◌, ◌+◌, ◌<◌, ◌^◌, ◌≡◌}
use Rattle.set_table.specs.declared.SetName.{SetName}
use Rattle.set_table.specs.Sets.{data_of}
use Rattle.ring_law.specs.Polynomials.{ring_product}
use Rattle.ring_law.proofs.Residues.{residue_lt}
use Rattle.bfv_model.specs.Drawn.{drawn_cipher, drawn_error, drawn_mask, drawn_public, drawn_ternary}
use Rattle.bfv_model.specs.Holds.{listed_words, stored_word}
use Rattle.bfv_model.specs.Plaintexts.{scaled_plain}
use Rattle.bfv_model.proofs.Ciphers.{stored_word-listed_words}
use Rattle.bfv_model.proofs.Sets.{data_modulus_pos}
use Rattle.bfv_model.proofs.ListedWords.{stored_word-past}

pub drawn_public_reduced : (n : ℕ) (set : SetName) (s : ℕ → ℤ) (words : ℕ → ℕ) (j i k : ℕ) → i < length (data_of set)
    → drawn_public n (data_of set) s words j i k < slice_index (data_of set) i
drawn_public_reduced n set s words zero i k row =
    residue_lt (slice_index (data_of set) i)
    (neg_ℤ (ring_product n (λ z. pos (drawn_mask n (data_of set) words i z)) s k +ℤ drawn_error words 0 k)) (data_modulus_pos set i row)
drawn_public_reduced n set s words (suc j) i k row =
    mod-lt (words (n + 2 * (i * n + k)) * 2 ^ 64 + words (n + 2 * (i * n + k) + 1)) (data_modulus_pos set i row)

pub drawn_cipher_reduced : (n : ℕ) (set : SetName) (q t : ℕ) (key : ℕ → ℕ → ℕ → ℕ) (m words : ℕ → ℕ) (j i k : ℕ) → i < length (data_of set)
    → drawn_cipher n (data_of set) q t key m words j i k < slice_index (data_of set) i
drawn_cipher_reduced n set q t key m words zero i k row =
    residue_lt (slice_index (data_of set) i)
    (ring_product n (λ z. pos (key 0 i z)) (drawn_ternary words) k +ℤ drawn_error words n k +ℤ pos (scaled_plain q t (m k)))
    (data_modulus_pos set i row)
drawn_cipher_reduced n set q t key m words (suc zero) i k row =
    residue_lt (slice_index (data_of set) i)
    (ring_product n (λ z. pos (key 1 i z)) (drawn_ternary words) k +ℤ drawn_error words (2 * n) k) (data_modulus_pos set i row)
drawn_cipher_reduced n set q t key m words (suc (suc j)) i k row = data_modulus_pos set i row

-- the words that are read back from the list of a drawn cipher
pub stored_drawn_cipher : (n : ℕ) (moduli : List ℕ) (q t : ℕ) (key : ℕ → ℕ → ℕ → ℕ) (m words : ℕ → ℕ) (j i k : ℕ) → j < 3 → i < length moduli
    → k < n → stored_word n (length moduli) (listed_words n (length moduli) 2 (drawn_cipher n moduli q t key m words)) j i k
    ≡ drawn_cipher n moduli q t key m words j i k
stored_drawn_cipher n moduli q t key m words zero i k part row place =
    stored_word-listed_words n (length moduli) 2 (drawn_cipher n moduli q t key m words) 0 i k (lit< tt) row place
stored_drawn_cipher n moduli q t key m words (suc zero) i k part row place =
    stored_word-listed_words n (length moduli) 2 (drawn_cipher n moduli q t key m words) 1 i k (lit< tt) row place
stored_drawn_cipher n moduli q t key m words (suc (suc j)) i k part row place =
    stored_word-past n (length moduli) 2 (drawn_cipher n moduli q t key m words) (suc (suc j)) i k (omega arith)
