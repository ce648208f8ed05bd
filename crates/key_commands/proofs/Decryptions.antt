-- The values of a cipher under a secret, from what was read of both.
use Rattle.std.proofs.Common.{◌≡◌, ℕ, ℤ, ◌*◌, ◌<◌, ◌≤◌, pos, ◌+ℤ◌, ◌-ℤ◌, ◌*ℤ◌, nat_abs, All, List, length, slice_index, refl, sym, ◌∙◌, ap, ap₂, subst, arith}
use Rattle.std.proofs.lemmas.List.{take_all}
use Rattle.std.proofs.lemmas.List.Elements.{All-from_get_or}
use Rattle.set_table.specs.declared.SetName.{SetName}
use Rattle.set_table.specs.Sets.{degree_of, plain_of, data_of}
use Rattle.set_table.specs.Roots.{plain_root_of}
use Rattle.ring_law.specs.Moduli.{product}
use Rattle.ring_law.specs.Polynomials.{ring_product}
use Rattle.ring_law.specs.Residues.{centred_residue}
use Rattle.ring_law.specs.Rows.{row_polynomial, natural_polynomial, listed_polynomial}
use Rattle.ring_law.specs.Transform.{evaluation}
use Rattle.ring_law.proofs.Congruence.{Congruent-equal}
use Rattle.ring_law.proofs.Residues.{residue_lt}
use Rattle.ring_law.proofs.RingProduct.{ring_product_ext}
use Rattle.ring_law.proofs.Values.{get_or-values_below, length-values_below}
use Rattle.file_model.specs.FileText.{FileContent}
use Rattle.bfv_model.specs.Holds.{CipherHolds, phase, listed_word, stored_word, secret_polynomial}
use Rattle.bfv_model.specs.Slots.{slot, slots, slots_of, slot_power}
use Rattle.bfv_model.proofs.ListedWords.{CipherHolds-equal_words}
use Rattle.bfv_model.proofs.SlotSets.{slots-congruent}
use Rattle.bfv_params.specs.Moduli.{data_at}
use Rattle.script_text.specs.Values.{printed_values}
use Rattle.slot_batch.proofs.Plaintexts.{plain_positive}
use Rattle.command_model.specs.Plan.{IsValuesText}
use Rattle.key_commands.specs.Decrypted.{IsDecryption}

-- there are as many slots as coefficients, each below the plaintext modulus
length-slots_of : (set : SetName) (a : ℕ → ℤ) → length (slots_of set a) ≡ degree_of set
unfolding slots
length-slots_of set a = length-values_below (degree_of set) (slot (degree_of set) (plain_of set) (plain_root_of set) a)

slots_of_below : (set : SetName) (a : ℕ → ℤ) → All (λ value. value < plain_of set) (slots_of set a)
unfolding slots slot
slots_of_below set a = All-from_get_or (λ value. value < plain_of set) (slots_of set a) 0 (λ i inside.
    let n = degree_of set in
    let below : i < n = subst (λ (count : ℕ). i < count) (length-slots_of set a) inside in
    subst (λ (value : ℕ). value < plain_of set) (sym (get_or-values_below n (slot n (plain_of set) (plain_root_of set) a) i 0 below))
    (residue_lt (plain_of set) (evaluation n (plain_root_of set) (slot_power n i) a) (plain_positive set)))

-- printed slots are a text of values
pub slots_printed : (set : SetName) (a : ℕ → ℤ) (values bytes : List ℕ) → values ≡ slots_of set a → bytes ≡ printed_values values → IsValuesText set bytes
slots_printed set a values bytes is text = record {
  values = values;
  count = ap length is ∙ length-slots_of set a;
  below = subst (λ (listed : List ℕ). All (λ value. value < plain_of set) listed) (sym is) (slots_of_below set a);
  text = text;
}

-- the slots of a row are those of the plaintext with the same coefficients
pub slots_of_row : (set : SetName) (n : ℕ) (row : List ℕ) (m : ℕ → ℕ) → n ≡ degree_of set → ((k : ℕ) → k < n → slice_index row k ≡ m k)
    → slots_of set (row_polynomial row) ≡ slots_of set (natural_polynomial m)
slots_of_row set n row m degree same =
    slots-congruent set (row_polynomial row) (natural_polynomial m) record {
      at = λ k below. Congruent-equal (plain_of set) (ap pos (same k (subst (λ (d : ℕ). k < d) (sym degree) below)));
    }

-- what is so of all data moduli is so at the level that has all of them
pub at_all_moduli : (set : SetName) (level : ℕ) (P : List ℕ → ℕ → Type 0) → level ≡ length (data_of set) → P (data_of set) (length (data_of set)) → P (data_at set level) level
at_all_moduli set level P is all =
    subst (λ (count : ℕ). P (data_at set count) count) (sym is)
    (subst (λ (moduli : List ℕ). P moduli (length (data_of set))) (sym (take_all (length (data_of set)) (data_of set) (omega arith))) all)

-- ---- equal secrets
phase-equal_secret : (n : ℕ) (x0 x1 x2 s r : ℕ → ℤ) → ((k : ℕ) → k < n → r k ≡ s k) → (k : ℕ) → phase n x0 x1 x2 r k ≡ phase n x0 x1 x2 s k
phase-equal_secret n x0 x1 x2 s r same k =
    ap₂ (λ (u v : ℤ). x0 k +ℤ u +ℤ v) (ring_product_ext n x1 x1 r s (λ _ _. refl) same k)
    (ring_product_ext n x2 x2 (ring_product n r r) (ring_product n s s) (λ _ _. refl) (λ j _. ring_product_ext n r s r s same same j) k)

-- a cipher holds the same plaintext under an equal secret
CipherHolds-equal_secret : (n : ℕ) (moduli : List ℕ) (t : ℕ) (word : ℕ → ℕ → ℕ → ℕ) (s r : ℕ → ℤ) (m : ℕ → ℕ) (bound : ℕ)
    → ((k : ℕ) → k < n → r k ≡ s k) → CipherHolds n moduli t word s m bound → CipherHolds n moduli t word r m bound
CipherHolds-equal_secret n moduli t word s r m bound same cipher = record {
  part = cipher.part;
  below = cipher.below;
  represents = cipher.represents;
  holds = record {
    plain = cipher.holds.plain;
    near = λ k below. subst (λ (x : ℤ). nat_abs (centred_residue (t * product moduli) (pos t *ℤ x -ℤ pos (product moduli) *ℤ pos (m k))) ≤ bound)
        (sym (phase-equal_secret n (natural_polynomial (cipher.part 0)) (natural_polynomial (cipher.part 1)) (natural_polynomial (cipher.part 2)) s r same k))
        (cipher.holds.near k below);
  };
}

-- ---- what was read of the files of a secret and of a cipher
-- the text is the decryption of their contents
pub decryption_of_contents : (n : ℕ) (set : SetName) (secret cipher : FileContent) (small : List ℤ) (rows : List (List ℕ)) (bytes : List ℕ) → n ≡ degree_of set → cipher.set ≡ set
    → ((k : ℕ) → k < n → listed_polynomial small k ≡ secret_polynomial secret.words k)
    → ((j i k : ℕ) → j < 3 → i < length (data_of set) → k < n
    → listed_word (length (data_of set)) rows j i k ≡ stored_word n (length (data_of set)) cipher.words j i k)
    → IsValuesText set bytes
    → ((m : ℕ → ℕ) (bound : ℕ) → CipherHolds n (data_of set) (plain_of set) (listed_word (length (data_of set)) rows) (listed_polynomial small) m bound
    → 4 * bound ≤ product (data_of set) → bytes ≡ printed_values (slots_of set (natural_polynomial m)))
    → IsDecryption secret cipher bytes
decryption_of_contents n set secret cipher small rows bytes degree of_set secret_is cipher_is text right = record {
  text = subst (λ (z : SetName). IsValuesText z bytes) (sym of_set) text;
  right = λ m bound holds room.
      right m bound (held m bound (subst (Stored m bound) of_set holds)) (subst (λ (z : SetName). 4 * bound ≤ product (data_of z)) of_set room)
      ∙ ap (λ (z : SetName). printed_values (slots_of z (natural_polynomial m))) (sym of_set);
}
  where
    Stored : (ℕ → ℕ) → ℕ → SetName → Type 0
    Stored m bound z =
        CipherHolds (degree_of z) (data_of z) (plain_of z) (stored_word (degree_of z) (length (data_of z)) cipher.words) (secret_polynomial secret.words) m bound

    held : (m : ℕ → ℕ) (bound : ℕ) → Stored m bound set
        → CipherHolds n (data_of set) (plain_of set) (listed_word (length (data_of set)) rows) (listed_polynomial small) m bound
    held m bound holds =
        CipherHolds-equal_secret n (data_of set) (plain_of set) (listed_word (length (data_of set)) rows) (secret_polynomial secret.words) (listed_polynomial small) m bound secret_is
        (CipherHolds-equal_words n (data_of set) (plain_of set) (listed_word (length (data_of set)) rows) (stored_word n (length (data_of set)) cipher.words)
        (secret_polynomial secret.words) m bound cipher_is
        (subst (λ (d : ℕ). CipherHolds d (data_of set) (plain_of set) (stored_word d (length (data_of set)) cipher.words) (secret_polynomial secret.words) m bound)
        (sym degree) holds))
