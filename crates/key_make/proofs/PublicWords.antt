-- The words of a public key, from the rows that were drawn and computed.
use Rattle.std.proofs.Common.{◌≡◌, ℕ, zero, suc, ◌+◌, ◌*◌, ◌<◌, ◌∙◌, inr, ap, sym, arith, pos, ℤ, neg_ℤ, ◌+ℤ◌, List, length, slice_index}
use Rattle.std.proofs.Math.Nat.{mod-mod}
use Rattle.ring_law.specs.Residues.{residue}
use Rattle.ring_law.specs.Moduli.{AllAboveOne}
use Rattle.ring_law.specs.Polynomials.{ring_negative, ring_product, ring_sum}
use Rattle.ring_law.specs.Rows.{listed_polynomial, word_at}
use Rattle.ring_law.proofs.Moduli.{PairwiseInvertible}
use Rattle.rns_poly.specs.Rows.{EachRepresents}
use Rattle.bfv_model.specs.Drawn.{drawn_error, drawn_mask, drawn_public, greatest_error}
use Rattle.bfv_model.specs.Holds.{listed_word}
use Rattle.bfv_model.specs.Keys.{WordsArePublicKeyOf}
use Rattle.bfv_model.proofs.KeyRows.{drawn_public-WordsArePublicKeyOf}
use Rattle.bfv_params.specs.Rows.{ArePartlyWritten}

-- the rows of a mask stand for the polynomials of their words
pub mask_represents : (n : ℕ) (moduli : List ℕ) (words : ℕ → ℕ) (mask : List (List ℕ)) → ((i k : ℕ) → i < length moduli → k < n → word_at mask i k ≡ drawn_mask n moduli words i k)
    → EachRepresents n moduli mask (λ i z. pos (drawn_mask n moduli words i z))
mask_represents n moduli words mask drawn i k within below = drawn i k within below ∙ sym (mod-mod _ (slice_index moduli i))

module _ (n : ℕ) (moduli : List ℕ) (s : ℕ → ℤ) (words : ℕ → ℕ) (mask first old middle rows : List (List ℕ)) (error : List ℤ)
    (drawn : (i k : ℕ) → i < length moduli → k < n → word_at mask i k ≡ drawn_mask n moduli words i k)
    (computed : EachRepresents n moduli first (λ i. ring_negative (ring_sum (ring_product n (λ z. pos (drawn_mask n moduli words i z)) s) (listed_polynomial error))))
    (errors : (k : ℕ) → k < n → listed_polynomial error k ≡ drawn_error words 0 k)
    (second_written : ArePartlyWritten (1 * length moduli) (length moduli) mask old middle)
    (first_written : ArePartlyWritten (0 * length moduli) (length moduli) first middle rows) where
  first_words : (i k : ℕ) → i < length moduli → k < n → listed_word (length moduli) rows 0 i k ≡ drawn_public n moduli s words 0 i k
  first_words i k within below =
      ap (λ (row : List ℕ). slice_index row k) (first_written.written i within)
      ∙ computed i k within below
      ∙ ap (λ (e : ℤ). residue (slice_index moduli i) (neg_ℤ (ring_product n (λ z. pos (drawn_mask n moduli words i z)) s k +ℤ e)))
      (errors k below)

  second_words : (i k : ℕ) → i < length moduli → k < n → listed_word (length moduli) rows 1 i k ≡ drawn_public n moduli s words 1 i k
  second_words i k within below =
      ap (λ (row : List ℕ). slice_index row k) (first_written.others (1 * length moduli + i) (inr (omega arith)) ∙ second_written.written i within)
      ∙ drawn i k within below

  pub public_words : (part i k : ℕ) → part < 2 → i < length moduli → k < n → listed_word (length moduli) rows part i k ≡ drawn_public n moduli s words part i k
  public_words zero i k in_key within below = first_words i k within below
  public_words (suc zero) i k in_key within below = second_words i k within below
  public_words (suc (suc part)) i k in_key within below = absurd (omega arith)

-- words that are those of a drawn public key are a public key of its secret
pub drawn_words-WordsArePublicKeyOf : (n : ℕ) (moduli : List ℕ) (s : ℕ → ℤ) (words : ℕ → ℕ) (word : ℕ → ℕ → ℕ → ℕ) → PairwiseInvertible moduli → AllAboveOne moduli
    → ((part i k : ℕ) → part < 2 → i < length moduli → k < n → word part i k ≡ drawn_public n moduli s words part i k) → WordsArePublicKeyOf n moduli greatest_error word s
drawn_words-WordsArePublicKeyOf n moduli s words word coprime big same =
    let key : WordsArePublicKeyOf n moduli greatest_error (drawn_public n moduli s words) s = drawn_public-WordsArePublicKeyOf n moduli s words coprime big in record {
      part = key.part;
      represents = λ j in_key i k within below. same j i k in_key within below ∙ key.represents j in_key i k within below;
      relation = key.relation;
    }
