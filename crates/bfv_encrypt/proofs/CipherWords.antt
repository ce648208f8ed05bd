-- The words of a fresh cipher, from the rows that were computed.
use Rattle.std.proofs.Common.{◌≡◌, ℕ, zero, suc, ◌+◌, ◌*◌, ◌%◌, ◌<◌, ◌∙◌, inl, inr, ap, ap₂, refl, subst, sym, take, arith, lit<, mod-eq_of_lt, pos, ℤ, ◌+ℤ◌, List, length, slice_index}
use Rattle.std.specs.List.{slice_range}
use Rattle.std.proofs.Math.Seq.{take-length}
use Rattle.ring_law.specs.Sums.{values_below}
use Rattle.ring_law.specs.Residues.{residue}
use Rattle.ring_law.specs.Moduli.{AllAboveOne, product}
use Rattle.ring_law.specs.Polynomials.{AllWithin, ring_product, ring_sum}
use Rattle.ring_law.specs.Rows.{listed_polynomial, natural_polynomial, word_at}
use Rattle.ring_law.proofs.Moduli.{PairwiseInvertible}
use Rattle.ring_law.proofs.RingProduct.{ring_product_ext}
use Rattle.ring_law.proofs.Values.{get_or-values_below}
use Rattle.rns_poly.specs.Rows.{AreReduced, EachRepresents}
use Rattle.bfv_model.specs.Drawn.{drawn_cipher, drawn_error, drawn_ternary, greatest_error}
use Rattle.bfv_model.specs.Holds.{CipherHolds, listed_word}
use Rattle.bfv_model.specs.Keys.{WordsArePublicKeyOf}
use Rattle.bfv_model.specs.NoiseBounds.{fresh_bound_under}
use Rattle.bfv_model.specs.Plaintexts.{scaled_plain}
use Rattle.bfv_model.proofs.DrawnKeys.{drawn_cipher-CipherHolds_under}
use Rattle.bfv_params.proofs.Parts.{part_word}
use Rattle.bfv_params.specs.Rows.{ArePartlyWritten}

-- the rows of a part of a key stand for the polynomials of their words
pub key_represents : (n : ℕ) (moduli : List ℕ) (rows part_rows : List (List ℕ)) (part : ℕ)
    → part_rows ≡ slice_range rows (part * length moduli) (part * length moduli + length moduli) → AreReduced n moduli part_rows
    → EachRepresents n moduli part_rows (λ i z. pos (listed_word (length moduli) rows part i z))
key_represents n moduli rows part_rows part value reduced i k within below =
    let from = part * length moduli in
    sym (mod-eq_of_lt (reduced i within k below))
    ∙ ap (λ w. w % slice_index moduli i) (ap (λ (rs : List (List ℕ)). word_at rs i k) value ∙ part_word rows from (from + length moduli) i k (omega arith))

module _ (n : ℕ) (moduli : List ℕ) (q t : ℕ) (p : ℕ → ℕ → ℕ → ℕ) (m words : ℕ → ℕ) (first second old middle rows : List (List ℕ)) (mask error_first error_second : List ℤ)
    (ternary : mask ≡ values_below n (drawn_ternary words))
    (first_computed : EachRepresents n moduli first
    (λ i. ring_sum (ring_sum (ring_product n (λ z. pos (p 0 i z)) (listed_polynomial mask)) (listed_polynomial error_first)) (natural_polynomial (λ k. scaled_plain q t (m k)))))
    (second_computed : EachRepresents n moduli second (λ i. ring_sum (ring_product n (λ z. pos (p 1 i z)) (listed_polynomial mask)) (listed_polynomial error_second)))
    (first_errors : (k : ℕ) → k < n → listed_polynomial error_first k ≡ drawn_error words n k)
    (second_errors : (k : ℕ) → k < n → listed_polynomial error_second k ≡ drawn_error words (2 * n) k)
    (cleared : (i k : ℕ) → i < length moduli → k < n → word_at old (2 * length moduli + i) k ≡ 0)
    (first_written : ArePartlyWritten (0 * length moduli) (length moduli) first old middle)
    (second_written : ArePartlyWritten (1 * length moduli) (length moduli) second middle rows) where
  -- the mask is the ternary polynomial that is drawn
  masked : (x : ℕ → ℤ) (k : ℕ) → ring_product n x (listed_polynomial mask) k ≡ ring_product n x (drawn_ternary words) k
  masked x k = ring_product_ext n x x (listed_polynomial mask) (drawn_ternary words) (λ j below. refl)
      (λ j below. ap (λ (m : List ℤ). listed_polynomial m j) ternary ∙ get_or-values_below n (drawn_ternary words) j (pos 0) below) k

  first_words : (i k : ℕ) → i < length moduli → k < n → listed_word (length moduli) rows 0 i k ≡ drawn_cipher n moduli q t p m words 0 i k
  first_words i k within below =
      ap (λ (row : List ℕ). slice_index row k) (second_written.others (0 * length moduli + i) (inl (omega arith)) ∙ first_written.written i within)
      ∙ first_computed i k within below
      ∙ ap₂ (λ (x e : ℤ). residue (slice_index moduli i) (x +ℤ e +ℤ pos (scaled_plain q t (m k)))) (masked (λ z. pos (p 0 i z)) k) (first_errors k below)

  second_words : (i k : ℕ) → i < length moduli → k < n → listed_word (length moduli) rows 1 i k ≡ drawn_cipher n moduli q t p m words 1 i k
  second_words i k within below =
      ap (λ (row : List ℕ). slice_index row k) (second_written.written i within)
      ∙ second_computed i k within below
      ∙ ap₂ (λ (x e : ℤ). residue (slice_index moduli i) (x +ℤ e)) (masked (λ z. pos (p 1 i z)) k) (second_errors k below)

  third_words : (i k : ℕ) → i < length moduli → k < n → listed_word (length moduli) rows 2 i k ≡ 0
  third_words i k within below =
      ap (λ (row : List ℕ). slice_index row k)
      (second_written.others (2 * length moduli + i) (inr (omega arith)) ∙ first_written.others (2 * length moduli + i) (inr (omega arith)))
      ∙ cleared i k within below

  pub cipher_words : (part i k : ℕ) → part < 3 → i < length moduli → k < n → listed_word (length moduli) rows part i k ≡ drawn_cipher n moduli q t p m words part i k
  cipher_words zero i k in_cipher within below = first_words i k within below
  cipher_words (suc zero) i k in_cipher within below = second_words i k within below
  cipher_words (suc (suc zero)) i k in_cipher within below = third_words i k within below
  cipher_words (suc (suc (suc part))) i k in_cipher within below = absurd (omega arith)

-- words that are those of a drawn cipher hold its plaintext
pub drawn_words-CipherHolds : (n t K S : ℕ) (moduli : List ℕ) (p : ℕ → ℕ → ℕ → ℕ) (m words : ℕ → ℕ) (word : ℕ → ℕ → ℕ → ℕ) → 0 < n → 0 < t → PairwiseInvertible moduli
    → AllAboveOne moduli → ((k : ℕ) → k < n → m k < t)
    → ((part i k : ℕ) → part < 3 → i < length moduli → k < n → word part i k ≡ drawn_cipher n moduli (product moduli) t p m words part i k)
    → (s : ℕ → ℤ) → AllWithin n S s → WordsArePublicKeyOf n moduli K p s → CipherHolds n moduli t word s m (fresh_bound_under n t greatest_error K S)
drawn_words-CipherHolds n t K S moduli p m words word pos_n pos_t coprime big plain same s small key =
    let holds : CipherHolds n moduli t (drawn_cipher n moduli (product moduli) t p m words) s m (fresh_bound_under n t greatest_error K S) =
    drawn_cipher-CipherHolds_under n t K S moduli p (key.part 0) (key.part 1) s m words pos_n pos_t coprime big (key.represents 0 (lit< tt)) (key.represents 1 (lit< tt)) key.relation small plain in record {
      part = holds.part;
      below = holds.below;
      represents = λ j in_cipher i k within below. same j i k in_cipher within below ∙ holds.represents j in_cipher i k within below;
      holds = holds.holds;
    }

-- the same at the level of all moduli
pub CipherHolds-at_level : (n level t : ℕ) (moduli : List ℕ) (rows : List (List ℕ)) (s : ℕ → ℤ) (m : ℕ → ℕ) (bound : ℕ) → level ≡ length moduli
    → CipherHolds n moduli t (listed_word (length moduli) rows) s m bound → CipherHolds n (take level moduli) t (listed_word level rows) s m bound
CipherHolds-at_level n level t moduli rows s m bound whole holds =
    subst (λ (l : ℕ). CipherHolds n (take l moduli) t (listed_word l rows) s m bound) (sym whole)
    (subst (λ (qs : List ℕ). CipherHolds n qs t (listed_word (length moduli) rows) s m bound) (sym (take-length moduli)) holds)
