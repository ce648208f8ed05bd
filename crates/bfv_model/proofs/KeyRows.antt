-- Rows of reduced words as the transforms of one polynomial, and the words of drawn keys.
use Rattle.std.proofs.Common.{All, List, [], arith, if◌then◌else◌, length, length-append, mod-lt, neg_ℤ, pos, refl, slice_index, subst, suc, sym, zero, ℕ, ℤ, ◌*ℤ◌, ◌*◌, ◌++◌, ◌+ℤ◌, ◌+◌, ◌-ℤ◌, ◌<◌, ◌==◌, ◌^◌, ◌∙◌, ◌∷◌, ◌≡◌}
use Rattle.std.proofs.Math.Seq.{get_or-append_seam}
use Rattle.std.proofs.lemmas.List.Elements.{All-cons, All-nil}
use Rattle.ring_law.specs.Moduli.{AllAboveOne, product}
use Rattle.ring_law.specs.Polynomials.{ring_product}
use Rattle.ring_law.specs.Residues.{HasInverse, residue}
use Rattle.ring_law.specs.Rows.{WordsRepresent, natural_polynomial}
use Rattle.ring_law.specs.Transform.{transform_entry}
use Rattle.ring_law.proofs.Choice.{choose}
use Rattle.ring_law.proofs.Inverses.{HasInverse-swap}
use Rattle.ring_law.proofs.Moduli.{AllAboveOne-append_left, PairwiseInvertible, PairwiseInvertible-append_left, positive_from_above_one, product_positive}
use Rattle.ring_law.proofs.Residues.{Congruent-from_residues, residue_lt}
use Rattle.ring_law.proofs.Rows.{represented_polynomial}
use Rattle.ring_law.proofs.TransformEntries.{polynomial_of_entries, transform_entry-polynomial_of_entries, transform_entry_congruent}
use Rattle.bfv_model.specs.Drawn.{digit_place, drawn_digit_mask, drawn_error, drawn_mask, drawn_public, drawn_switch, greatest_error}
use Rattle.bfv_model.specs.Keys.{IsTransformRoot, WordsArePublicKeyOf, WordsAreSwitchKeyOf}
use Rattle.bfv_model.proofs.CipherOperations.{part_of}
use Rattle.bfv_model.proofs.DrawnDigits.{drawn_digit-IsSwitchKeyOf}
use Rattle.bfv_model.proofs.DrawnKeys.{drawn_public-IsPublicKeyOf}

-- reduced rows, one for each modulus, are the transforms of one polynomial
pub polynomial_of_rows : (log : ℕ) (moduli roots : List ℕ) → PairwiseInvertible moduli → AllAboveOne moduli
    → ((r : ℕ) → r < length moduli → IsTransformRoot log (slice_index moduli r) (slice_index roots r)) → (word : ℕ → ℕ → ℕ)
    → ((r k : ℕ) → r < length moduli → k < 2 ^ log → word r k < slice_index moduli r)
    → (x : ℕ → ℤ) × ((r k : ℕ) → r < length moduli → k < 2 ^ log
    → word r k ≡ transform_entry (slice_index moduli r) log (slice_index roots r) x k)
polynomial_of_rows log moduli roots coprime big back word reduced = joined
    (choose {A = ℕ → ℤ} (length moduli) has_entries (λ k. pos 0) one_row)
  where
    has_entries : ℕ → (ℕ → ℤ) → Type 0
    has_entries r y = (k : ℕ) → k < 2 ^ log → word r k ≡ transform_entry (slice_index moduli r) log (slice_index roots r) y k

    one_row : (r : ℕ) → r < length moduli → (y : ℕ → ℤ) × has_entries r y
    one_row r below =
        let t = back r below in (
          polynomial_of_entries (slice_index moduli r) log (slice_index roots r) t.positive t.minus_one t.unit (word r),
          λ k place. sym (transform_entry-polynomial_of_entries (slice_index moduli r) log (slice_index roots r) t.positive t.minus_one t.unit (word r) k place (reduced r k below place)),
        )

    joined : (y : ℕ → ℕ → ℤ) × ((r : ℕ) → r < length moduli → has_entries r (y r))
        → (x : ℕ → ℤ) × ((r k : ℕ) → r < length moduli → k < 2 ^ log
        → word r k ≡ transform_entry (slice_index moduli r) log (slice_index roots r) x k)
    joined (y, entries) = from
        (represented_polynomial (2 ^ log) moduli coprime big (product_positive moduli big) (λ r k. residue (slice_index moduli r) (y r k))
        (λ r k below place. residue_lt (slice_index moduli r) (y r k) (positive_from_above_one (slice_index moduli r) (big r below))))
      where
        from : (x : ℕ → ℕ) × ((k : ℕ)
            → x k < product moduli) × WordsRepresent (2 ^ log) moduli (λ r k. residue (slice_index moduli r) (y r k)) (natural_polynomial x)
            → (x : ℕ → ℤ) × ((r k : ℕ) → r < length moduli → k < 2 ^ log
            → word r k ≡ transform_entry (slice_index moduli r) log (slice_index roots r) x k)
        from (x, below_q, represents) = (
          natural_polynomial x,
          λ r k below place. entries r below k place ∙ transform_entry_congruent (slice_index moduli r) log (slice_index roots r) (y r)
              (natural_polynomial x) k (positive_from_above_one (slice_index moduli r) (big r below))
              (record {
                at = λ z inside. Congruent-from_residues (slice_index moduli r) (y r z) (pos (x z))
                    (positive_from_above_one (slice_index moduli r) (big r below)) (represents r z below inside);
              }),
        )

-- the words of a drawn public key
pub drawn_public-WordsArePublicKeyOf : (n : ℕ) (moduli : List ℕ) (s : ℕ → ℤ) (words : ℕ → ℕ) → PairwiseInvertible moduli
    → AllAboveOne moduli → WordsArePublicKeyOf n moduli greatest_error (drawn_public n moduli s words) s
drawn_public-WordsArePublicKeyOf n moduli s words coprime big = from (part 0 (first_reduced)) (part 1 second_reduced)
  where
    positive : (i : ℕ) → i < length moduli → 0 < slice_index moduli i
    positive i row = positive_from_above_one (slice_index moduli i) (big i row)

    first_reduced : (i k : ℕ) → i < length moduli → k < n → drawn_public n moduli s words 0 i k < slice_index moduli i
    first_reduced i k row place = residue_lt (slice_index moduli i)
        (neg_ℤ (ring_product n (λ z. pos (drawn_mask n moduli words i z)) s k +ℤ drawn_error words 0 k)) (positive i row)

    second_reduced : (i k : ℕ) → i < length moduli → k < n → drawn_public n moduli s words 1 i k < slice_index moduli i
    second_reduced i k row place = mod-lt (words (n + 2 * (i * n + k)) * 2 ^ 64 + words (n + 2 * (i * n + k) + 1)) (positive i row)

    part : (j : ℕ) → ((i k : ℕ) → i < length moduli → k < n → drawn_public n moduli s words j i k < slice_index moduli i)
        → (x : ℕ → ℕ) × ((k : ℕ) → x k < product moduli) × WordsRepresent n moduli (drawn_public n moduli s words j) (natural_polynomial x)
    part j reduced = represented_polynomial n moduli coprime big (product_positive moduli big) (drawn_public n moduli s words j) reduced

    from : (x : ℕ → ℕ) × ((k : ℕ) → x k < product moduli) × WordsRepresent n moduli (drawn_public n moduli s words 0) (natural_polynomial x)
        → (y : ℕ → ℕ) × ((k : ℕ) → y k < product moduli) × WordsRepresent n moduli (drawn_public n moduli s words 1) (natural_polynomial y)
        → WordsArePublicKeyOf n moduli greatest_error (drawn_public n moduli s words) s
    from (x, x_below, first) (y, y_below, second) = record {
      part = part_of (natural_polynomial x) (natural_polynomial y) (natural_polynomial y);
      represents = rows;
      relation = drawn_public-IsPublicKeyOf n moduli s words (natural_polynomial x) (natural_polynomial y) coprime big first second;
    }
      where
        rows : (j : ℕ) → j < 2
            → WordsRepresent n moduli (drawn_public n moduli s words j)
            (part_of (natural_polynomial x) (natural_polynomial y) (natural_polynomial y) j)
        rows zero below = first
        rows (suc zero) below = second
        rows (suc (suc j)) below = absurd (omega arith)

-- the last of a list of moduli put in front
PairwiseInvertible-last_first : (P : ℕ) (moduli : List ℕ) → PairwiseInvertible (moduli ++ P ∷ []) → PairwiseInvertible (P ∷ moduli)
PairwiseInvertible-last_first P moduli coprime = (each moduli coprime, PairwiseInvertible-append_left moduli (P ∷ []) coprime)
  where
    each : (qs : List ℕ) → PairwiseInvertible (qs ++ P ∷ []) → All (HasInverse P) qs
    each [] coprime = All-nil (HasInverse P)
    each (q ∷ qs) coprime = All-cons (HasInverse P) q qs
        (HasInverse-swap q P
        (subst (HasInverse q) (get_or-append_seam qs P [] 0) (coprime.0 (length qs) 0 (omega (arith, length-append qs (P ∷ []))))))
        (each qs coprime.1)

-- the words of a drawn switching key
module _ (log P : ℕ) (moduli roots : List ℕ) (source s : ℕ → ℤ) (words : ℕ → ℕ) (coprime : PairwiseInvertible (moduli ++ P ∷ [])) (big : AllAboveOne (moduli ++ P ∷ []))
    (back : (r : ℕ) → r < length moduli + 1 → IsTransformRoot log (slice_index (moduli ++ P ∷ []) r) (slice_index roots r)) where
  rows_count : length (moduli ++ P ∷ []) ≡ length moduli + 1
  rows_count = simp length-append refl

  below_count : (r : ℕ) → r < length (moduli ++ P ∷ []) → r < length moduli + 1
  below_count r below = subst (λ n. r < n) rows_count below

  in_rows : (r : ℕ) → r < length moduli + 1 → r < length (moduli ++ P ∷ [])
  in_rows r below = subst (λ n. r < n) (sym rows_count) below

  positive : (r : ℕ) → r < length (moduli ++ P ∷ []) → 0 < slice_index (moduli ++ P ∷ []) r
  positive r below = positive_from_above_one (slice_index (moduli ++ P ∷ []) r) (big r below)

  reduced : (i j r k : ℕ) → r < length (moduli ++ P ∷ [])
      → drawn_switch log moduli P roots source s words i j r k < slice_index (moduli ++ P ∷ []) r
  reduced i zero r k below =
      residue_lt (slice_index (moduli ++ P ∷ []) r)
      (pos (transform_entry (slice_index (moduli ++ P ∷ []) r) log (slice_index roots r)
      (drawn_error words (digit_place (2 ^ log) moduli i)) k)
      -ℤ pos (drawn_digit_mask (2 ^ log) moduli P words i r k) *ℤ pos
      (transform_entry (slice_index (moduli ++ P ∷ []) r) log (slice_index roots r) s k)
      +ℤ (if r == i then pos P *ℤ pos (transform_entry (slice_index (moduli ++ P ∷ []) r) log (slice_index roots r) source k) else pos 0))
      (positive r below)
  reduced i (suc j) r k below = mod-lt
      (words (digit_place (2 ^ log) moduli i + 2 ^ log + 2 * (r * 2 ^ log + k)) * 2 ^ 64 + words
      (digit_place (2 ^ log) moduli i + 2 ^ log + 2 * (r * 2 ^ log + k) + 1)) (positive r below)

  abbrev has_rows : ℕ → ℕ → (ℕ → ℤ) → Type 0
  has_rows i j x = (r k : ℕ) → r < length
      (moduli ++ P ∷ []) → k < 2 ^ log → drawn_switch log moduli P roots source s words i j r k ≡ transform_entry
      (slice_index (moduli ++ P ∷ []) r) log (slice_index roots r) x k

  digit_part : (i j : ℕ) → (x : ℕ → ℤ) × has_rows i j x
  digit_part i j = polynomial_of_rows log (moduli ++ P ∷ []) roots coprime big (λ r below. back r (below_count r below))
      (drawn_switch log moduli P roots source s words i j) (λ r k below place. reduced i j r k below)

  pub drawn_switch-WordsAreSwitchKeyOf : WordsAreSwitchKeyOf log moduli P roots greatest_error (drawn_switch log moduli P roots source s words) source s
  drawn_switch-WordsAreSwitchKeyOf = record {
    part = λ j i. (digit_part i j).0;
    transforms = λ i j r k digit part row place. (digit_part i j).1 r k (in_rows r row) place;
    relation = drawn_digit-IsSwitchKeyOf log P moduli roots source s words (λ i. (digit_part i 0).0) (λ i. (digit_part i 1).0)
        (PairwiseInvertible-last_first P moduli coprime) (AllAboveOne-append_left moduli (P ∷ []) big)
        (subst (λ q. 0 < q) (get_or-append_seam moduli P [] 0) (positive (length moduli) (in_rows (length moduli) (omega arith)))) back
        (λ i r k digit row place. (digit_part i 0).1 r k (in_rows r row) place)
        (λ i r k digit row place. (digit_part i 1).1 r k (in_rows r row) place);
  }
