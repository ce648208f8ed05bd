-- The rows of a drawn digit of a switching key.
use Rattle.std.proofs.Common.{◌≡◌, ◌≢◌, ℕ, zero, suc, ◌+◌, ◌*◌, ◌%◌, ◌^◌, ◌<◌, ◌∙◌, ap, ap₂, arith, refl, sym, subst, ⊎_elim, ℤ, pos, neg_ℤ, ◌+ℤ◌, ◌*ℤ◌, List, [], ◌∷◌, ◌++◌, Some, length, length-append, get_or-set_other, get_or-set_same, slice_index, slice_set, length-set, unwrap_or, cond, eqb}
use Rattle.std.proofs.Math.Nat.{add-mod-mod}
use Rattle.std.proofs.lemmas.Bool.{cases_eq}
use Rattle.std.proofs.lemmas.Int.{ints}
use Rattle.std.proofs.lemmas.List.{get_or-map}
use Rattle.set_table.specs.declared.SetName.{SetName}
use Rattle.set_table.specs.Sets.{data_of, key_of, list_of, log_degree_of, special_of}
use Rattle.set_table.specs.Roots.{root_of}
use Rattle.ring_law.specs.Residues.{residue}
use Rattle.ring_law.specs.Rows.{word_at}
use Rattle.ring_law.specs.Transform.{transform_entry}
use Rattle.ring_law.proofs.Congruence.{Congruent-equal}
use Rattle.ring_law.proofs.Places.{eqb_apart, eqb_equal}
use Rattle.ring_law.proofs.Residues.{residue-add}
use Rattle.ring_law.proofs.TransformEntries.{transform_entry_congruent}
use Rattle.bfv_model.specs.Drawn.{digit_place, drawn_digit_mask, drawn_error, drawn_switch, uniform_at}
use Rattle.bfv_model.specs.SwitchKeys.{key_roots_of}
use Rattle.bfv_params.specs.Transforms.{transform_of}
use Rattle.key_switch.specs.Providers.{AreDigitRows}
use Rattle.key_switch.proofs.JoinedParts.{word_of_first, word_of_second}

-- the words of an error, less those of a mask times those of a secret, each in transformed form
abbrev pub AreMasked : ℕ → SetName → List ℕ → (ℕ → ℤ) → (ℕ → ℤ) → List (List ℕ) → List (List ℕ) → Type 0
AreMasked n set moduli error s mask rows = (r k : ℕ) → r < length moduli → k < n → word_at rows r k
    ≡ residue (slice_index moduli r) (pos (transform_entry (slice_index moduli r) (log_degree_of set) (transform_of set (slice_index moduli r)).root error k)
    +ℤ neg_ℤ (pos (word_at mask r k) *ℤ pos (transform_entry (slice_index moduli r) (log_degree_of set) (transform_of set (slice_index moduli r)).root s k)))

-- the words of a mask that is drawn after as many words as `from` says
abbrev pub AreDrawn : ℕ → List ℕ → (ℕ → ℕ) → ℕ → List (List ℕ) → Type 0
AreDrawn n moduli words from rows = (r k : ℕ) → r < length moduli → k < n → word_at rows r k ≡ uniform_at words (slice_index moduli r) (from + 2 * (r * n + k))

-- a word of a stream that goes on from a place, at its place in the whole
pub uniform_from : (words stream : ℕ → ℕ) (p from place : ℕ) → ((z : ℕ) → words (from + z) ≡ stream z) → uniform_at stream p place ≡ uniform_at words p (from + place)
uniform_from words stream p from place goes_on =
    ap₂ (λ high low. (high * 2 ^ 64 + low) % p) (sym (goes_on place)) (sym (goes_on (place + 1)) ∙ ap words (more from place))
  where
    more : (from place : ℕ) → from + (place + 1) ≡ from + place + 1
    more from place = omega arith

module _ (n P i : ℕ) (set : SetName) (special : special_of set ≡ Some P) (power : n ≡ 2 ^ log_degree_of set) (index : i < length (data_of set)) (source s error : ℕ → ℤ) (words : ℕ → ℕ) where
  abbrev moduli : List ℕ
  moduli = data_of set ++ P ∷ []

  abbrev log : ℕ
  log = log_degree_of set

  abbrev from : ℕ
  from = digit_place (2 ^ log_degree_of set) (data_of set) i

  moduli_count : length moduli ≡ length (data_of set) + 1
  moduli_count = length-append (data_of set) (P ∷ [])

  root_at : (r : ℕ) → r < length moduli → (transform_of set (slice_index moduli r)).root ≡ slice_index (key_roots_of set) r
  root_at r within =
      let keys : key_of set ≡ moduli = ap (λ last. data_of set ++ list_of last) special in
      ap (λ (qs : List ℕ). unwrap_or (root_of set (slice_index qs r)) 0) (sym keys)
      ∙ sym (get_or-map (λ q. unwrap_or (root_of set q) 0) (key_of set) r 0 0 (subst (λ (qs : List ℕ). r < length qs) (sym keys) within))

  module _ (mask body : List (List ℕ)) (last : List ℕ) (size : length body ≡ length (data_of set) + 1) (positive : (r : ℕ) → r < length moduli → 0 < slice_index moduli r)
      (drawn : AreDrawn n moduli words (from + n) mask) (masked : AreMasked n set moduli error s mask body)
      (errors : (k : ℕ) → k < n → error k ≡ drawn_error words from k)
      (added : (k : ℕ) → k < n → slice_index last k ≡ (word_at body i k + P * transform_entry (slice_index moduli i) log (transform_of set (slice_index moduli i)).root source k) % slice_index moduli i) where
    abbrev mask_word : ℕ → ℕ → ℕ
    mask_word r k = drawn_digit_mask (2 ^ log_degree_of set) (data_of set) P words i r k

    mask_words : (r k : ℕ) → r < length moduli → k < n → word_at mask r k ≡ mask_word r k
    mask_words r k within below = drawn r k within below ∙ ap (λ m. uniform_at words (slice_index moduli r) (from + m + 2 * (r * m + k))) power

    -- the difference before the source is added, as the drawn digit has it
    abbrev difference : ℕ → ℕ → ℤ
    difference r k = pos (transform_entry (slice_index moduli r) log (slice_index (key_roots_of set) r) (drawn_error words from) k)
        +ℤ neg_ℤ (pos (mask_word r k) *ℤ pos (transform_entry (slice_index moduli r) log (slice_index (key_roots_of set) r) s k))

    body_words : (r k : ℕ) → r < length moduli → k < n → word_at body r k ≡ residue (slice_index moduli r) (difference r k)
    body_words r k within below =
        masked r k within below
        ∙ ap (λ root. residue p (pos (transform_entry p log root error k) +ℤ neg_ℤ (pos (word_at mask r k) *ℤ pos (transform_entry p log root s k)))) (root_at r within)
        ∙ ap₂ (λ e m. residue p (pos e +ℤ neg_ℤ (pos m *ℤ pos (transform_entry p log (slice_index (key_roots_of set) r) s k))))
        (transform_entry_congruent p log (slice_index (key_roots_of set) r) error (drawn_error words from) k (positive r within)
        (record { at = λ z inside. Congruent-equal p (errors z (subst (λ m. z < m) (sym power) inside)) }))
        (mask_words r k within below)
      where
        p : ℕ
        p = slice_index moduli r

    -- what is added in row r
    abbrev addend : ℕ → ℕ → ℤ
    addend r k = pos P *ℤ pos (transform_entry (slice_index moduli r) log (slice_index (key_roots_of set) r) source k)

    first_words : (r k : ℕ) → r < length moduli → k < n → word_at (slice_set body i last) r k ≡ residue (slice_index moduli r) (difference r k +ℤ cond (eqb r i) (addend r k) (pos 0))
    first_words r k within below = ⊎_elim here apart (cases_eq r i)
      where
        in_body : r < length body
        in_body = omega (arith, size, moduli_count, within)

        zero_more : (z : ℤ) → z ≡ z +ℤ pos 0
        zero_more z = omega (arith, ints)

        apart : r ≢ i → word_at (slice_set body i last) r k ≡ residue (slice_index moduli r) (difference r k +ℤ cond (eqb r i) (addend r k) (pos 0))
        apart other =
            ap (λ row. slice_index row k) (get_or-set_other body i r last [] other) ∙ body_words r k within below
            ∙ ap (residue (slice_index moduli r)) (zero_more (difference r k) ∙ ap (λ t. difference r k +ℤ cond t (addend r k) (pos 0)) (sym (eqb_apart r i other)))

        with_source : (word : ℕ) → word ≡ residue (slice_index moduli i) (difference i k)
            → slice_index last k ≡ (word + P * transform_entry (slice_index moduli i) log (slice_index (key_roots_of set) i) source k) % slice_index moduli i
            → i < length moduli → slice_index last k ≡ residue (slice_index moduli i) (difference i k +ℤ addend i k)
        with_source word is sum inside =
            sum ∙ sym (add-mod-mod word (P * transform_entry (slice_index moduli i) log (slice_index (key_roots_of set) i) source k) (slice_index moduli i))
            ∙ ap (λ w. (w + P * transform_entry (slice_index moduli i) log (slice_index (key_roots_of set) i) source k % slice_index moduli i) % slice_index moduli i) is
            ∙ sym (residue-add (slice_index moduli i) (difference i k) (addend i k) (positive i inside))

        at_index : i < length moduli → word_at (slice_set body i last) i k ≡ residue (slice_index moduli i) (difference i k +ℤ cond (eqb i i) (addend i k) (pos 0))
        at_index inside =
            ap (λ row. slice_index row k) (get_or-set_same body i last [] (omega (arith, size, index)))
            ∙ with_source (word_at body i k) (body_words i k inside below)
            (added k below ∙ ap (λ root. (word_at body i k + P * transform_entry (slice_index moduli i) log root source k) % slice_index moduli i) (root_at i inside)) inside
            ∙ ap (λ t. residue (slice_index moduli i) (difference i k +ℤ cond t (addend i k) (pos 0))) (sym (eqb_equal i i refl))

        here : r ≡ i → word_at (slice_set body i last) r k ≡ residue (slice_index moduli r) (difference r k +ℤ cond (eqb r i) (addend r k) (pos 0))
        here same = subst (λ row. word_at (slice_set body i last) row k ≡ residue (slice_index moduli row) (difference row k +ℤ cond (eqb row i) (addend row k) (pos 0))) (sym same)
            (at_index (subst (λ row. row < length moduli) same within))

    pub digit_is_drawn : AreDigitRows n (length (data_of set) + 1) (slice_set body i last ++ mask) (drawn_switch log (data_of set) P (key_roots_of set) source s words i)
    digit_is_drawn zero r k in_key below inside =
        word_of_first (length (data_of set) + 1) (slice_set body i last) mask (length-set body i last ∙ size) r k below
        ∙ first_words r k (omega (arith, moduli_count, below)) inside
    digit_is_drawn (suc zero) r k in_key below inside =
        word_of_second (length (data_of set) + 1) (slice_set body i last) mask (length-set body i last ∙ size) r k
        ∙ mask_words r k (omega (arith, moduli_count, below)) inside
    digit_is_drawn (suc (suc part)) r k in_key below inside = absurd (omega arith)
