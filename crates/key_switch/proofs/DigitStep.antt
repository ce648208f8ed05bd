-- One digit more of a sum over digits: it fits in two words, and is the sum over one digit more.
use Rattle.std.proofs.Common.{◌≡◌, ℕ, suc, ◌+◌, ◌*◌, ◌^◌, ◌<◌, ◌≤◌, ◌∙◌, ap, ap₂, arith, sym, subst, ℤ, pos, ◌+ℤ◌, ◌*ℤ◌, List, [], length, map, slice_index, slice_index_or, Some}
use Rattle.std.proofs.lemmas.Nat.{mod-mul-add, mul-le}
use Rattle.word_mod.specs.Moduli.{IsModulus}
use Rattle.set_table.specs.declared.SetName.{SetName}
use Rattle.set_table.specs.Sets.{data_of, degree_of, key_of, special_of}
use Rattle.ring_law.specs.Sums.{sum_below}
use Rattle.ring_law.specs.Rows.{row_polynomial, word_at}
use Rattle.ring_law.proofs.Sums.{sum_below-suc}
use Rattle.rns_poly.specs.Rows.{AreReduced}
use Rattle.rns_poly.specs.Transforms.{AreTransforms}
use Rattle.res_base.specs.Bases.{IsBase}
use Rattle.res_base.proofs.Bases.{IsModulus-from_IsBase}
use Rattle.res_base.proofs.Sizes.{IsBase-data_of, IsBase-key_of}
use Rattle.bfv_params.specs.Rows.{ReducedInTurn}
use Rattle.bfv_params.specs.Transforms.{transform_of}
use Rattle.bfv_params.specs.Values.{ContextValue}
use Rattle.bfv_params.proofs.Tables.{degree_of-power}
use Rattle.key_switch.specs.Providers.{AreDigitRows}
use Rattle.key_switch.specs.Sums.{AreDigitSums, AreSumsOf, digit_entry, digit_row, key_in, sum_word}
use Rattle.key_switch.proofs.Entries.{word_of_transforms}
use Rattle.key_switch.proofs.KeyLevels.{all_keys_count, key_is_modulus, keys_count, row_below}

-- a product of words below 2^61, on top of a number of such products
product_fits : (a b : ℕ) → a < 2 ^ 61 → b < 2 ^ 61 → a * b ≤ 2 ^ 122
product_fits a b a_below b_below = mul-le a b (2 ^ 61) (2 ^ 61) (omega (arith, a_below)) (omega (arith, b_below))

-- a base has at most 32 moduli
pub level_few : (set : SetName) (level i : ℕ) → level ≤ length (data_of set) → i < level → i < 32
level_few set level i within index =
    let base : IsBase (data_of set) = IsBase-data_of set in
    omega (arith, base.few, within, index)

module _ (n : ℕ) (ctx : ContextValue) (P : ℕ) (special : special_of ctx.set ≡ Some P) (degree : n ≡ degree_of ctx.set) (within : ctx.level ≤ length (data_of ctx.set))
    (lifted digit old new : List (List ℕ)) where
  abbrev count : ℕ
  count = ctx.level + 1

  abbrev half : ℕ
  half = length (data_of ctx.set) + 1

  key_below : (r : ℕ) → r < half → slice_index (key_of ctx.set) r < 2 ^ 61
  key_below r below =
      let modulus : IsModulus (slice_index (key_of ctx.set) r)
      = IsModulus-from_IsBase (key_of ctx.set) (IsBase-key_of ctx.set) r (subst (λ m. r < m) (sym (all_keys_count ctx.set ctx.level P special within)) below) in
      modulus.below

  lifted_below : AreReduced n (key_in ctx) lifted → (r k : ℕ) → r < count → k < n → word_at lifted r k < 2 ^ 61
  lifted_below reduced r k below inside =
      let least = reduced r (subst (λ m. r < m) (sym (keys_count ctx.set ctx.level P special within)) below) k inside in
      let top = (key_is_modulus ctx.set ctx.level P special within r below).below in
      omega (arith, least, top)

  digit_below : ReducedInTurn n half (key_of ctx.set) digit → length digit ≡ 2 * half → (j row k : ℕ) → j < 2 → row < half → k < n → word_at digit (j * half + row) k < 2 ^ 61
  digit_below reduced size j row k in_key below inside =
      let least : word_at digit (j * half + row) k < slice_index (key_of ctx.set) row
      = subst (λ p. word_at digit (j * half + row) k < slice_index (key_of ctx.set) p) (mod-mul-add j half row below)
      (reduced (j * half + row) (place j row in_key below size) k inside) in
      let top = key_below row below in
      omega (arith, least, top)
    where
      place : (j row : ℕ) → j < 2 → row < half → length digit ≡ 2 * half → j * half + row < length digit
      place j row in_key below size = let twice : (j + 1) * half ≤ 2 * half = mul-le (j + 1) half 2 half (omega arith) (omega arith) in omega (arith, twice)

  module _ (i : ℕ) (few : i < 32) (lifted_reduced : AreReduced n (key_in ctx) lifted) (digit_reduced : ReducedInTurn n half (key_of ctx.set) digit) (size : length digit ≡ 2 * half)
      (small : AreSumsOf n count i old) where
    abbrev product : ℕ → ℕ → ℕ → ℕ
    product j r k = word_at lifted r k * word_at digit (j * half + digit_row count half r) k

    product_small : (j r k : ℕ) → j < 2 → r < count → k < n → product j r k ≤ 2 ^ 122
    product_small j r k in_key below inside =
        product_fits (word_at lifted r k) (word_at digit (j * half + digit_row count half r) k) (lifted_below lifted_reduced r k below inside)
        (digit_below digit_reduced size j (digit_row count half r) k in_key (row_below ctx.set ctx.level P special within r below) inside)

    pub sum_has_room : (j r k : ℕ) → j < 2 → r < count → k < n → sum_word count old (j * (2 * count)) r k + product j r k < 2 ^ 128
    sum_has_room j r k in_key below inside =
        let before = small j r k in_key below inside in
        let more = product_small j r k in_key below inside in
        omega (arith, before, more, few)

    module _ (added : (j r k : ℕ) → j < 2 → r < count → k < n → sum_word count new (j * (2 * count)) r k ≡ sum_word count old (j * (2 * count)) r k + product j r k) where
      pub AreSumsOf-next : AreSumsOf n count (i + 1) new
      AreSumsOf-next j r k in_key below inside =
          let is = added j r k in_key below inside in
          let before = small j r k in_key below inside in
          let more = product_small j r k in_key below inside in
          omega (arith, is, before, more)

      pub AreDigitSums-next : (part : List (List ℕ)) (word : ℕ → ℕ → ℕ → ℕ → ℕ) → AreTransforms (map (transform_of ctx.set) (key_in ctx)) lifted (λ r. row_polynomial (slice_index_or part i []))
          → AreDigitRows n half digit (word i) → AreDigitSums n ctx part word i old → AreDigitSums n ctx part word (i + 1) new
      AreDigitSums-next part word transforms words before j r k in_key below inside =
          ap pos (added j r k in_key below inside)
          ∙ ap₂ (λ (s t : ℤ). s +ℤ t) (before j r k in_key below inside) (ap₂ (λ a b. pos a *ℤ pos b) entry (words j (digit_row count half r) k in_key in_half inside))
          ∙ sym (sum_below-suc i (λ d. pos (digit_entry ctx part d r k) *ℤ pos (word d j (digit_row count half r) k)))
          ∙ ap (λ m. sum_below m (λ d. pos (digit_entry ctx part d r k) *ℤ pos (word d j (digit_row count half r) k))) (more i)
        where
          in_half : digit_row count half r < half
          in_half = row_below ctx.set ctx.level P special within r below

          entry : word_at lifted r k ≡ digit_entry ctx part i r k
          entry = word_of_transforms ctx.set (key_in ctx) lifted (λ z. row_polynomial (slice_index_or part i [])) transforms r k
              (subst (λ m. r < m) (sym (keys_count ctx.set ctx.level P special within)) below) (subst (λ m. k < m) (degree ∙ degree_of-power ctx.set) inside)

          more : (i : ℕ) → suc i ≡ i + 1
          more i = omega arith
