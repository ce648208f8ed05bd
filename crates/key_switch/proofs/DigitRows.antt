-- The rows of a digit among those of its key.
use Rattle.std.proofs.Common.{arith, ◌≡◌, ℕ, ◌+◌, ◌*◌, ◌%◌, ◌<◌, ◌≤◌, sym, ap, subst, ◌∙◌, List, [], length, get_or, slice_index, slice_range}
use Rattle.std.proofs.lemmas.Nat.{mul-le}
use Rattle.std.proofs.Math.Nat.{mul-add-mod_self_right}
use Rattle.bfv_params.specs.Rows.{ReducedInTurn}
use Rattle.bfv_params.proofs.Parts.{part_row}
use Rattle.key_switch.specs.Providers.{AreDigitRows}
use Rattle.key_switch.specs.Memory.{key_word}

-- a digit ends within the rows of a key of `moduli` digits
pub digit_within : (moduli count i : ℕ) → i < moduli → count ≡ moduli + 1 → i * 2 * count + 2 * count ≤ 2 * moduli * (moduli + 1)
digit_within moduli count i below counted =
    let more : (i + 1) * (2 * count) ≤ moduli * (2 * count) = mul-le (i + 1) (2 * count) moduli (2 * count) (omega arith) (omega arith) in
    let all : moduli * (2 * count) ≡ moduli * (2 * (moduli + 1)) = ap (λ c. moduli * (2 * c)) counted in
    omega (arith, more, all)

-- the rows of a digit are reduced
pub digit_reduced : (n count i : ℕ) (moduli : List ℕ) (rows digit : List (List ℕ)) → ReducedInTurn n count moduli rows
    → i * 2 * count + 2 * count ≤ length rows → digit ≡ slice_range rows (i * 2 * count) (i * 2 * count + 2 * count) → length digit ≡ 2 * count
    → ReducedInTurn n count moduli digit
digit_reduced n count i moduli rows digit reduced within is size r inside k k_below =
    let row : get_or digit r [] ≡ get_or rows (i * 2 * count + r) []
    = ap (λ d. get_or d r []) is ∙ part_row rows (i * 2 * count) (i * 2 * count + 2 * count) r (omega (arith, inside, size)) in
    let turn : (i * 2 * count + r) % count ≡ r % count = mul-add-mod_self_right (i * 2) count r in
    subst (λ d. slice_index d k < slice_index moduli (r % count)) (sym row)
    (subst (λ p. slice_index (get_or rows (i * 2 * count + r) []) k < slice_index moduli p) turn
    (reduced (i * 2 * count + r) (omega (arith, inside, size, within)) k k_below))

-- the words of a digit are those of its key
pub digit_words : (n count i : ℕ) (rows digit : List (List ℕ)) → digit ≡ slice_range rows (i * 2 * count) (i * 2 * count + 2 * count)
    → AreDigitRows n count digit (key_word count rows i)
digit_words n count i rows digit is part row k part_below row_below k_below =
    let within : (part + 1) * count ≤ 2 * count = mul-le (part + 1) count 2 count (omega arith) (omega arith) in
    let place : i * 2 * count + (part * count + row) ≡ (i * 2 + part) * count + row = omega arith in
    let same : get_or digit (part * count + row) [] ≡ get_or rows (i * 2 * count + (part * count + row)) []
    = ap (λ d. get_or d (part * count + row) []) is
    ∙ part_row rows (i * 2 * count) (i * 2 * count + 2 * count) (part * count + row) (omega (arith, within, row_below)) in
    ap (λ found. slice_index found k) (same ∙ ap (λ p. get_or rows p []) place)
