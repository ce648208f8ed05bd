use Rattle.std.proofs.Common.{◌≡◌, ℕ, zero, suc, ◌+◌, ◌*◌, ◌/◌, ◌^◌, ◌<◌, ◌≤◌, ◌∙◌, ap, ap₂, arith, rules, sym, subst, List, ◌++◌, length, take, drop}
use Rattle.std.specs.List.{slice_range}
use Rattle.std.proofs.lemmas.List.{length-drop, length-take-le}
use Rattle.ring_law.specs.Rows.{word_at}
use Rattle.bfv_params.proofs.Parts.{part_word}
use Rattle.key_switch.specs.Sums.{digit_row, sum_word}
use Rattle.key_switch.proofs.SumRows.{digit_row_lt, length-part, sum_in_first, sum_in_second, sum_of_first, sum_of_second}
use Rattle.key_switch.proofs.sums.add_digit.Goals as goal

-- a word of part j of a key's digit, of which each part has `half` rows
module _ (count half : ℕ) (key part : List (List ℕ)) (from to j : ℕ) (is : part ≡ slice_range key from to) (begins : from ≡ j * half) (ends : to ≡ from + half)
    (within : to ≤ length key) (enough : count ≤ half) where
  part_length : length part ≡ half
  part_length = ap length is ∙ length-part key from to (omega arith) within ∙ omega arith

  key_word : (r k : ℕ) → r < count → word_at part (digit_row count (length part) r) k ≡ word_at key (j * half + digit_row count half r) k
  key_word r k below =
      ap₂ (λ rows l. word_at rows (digit_row count l r) k) is part_length
      ∙ part_word key from to (digit_row count half r) k (omega (arith, digit_row_lt count half r below enough))
      ∙ ap (λ f. word_at key (f + digit_row count half r) k) begins

pub add_part-requires : goal.add_part-requires
add_part-requires g c =
    let count : ℕ = length c.args.lifted.rows.now in
    let half : ℕ = length c.args.key.rows.now / 2 in
    let rows : c.rows-rows.result / 2 ≡ half = ap (λ l. l / 2) c.rows-rows.ensures in
    let is : c.rows_from_to.result.rows.now ≡ slice_range c.args.key.rows.now 0 half
    = c.rows_from_to.ensures ∙ ap (slice_range c.args.key.rows.now 0) rows in
    let enough : count ≤ half = omega (arith, c.requires.key_count) in
    let within : half ≤ length c.args.key.rows.now = omega arith in
    let size = part_length count half c.args.key.rows.now c.rows_from_to.result.rows.now 0 half 0 is (omega arith) (omega arith) within enough in (
      search rules,
      (
        search rules,
        (
          search rules,
          (
            c.requires.degree,
            (
              c.requires.some,
              (
                omega (arith, enough, size),
                (
                  search rules,
                  λ r k below inside. subst (λ s. s + word_at c.args.lifted.rows.now r k * word_at c.rows_from_to.result.rows.now (digit_row count (length c.rows_from_to.result.rows.now) r) k < 2 ^ 128)
                      (sym (ap (λ rs. sum_word count rs 0 r k) (c.split-first.ensures.first ∙ ap (λ m. take (2 * m) c.args.sums.now) c.rows.ensures) ∙ sum_of_first count c.args.sums.now r k below))
                      (subst (λ w. sum_word count c.args.sums.now (0 * (2 * count)) r k + word_at c.args.lifted.rows.now r k * w < 2 ^ 128)
                      (sym (key_word count half c.args.key.rows.now c.rows_from_to.result.rows.now 0 half 0 is (omega arith) (omega arith) within enough r k below))
                      (c.requires.room 0 r k (omega arith) below inside)),
                ),
              ),
            ),
          ),
        ),
      ),
    )

pub add_part-requires-2 : goal.add_part-requires-2
add_part-requires-2 g c =
    let count : ℕ = length c.args.lifted.rows.now in
    let half : ℕ = length c.args.key.rows.now / 2 in
    let rows : c.rows-rows.result / 2 ≡ half = ap (λ l. l / 2) c.rows-rows.ensures in
    let is : c.rows_from_to-2.result.rows.now ≡ slice_range c.args.key.rows.now half (2 * half)
    = c.rows_from_to-2.ensures ∙ ap (λ h. slice_range c.args.key.rows.now h (2 * h)) rows in
    let enough : count ≤ half = omega (arith, c.requires.key_count) in
    let within : 2 * half ≤ length c.args.key.rows.now = omega arith in
    let size = part_length count half c.args.key.rows.now c.rows_from_to-2.result.rows.now half (2 * half) 1 is (omega arith) (omega arith) within enough in
    let sums : List (List ℕ) = c.args.sums.now in
    let back_size : length c.split-first.result.1.now ≡ 2 * count
    = ap length (c.split-first.ensures.second ∙ ap (λ m. drop (2 * m) sums) c.rows.ensures) ∙ length-drop (2 * count) sums ∙ omega (arith, c.requires.count) in (
      search rules,
      (
        search rules,
        (
          search rules,
          (
            c.requires.degree,
            (
              c.requires.some,
              (
                omega (arith, enough, size),
                (
                  back_size,
                  λ r k below inside. subst (λ s. s + word_at c.args.lifted.rows.now r k * word_at c.rows_from_to-2.result.rows.now (digit_row count (length c.rows_from_to-2.result.rows.now) r) k < 2 ^ 128)
                      (sym (ap (λ rs. sum_word count rs 0 r k) (c.split-first.ensures.second ∙ ap (λ m. drop (2 * m) c.args.sums.now) c.rows.ensures) ∙ sum_of_second count c.args.sums.now r k below))
                      (subst (λ w. sum_word count c.args.sums.now (1 * (2 * count)) r k + word_at c.args.lifted.rows.now r k * w < 2 ^ 128)
                      (sym (key_word count half c.args.key.rows.now c.rows_from_to-2.result.rows.now half (2 * half) 1 is (omega arith) (omega arith) within enough r k below))
                      (c.requires.room 1 r k (omega arith) below inside)),
                ),
              ),
            ),
          ),
        ),
      ),
    )

-- the sums of both parts
both : (n count half : ℕ) (lifted key old new : List (List ℕ))
    → ((r k : ℕ) → r < count → k < n → sum_word count new (0 * (2 * count)) r k ≡ sum_word count old (0 * (2 * count)) r k + word_at lifted r k * word_at key (0 * half + digit_row count half r) k)
    → ((r k : ℕ) → r < count → k < n → sum_word count new (1 * (2 * count)) r k ≡ sum_word count old (1 * (2 * count)) r k + word_at lifted r k * word_at key (1 * half + digit_row count half r) k)
    → (j r k : ℕ) → j < 2 → r < count → k < n → sum_word count new (j * (2 * count)) r k ≡ sum_word count old (j * (2 * count)) r k + word_at lifted r k * word_at key (j * half + digit_row count half r) k
both n count half lifted key old new first second zero r k in_key below inside = first r k below inside
both n count half lifted key old new first second (suc zero) r k in_key below inside = second r k below inside
both n count half lifted key old new first second (suc (suc j)) r k in_key below inside = absurd (omega arith)

pub returns : goal.returns
returns g c =
    let n : ℕ = g.row.N in
    let count : ℕ = length c.args.lifted.rows.now in
    let half : ℕ = length c.args.key.rows.now / 2 in
    let sums : List (List ℕ) = c.args.sums.now in
    let rows : c.rows-rows.result / 2 ≡ half = ap (λ l. l / 2) c.rows-rows.ensures in
    let first_is : c.rows_from_to.result.rows.now ≡ slice_range c.args.key.rows.now 0 half = c.rows_from_to.ensures ∙ ap (slice_range c.args.key.rows.now 0) rows in
    let second_is : c.rows_from_to-2.result.rows.now ≡ slice_range c.args.key.rows.now half (2 * half) = c.rows_from_to-2.ensures ∙ ap (λ h. slice_range c.args.key.rows.now h (2 * h)) rows in
    let enough : count ≤ half = omega (arith, c.requires.key_count) in
    let within : half ≤ length c.args.key.rows.now = omega arith in
    let within_both : 2 * half ≤ length c.args.key.rows.now = omega arith in
    let front : c.split-first.result.0.now ≡ take (2 * count) sums = c.split-first.ensures.first ∙ ap (λ m. take (2 * m) sums) c.rows.ensures in
    let back : c.split-first.result.1.now ≡ drop (2 * count) sums = c.split-first.ensures.second ∙ ap (λ m. drop (2 * m) sums) c.rows.ensures in
    let front_size : length c.split-first.result.0.now ≡ 2 * count = ap length front ∙ length-take-le (2 * count) sums (omega (arith, c.requires.count)) in
    let size : length c.add_part.new.sums ≡ 2 * count = c.add_part.auto.sums ∙ front_size in
    both n count half c.args.lifted.rows.now c.args.key.rows.now sums (c.add_part.new.sums ++ c.add_part-2.new.sums)
    (λ r k below inside. sum_in_first count c.add_part.new.sums c.add_part-2.new.sums r k below size ∙ c.add_part.ensures r k below inside
    ∙ ap₂ (λ s w. s + word_at c.args.lifted.rows.now r k * w) (ap (λ rs. sum_word count rs 0 r k) front ∙ sum_of_first count sums r k below)
    (key_word count half c.args.key.rows.now c.rows_from_to.result.rows.now 0 half 0 first_is (omega arith) (omega arith) within enough r k below))
    (λ r k below inside. sum_in_second count c.add_part.new.sums c.add_part-2.new.sums r k below size ∙ c.add_part-2.ensures r k below inside
    ∙ ap₂ (λ s w. s + word_at c.args.lifted.rows.now r k * w) (ap (λ rs. sum_word count rs 0 r k) back ∙ sum_of_second count sums r k below)
    (key_word count half c.args.key.rows.now c.rows_from_to-2.result.rows.now half (2 * half) 1 second_is (omega arith) (omega arith) within_both enough r k below))
