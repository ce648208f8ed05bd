-- Sums of both parts among their rows.
use Rattle.std.proofs.Common.{◌≡◌, ℕ, ◌+◌, ◌-◌, ◌*◌, ◌<◌, ◌≤◌, ◌∙◌, ap, ap₂, arith, sym, subst, Bool, true, false, nat_lt, if◌then◌else◌, List, [], ◌++◌, length, take, drop, get_or}
use Rattle.std.specs.List.{slice_range}
use Rattle.std.proofs.Math.Seq.{get_or-append_right}
use Rattle.std.proofs.lemmas.List.{get_or-drop, get_or-take, get_or_append_left, length-drop, length-take-le}
use Rattle.key_switch.specs.Sums.{digit_row, sum_word, two_words}

-- a sum from the two rows of its words
two_rows : (high low other_high other_low : List ℕ) (k : ℕ) → high ≡ other_high → low ≡ other_low → two_words high low k ≡ two_words other_high other_low k
two_rows high low other_high other_low k same_high same_low = ap₂ (λ h l. two_words h l k) same_high same_low

-- a row at a place that is computed in two ways
row_at : (rows : List (List ℕ)) (i j : ℕ) → i ≡ j → get_or rows i [] ≡ get_or rows j []
row_at rows i j same = ap (λ p. get_or rows p []) same

-- ---- the rows of the first part and those after them
module _ (count : ℕ) (rows : List (List ℕ)) (r k : ℕ) (below : r < count) where
  pub sum_of_first : sum_word count (take (2 * count) rows) 0 r k ≡ sum_word count rows (0 * (2 * count)) r k
  sum_of_first = two_rows _ _ _ _ k (get_or-take (2 * count) rows (0 + r) [] (omega arith) ∙ row_at rows (0 + r) (0 * (2 * count) + r) (omega arith))
      (get_or-take (2 * count) rows (0 + (count + r)) [] (omega arith) ∙ row_at rows (0 + (count + r)) (0 * (2 * count) + (count + r)) (omega arith))

  pub sum_of_second : sum_word count (drop (2 * count) rows) 0 r k ≡ sum_word count rows (1 * (2 * count)) r k
  sum_of_second = two_rows _ _ _ _ k (get_or-drop (2 * count) rows (0 + r) [] ∙ row_at rows (2 * count + (0 + r)) (1 * (2 * count) + r) (omega arith))
      (get_or-drop (2 * count) rows (0 + (count + r)) [] ∙ row_at rows (2 * count + (0 + (count + r))) (1 * (2 * count) + (count + r)) (omega arith))

module _ (count : ℕ) (first second : List (List ℕ)) (r k : ℕ) (below : r < count) (size : length first ≡ 2 * count) where
  pub sum_in_first : sum_word count (first ++ second) (0 * (2 * count)) r k ≡ sum_word count first 0 r k
  sum_in_first = two_rows _ _ _ _ k (before r (0 * (2 * count) + r) (omega arith) (omega arith)) (before (count + r) (0 * (2 * count) + (count + r)) (omega arith) (omega arith))
    where
      before : (i place : ℕ) → place ≡ 0 + i → i < length first → get_or (first ++ second) place [] ≡ get_or first (0 + i) []
      before i place is within = row_at (first ++ second) place (0 + i) is ∙ get_or_append_left first second [] (0 + i) (omega arith)

  pub sum_in_second : sum_word count (first ++ second) (1 * (2 * count)) r k ≡ sum_word count second 0 r k
  sum_in_second = two_rows _ _ _ _ k (after r (1 * (2 * count) + r) (omega arith)) (after (count + r) (1 * (2 * count) + (count + r)) (omega arith))
    where
      less : (place i : ℕ) → place ≡ length first + i → place - length first ≡ 0 + i
      less place i is = omega arith

      after : (i place : ℕ) → place ≡ length first + i → get_or (first ++ second) place [] ≡ get_or second (0 + i) []
      after i place is = get_or-append_right first second place [] (omega (arith, is)) ∙ row_at second (place - length first) (0 + i) (less place i is)

-- ---- the row of a part of a key's digit among the rows of both
-- the rows from one place on, as many as there are up to another
pub length-part : (rows : List (List ℕ)) (from to : ℕ) → from ≤ to → to ≤ length rows → length (slice_range rows from to) ≡ to - from
length-part rows from to ordered within =
    length-take-le (to - from) (drop from rows) (subst (λ l. to - from ≤ l) (sym (length-drop from rows)) (omega (arith, within)))

pub digit_row_lt : (count rows r : ℕ) → r < count → count ≤ rows → digit_row count rows r < rows
digit_row_lt count rows r below enough = by (nat_lt (r + 1) count)
  where
    by : (t : Bool) → (if t then r else (rows - 1)) < rows
    by true = omega (arith, below, enough)
    by false = omega (arith, below, enough)
