-- Words at one place of each quarter of a block.
use Rattle.std.proofs.Common.{◌≡◌, ◌≢◌, ℕ, ◌+◌, ◌-◌, ◌*◌, ◌<◌, ◌≤◌, ◌∙◌, List, length, get_or, set, arith, subst, sym, ⊎_elim, below_more, get_or-set_other, get_or-set_same}
use Rattle.std.proofs.lemmas.Bool.{cases_eq, cases_lt}
use Rattle.std.proofs.lemmas.List.{length-set}
use Rattle.lane_rows.specs.Butterflies.{FourAt, FourBelow}
use Rattle.lane_rows.specs.Rows.{RowBelow}

-- a row with one word replaced
RowBelow-set : (bound : ℕ) (xs : List ℕ) (i x : ℕ) → i < length xs → x < bound → RowBelow bound xs → RowBelow bound (set xs i x)
RowBelow-set bound xs i x in_xs below before j inside =
    ⊎_elim (λ (e : j ≡ i). subst (λ j. get_or (set xs i x) j 0 < bound) (sym e) (rw (get_or-set_same xs i x 0 in_xs) below))
    (λ (n : j ≢ i). rw (get_or-set_other xs i j x 0 n) (before j (subst (λ k. j < k) (length-set xs i x) inside)))
    (cases_eq j i)

module _ (xs : List ℕ) (quarter i a b c d : ℕ) (len : length xs ≡ 4 * quarter) (inside : i < quarter) where
  -- the block with the four words at place i replaced
  abbrev pub four_set : List ℕ
  four_set = set (set (set (set xs i a) (quarter + i) b) (2 * quarter + i) c) (3 * quarter + i) d

  len_one : length (set xs i a) ≡ 4 * quarter
  len_one = length-set xs i a ∙ len

  len_two : length (set (set xs i a) (quarter + i) b) ≡ 4 * quarter
  len_two = length-set (set xs i a) (quarter + i) b ∙ len_one

  len_three : length (set (set (set xs i a) (quarter + i) b) (2 * quarter + i) c) ≡ 4 * quarter
  len_three = length-set (set (set xs i a) (quarter + i) b) (2 * quarter + i) c ∙ len_two

  is_a : get_or four_set i 0 ≡ a
  is_a =
      get_or-set_other _ (3 * quarter + i) i d 0 (λ e. omega arith) ∙ get_or-set_other _ (2 * quarter + i) i c 0 (λ e. omega arith)
      ∙ get_or-set_other _ (quarter + i) i b 0 (λ e. omega arith) ∙ get_or-set_same xs i a 0 (omega arith)

  is_b : get_or four_set (quarter + i) 0 ≡ b
  is_b =
      get_or-set_other _ (3 * quarter + i) (quarter + i) d 0 (λ e. omega arith)
      ∙ get_or-set_other _ (2 * quarter + i) (quarter + i) c 0 (λ e. omega arith) ∙ get_or-set_same _ (quarter + i) b 0 (omega (arith, len_one))

  is_c : get_or four_set (2 * quarter + i) 0 ≡ c
  is_c =
      get_or-set_other _ (3 * quarter + i) (2 * quarter + i) d 0 (λ e. omega arith)
      ∙ get_or-set_same _ (2 * quarter + i) c 0 (omega (arith, len_two))

  is_d : get_or four_set (3 * quarter + i) 0 ≡ d
  is_d = get_or-set_same _ (3 * quarter + i) d 0 (omega (arith, len_three))

  pub FourAt-set : (P : ℕ → ℕ → ℕ → ℕ → ℕ → ℕ → ℕ → ℕ → Type 0)
      → P (get_or xs i 0) (get_or xs (quarter + i) 0) (get_or xs (2 * quarter + i) 0) (get_or xs (3 * quarter + i) 0) a b c d → FourAt P quarter i xs four_set
  FourAt-set P here = rw (is_a, is_b, is_c, is_d) here

  pub four_set_below : (bound : ℕ) → RowBelow bound xs → a < bound → b < bound → c < bound → d < bound → RowBelow bound four_set
  four_set_below bound before a_below b_below c_below d_below =
      RowBelow-set bound _ (3 * quarter + i) d (omega (arith, len_three)) d_below
      (RowBelow-set bound _ (2 * quarter + i) c (omega (arith, len_two)) c_below
      (RowBelow-set bound _ (quarter + i) b (omega (arith, len_one)) b_below (RowBelow-set bound xs i a (omega arith) a_below before)))

  pub FourBelow-set : (bound : ℕ) → a < bound → b < bound → c < bound → d < bound → FourBelow bound quarter i four_set
  FourBelow-set bound a_below b_below c_below d_below = record {
    a = rw is_a a_below;
    b = rw is_b b_below;
    c = rw is_c c_below;
    d = rw is_d d_below;
  }

  pub four_set_others : (j : ℕ) → j ≢ i → j ≢ quarter + i → j ≢ 2 * quarter + i → j ≢ 3 * quarter + i → get_or four_set j 0 ≡ get_or xs j 0
  four_set_others j not_a not_b not_c not_d =
      get_or-set_other _ (3 * quarter + i) j d 0 not_d ∙ get_or-set_other _ (2 * quarter + i) j c 0 not_c ∙ get_or-set_other _ (quarter + i) j b 0 not_b
      ∙ get_or-set_other xs i j a 0 not_a

-- the words at one place of the quarters are those of another block
pub record SameFour (quarter i : ℕ) (xs ys : List ℕ) : Type 0 where
  pub a : get_or ys i 0 ≡ get_or xs i 0
  pub b : get_or ys (quarter + i) 0 ≡ get_or xs (quarter + i) 0
  pub c : get_or ys (2 * quarter + i) 0 ≡ get_or xs (2 * quarter + i) 0
  pub d : get_or ys (3 * quarter + i) 0 ≡ get_or xs (3 * quarter + i) 0

-- in a block that first was as told, P holds of the places before place n, the words from it on are as they were, and all are below the bound
pub record FoursDone (P : ℕ → ℕ → ℕ → ℕ → ℕ → ℕ → ℕ → ℕ → Type 0) (bound quarter : ℕ) (first block : List ℕ) (n : ℕ) : Type 0 where
  pub done : (j : ℕ) → j < n → FourAt P quarter j first block
  pub rest : (j : ℕ) → n ≤ j → j < quarter → SameFour quarter j first block
  pub below : RowBelow bound block

-- one place more
pub FoursDone-more : (P : ℕ → ℕ → ℕ → ℕ → ℕ → ℕ → ℕ → ℕ → Type 0) (bound quarter : ℕ) (first old new : List ℕ) (n : ℕ) → n < quarter
    → FoursDone P bound quarter first old n → FourAt P quarter n old new → RowBelow bound new
    → ((j : ℕ) → j ≢ n → j ≢ quarter + n → j ≢ 2 * quarter + n → j ≢ 3 * quarter + n → get_or new j 0 ≡ get_or old j 0)
    → FoursDone P bound quarter first new (n + 1)
FoursDone-more P bound quarter first old new n inside before here below others = record {
  done = below_more _ _
      (λ j l. let same = kept j (omega arith) (λ e. omega arith) in rw (same.a, same.b, same.c, same.d) (before.done j l))
      (let was = before.rest n (omega arith) inside in rw (← was.a, ← was.b, ← was.c, ← was.d) here);
  rest = λ j l in_quarter.
      let same = kept j in_quarter (λ e. omega arith) in
      let was = before.rest j (omega arith) in_quarter in
      record { a = same.a ∙ was.a; b = same.b ∙ was.b; c = same.c ∙ was.c; d = same.d ∙ was.d };
  below = below;
}
  where
    kept : (j : ℕ) → j < quarter → j ≢ n → SameFour quarter j old new
    kept j in_quarter other = record {
      a = others j other (λ e. omega arith) (λ e. omega arith) (λ e. omega arith);
      b = others (quarter + j) (λ e. omega arith) (λ e. other (omega arith)) (λ e. omega arith) (λ e. omega arith);
      c = others (2 * quarter + j) (λ e. omega arith) (λ e. omega arith) (λ e. other (omega arith)) (λ e. omega arith);
      d = others (3 * quarter + j) (λ e. omega arith) (λ e. omega arith) (λ e. omega arith) (λ e. other (omega arith));
    }

-- places counted in another way
pub FoursDone-at : (P : ℕ → ℕ → ℕ → ℕ → ℕ → ℕ → ℕ → ℕ → Type 0) (bound quarter : ℕ) (first block : List ℕ) (n m : ℕ) → n ≡ m
    → FoursDone P bound quarter first block n → FoursDone P bound quarter first block m
FoursDone-at P bound quarter first block n m same done = subst (λ n. FoursDone P bound quarter first block n) same done

-- all words of a block are below a bound where those of each place are
pub RowBelow-fours : (bound quarter : ℕ) (block : List ℕ) → length block ≡ 4 * quarter → ((i : ℕ) → i < quarter → FourBelow bound quarter i block)
    → RowBelow bound block
RowBelow-fours bound quarter block len each j inside =
    ⊎_elim (λ (l : j < quarter). (each j l).a)
    (λ (g : quarter ≤ j). ⊎_elim (λ (l : j < 2 * quarter). at quarter (omega arith) (each (j - quarter) (omega arith)).b)
    (λ (g : 2 * quarter ≤ j). ⊎_elim (λ (l : j < 3 * quarter). at (2 * quarter) (omega arith) (each (j - 2 * quarter) (omega arith)).c)
    (λ (g : 3 * quarter ≤ j). at (3 * quarter) (omega arith) (each (j - 3 * quarter) (omega arith)).d)
    (cases_lt j (3 * quarter)))
    (cases_lt j (2 * quarter)))
    (cases_lt j quarter)
  where
    at : (start : ℕ) → start + (j - start) ≡ j → get_or block (start + (j - start)) 0 < bound → get_or block j 0 < bound
    at start place below = subst (λ j. get_or block j 0 < bound) place below
