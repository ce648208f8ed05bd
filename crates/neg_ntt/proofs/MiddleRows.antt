-- Two layers at once are two layers one after the other, by way of a middle row.
use Rattle.std.proofs.Common.{◌≡◌, ℕ, zero, suc, ◌+◌, ◌-◌, ◌*◌, ◌<◌, ◌≤◌, List, [], ◌∷◌, ◌++◌, take, drop, length, get_or, arith, refl, sym, ap, ◌∙◌, subst, ⊎_elim, length-append, map, drop-drop, take_at, take_all}
use Rattle.std.proofs.Math.ListN.{get_or-map}
use Rattle.std.proofs.lemmas.List.{drop_at, length-map, get_or-append-add, get_or_append_left}
use Rattle.std.proofs.lemmas.Bool.{cases_lt}
use Rattle.ring_law.proofs.BitReversal.{even_or_odd}
use Rattle.lane_rows.specs.Butterflies.{EachFour, TwoLayers, TwoLayersBack}
use Rattle.neg_ntt.specs.Butterflies.{ByMiddleRow, EachBlock, EachPair, EachPart}
use Rattle.neg_ntt.proofs.Blocks.{EachBlock-parts, part_word}

-- a list of elements that are there at each place
record Choice {A : Type 0} (d : A) (n : ℕ) (R : ℕ → A → Type 0) : Type 0 where
  chosen : List A
  len : length chosen ≡ n
  at : (i : ℕ) → i < n → R i (get_or chosen i d)

choice : {A : Type 0} (d : A) (n : ℕ) (R : ℕ → A → Type 0) → ((i : ℕ) → i < n → (x : A) × R i x) → Choice d n R
choice d zero R each = record { chosen = []; len = refl; at = λ i l. absurd (omega arith) }
choice d (suc n) R each =
    let first = each 0 (omega arith) in
    let more = choice d n (λ i. R (suc i)) (λ i l. each (suc i) (omega arith)) in
    record { chosen = first.0 ∷ more.chosen; len = ap suc more.len; at = at d n R first.0 first.1 more.chosen more.at }
  where
    at : {A : Type 0} (d : A) (n : ℕ) (R : ℕ → A → Type 0) (x : A) → R 0 x → (xs : List A) → ((i : ℕ) → i < n → R (suc i) (get_or xs i d))
        → (i : ℕ) → i < suc n → R i (get_or (x ∷ xs) i d)
    at d n R x here xs there zero l = here
    at d n R x here xs there (suc i) l = there i (omega arith)

-- the middle words at one place of the quarters
record MiddleWords : Type 0 where
  a : ℕ
  b : ℕ
  c : ℕ
  d : ℕ

module _ (outer first second : ℕ → ℕ → ℕ → ℕ → Type 0) (quarter : ℕ) (old new : List ℕ) where
  -- the middle words fit the words of a block before and after
  record AreMiddle (i : ℕ) (m : MiddleWords) : Type 0 where
    outer_a : outer (get_or old i 0) (get_or old (2 * quarter + i) 0) m.a m.c
    outer_b : outer (get_or old (quarter + i) 0) (get_or old (3 * quarter + i) 0) m.b m.d
    first_half : first m.a m.b (get_or new i 0) (get_or new (quarter + i) 0)
    second_half : second m.c m.d (get_or new (2 * quarter + i) 0) (get_or new (3 * quarter + i) 0)

  -- a middle block
  record MiddleBlock (middle : List ℕ) : Type 0 where
    len : length middle ≡ 4 * quarter
    halves : EachPair outer (2 * quarter) old middle
    first_half : EachPair first quarter middle new
    second_half : (r : ℕ) → r < quarter → second (get_or middle (2 * quarter + r) 0) (get_or middle (3 * quarter + r) 0) (get_or new (2 * quarter + r) 0)
        (get_or new (3 * quarter + r) 0)

  words : EachFour (TwoLayers outer first second) quarter old new → (i : ℕ) → i < quarter → (m : MiddleWords) × AreMiddle i m
  words fours i inside =
      let four = fours i inside in (
        record { a = four.middle_a; b = four.middle_b; c = four.middle_c; d = four.middle_d },
        record { outer_a = four.outer_a; outer_b = four.outer_b; first_half = four.first_half; second_half = four.second_half },
      )

  middle_block : EachFour (TwoLayers outer first second) quarter old new → (middle : List ℕ) × MiddleBlock middle
  middle_block fours = (
    middle,
    record {
      len = omega (arith, length-append row_a (row_b ++ (row_c ++ row_d)), length-append row_b (row_c ++ row_d), length-append row_c row_d, len (λ m. m.a), len (λ m. m.b), len (λ m. m.c), len (λ m. m.d));
      halves = λ r inside. ⊎_elim
          (λ (l : r < quarter). rw (at_a r l, at_c r l) (all.at r l).outer_a)
          (λ (l : quarter ≤ r).
          let s : ℕ = r - quarter in
          let s_inside : s < quarter = omega arith in
          let low : quarter + s ≡ r = omega arith in
          let high : 3 * quarter + s ≡ 2 * quarter + (quarter + s) = omega arith in
          let pair = rw (← at_b s s_inside, ← at_d s s_inside) at (all.at s s_inside).outer_b in
          subst (λ r. outer (get_or old r 0) (get_or old (2 * quarter + r) 0) (get_or middle r 0) (get_or middle (2 * quarter + r) 0)) low
          (subst (λ p. outer (get_or old (quarter + s) 0) (get_or old p 0) (get_or middle (quarter + s) 0) (get_or middle p 0)) high pair))
          (cases_lt r quarter);
      first_half = λ r inside. rw (at_a r inside, at_b r inside) (all.at r inside).first_half;
      second_half = λ r inside. rw (at_c r inside, at_d r inside) (all.at r inside).second_half;
    },
  )
    where
      none : MiddleWords
      none = record { a = 0; b = 0; c = 0; d = 0 }

      all : Choice none quarter AreMiddle
      all = choice none quarter AreMiddle (words fours)

      row_a : List ℕ
      row_a = map (λ m. m.a) all.chosen

      row_b : List ℕ
      row_b = map (λ m. m.b) all.chosen

      row_c : List ℕ
      row_c = map (λ m. m.c) all.chosen

      row_d : List ℕ
      row_d = map (λ m. m.d) all.chosen

      middle : List ℕ
      middle = row_a ++ (row_b ++ (row_c ++ row_d))

      len : (f : MiddleWords → ℕ) → length (map f all.chosen) ≡ quarter
      len f = length-map all.chosen f ∙ all.len

      -- past n words
      past : (xs ys : List ℕ) (n r : ℕ) → length xs ≡ n → get_or (xs ++ ys) (n + r) 0 ≡ get_or ys r 0
      past xs ys n r size = subst (λ n. get_or (xs ++ ys) (n + r) 0 ≡ get_or ys r 0) size (get_or-append-add xs ys r 0)

      at_a : (r : ℕ) → r < quarter → get_or middle r 0 ≡ (get_or all.chosen r none).a
      at_a r inside = get_or_append_left row_a (row_b ++ (row_c ++ row_d)) 0 r (omega (arith, len (λ m. m.a))) ∙ get_or-map (λ m. m.a) all.chosen r none

      at_b : (r : ℕ) → r < quarter → get_or middle (quarter + r) 0 ≡ (get_or all.chosen r none).b
      at_b r inside =
          past row_a (row_b ++ (row_c ++ row_d)) quarter r (len (λ m. m.a)) ∙ get_or_append_left row_b (row_c ++ row_d) 0 r (omega (arith, len (λ m. m.b)))
          ∙ get_or-map (λ m. m.b) all.chosen r none

      at_c : (r : ℕ) → r < quarter → get_or middle (2 * quarter + r) 0 ≡ (get_or all.chosen r none).c
      at_c r inside =
          let place : 2 * quarter + r ≡ quarter + (quarter + r) = omega arith in
          ap (λ p. get_or middle p 0) place ∙ past row_a (row_b ++ (row_c ++ row_d)) quarter (quarter + r) (len (λ m. m.a))
          ∙ past row_b (row_c ++ row_d) quarter r (len (λ m. m.b)) ∙ get_or_append_left row_c row_d 0 r (omega (arith, len (λ m. m.c))) ∙ get_or-map (λ m. m.c) all.chosen r none

      at_d : (r : ℕ) → r < quarter → get_or middle (3 * quarter + r) 0 ≡ (get_or all.chosen r none).d
      at_d r inside =
          let place : 3 * quarter + r ≡ quarter + (quarter + (quarter + r)) = omega arith in
          ap (λ p. get_or middle p 0) place ∙ past row_a (row_b ++ (row_c ++ row_d)) quarter (quarter + (quarter + r)) (len (λ m. m.a))
          ∙ past row_b (row_c ++ row_d) quarter (quarter + r) (len (λ m. m.b)) ∙ past row_c row_d quarter r (len (λ m. m.c)) ∙ get_or-map (λ m. m.d) all.chosen r none

-- what is left of a row behind its first part
tail_part : (width i : ℕ) (xs : List ℕ) → take width (drop (suc i * width) xs) ≡ take width (drop (i * width) (drop width xs))
tail_part width i xs = ap (take width) (ap (λ n. drop n xs) (next i width) ∙ sym (drop-drop (i * width) width xs))
  where
    next : (i w : ℕ) → suc i * w ≡ w + i * w
    next i w = omega arith

first_part : (width : ℕ) (xs : List ℕ) → take width (drop (0 * width) xs) ≡ take width xs
first_part width xs = ap (λ n. take width (drop n xs)) (none width)
  where
    none : (w : ℕ) → 0 * w ≡ 0
    none w = omega arith

-- a row that is one part
pub EachPart-one : (P : ℕ → List ℕ → List ℕ → Type 0) (width : ℕ) (old new : List ℕ) → length old ≡ width → length new ≡ width → P 0 old new
    → EachPart P 1 width old new
EachPart-one P width old new old_len new_len here i below =
    let first : 0 ≡ i = omega arith in
    subst (λ i. P i (take width (drop (i * width) old)) (take width (drop (i * width) new))) first (rw (whole old old_len, whole new new_len) here)
  where
    whole : (xs : List ℕ) → length xs ≡ width → take width (drop (0 * width) xs) ≡ xs
    whole xs len = first_part width xs ∙ take_all width xs (omega arith)

-- blocks that each became the new ones by way of a middle block make a middle row
middle_row : (P Q : ℕ → List ℕ → List ℕ → Type 0) (width count : ℕ) (old new : List ℕ)
    → ((i : ℕ) → i < count → (m : List ℕ) × (length m ≡ width) × P i (take width (drop (i * width) old)) m × Q i m (take width (drop (i * width) new)))
    → ByMiddleRow (EachPart P count width) (EachPart Q count width) old new
middle_row P Q width zero old new each = record { middle = []; first = λ i l. absurd (omega arith); second = λ i l. absurd (omega arith) }
middle_row P Q width (suc count) old new each =
    let here = each 0 (omega arith) in
    let m : List ℕ = here.0 in
    let rest = middle_row (λ i. P (suc i)) (λ i. Q (suc i)) width count (drop width old) (drop width new)
    (λ i l. rw (← tail_part width i old, ← tail_part width i new) (each (suc i) (omega arith))) in
    let at_first : take width (drop (0 * width) (m ++ rest.middle)) ≡ m = first_part width (m ++ rest.middle) ∙ take_at m rest.middle width here.1 in
    let behind : drop width (m ++ rest.middle) ≡ rest.middle = drop_at m rest.middle width here.1 in
    record {
      middle = m ++ rest.middle;
      first = split count P width old (m ++ rest.middle) (rw at_first here.2)
          (λ i l. rw (tail_part width i (m ++ rest.middle), behind, tail_part width i old) (rest.first i l));
      second = split count Q width (m ++ rest.middle) new (rw at_first here.3)
          (λ i l. rw (tail_part width i (m ++ rest.middle), behind, tail_part width i new) (rest.second i l));
    }
  where
    split : (count : ℕ) (R : ℕ → List ℕ → List ℕ → Type 0) (width : ℕ) (xs ys : List ℕ)
        → R 0 (take width (drop (0 * width) xs)) (take width (drop (0 * width) ys))
        → ((i : ℕ) → i < count → R (suc i) (take width (drop (suc i * width) xs)) (take width (drop (suc i * width) ys))) → EachPart R (suc count) width xs ys
    split count R width xs ys here there zero l = here
    split count R width xs ys here there (suc i) l = there i (omega arith)

-- pairs of both halves of a block
record BothHalves (first second : ℕ → ℕ → ℕ → ℕ → Type 0) (quarter : ℕ) (old new : List ℕ) : Type 0 where
  first_half : EachPair first quarter old new
  second_half : (r : ℕ) → r < quarter → second (get_or old (2 * quarter + r) 0) (get_or old (3 * quarter + r) 0) (get_or new (2 * quarter + r) 0)
      (get_or new (3 * quarter + r) 0)

module _ (A B : ℕ → ℕ → ℕ → ℕ → ℕ → Type 0) (count inner_count quarter : ℕ) (old new : List ℕ) (twice : inner_count ≡ 2 * count) where
  -- a word of a block of four quarters
  word : (xs : List ℕ) (i s p : ℕ) → s < 4 * quarter → i * (4 * quarter) + s ≡ p → get_or (take (4 * quarter) (drop (i * (4 * quarter)) xs)) s 0 ≡ get_or xs p 0
  word xs i s p inside place = part_word (4 * quarter) (i * (4 * quarter)) xs s inside ∙ ap (λ p. get_or xs p 0) place

  -- the halves of the blocks are blocks
  EachBlock-halves : (xs : List ℕ) → EachPart (λ i. BothHalves (B (2 * i)) (B (2 * i + 1)) quarter) count (4 * quarter) xs new → EachBlock B inner_count quarter xs new
  EachBlock-halves xs parts j r below inside = ⊎_elim
      (λ (h : (i : ℕ) × (j ≡ 2 * i)).
      let i : ℕ = h.0 in
      let pair = (parts i (omega (arith, h.1))).first_half r inside in
      let low : i * (4 * quarter) + r ≡ 2 * i * (2 * quarter) + r = omega arith in
      let high : i * (4 * quarter) + (quarter + r) ≡ 2 * i * (2 * quarter) + (quarter + r) = omega arith in
      subst at (sym h.1)
      (rw (word xs i r _ (omega arith) low, word xs i (quarter + r) _ (omega arith) high, word new i r _ (omega arith) low, word new i (quarter + r) _ (omega arith) high) at pair))
      (λ (h : (i : ℕ) × (j ≡ 2 * i + 1)).
      let i : ℕ = h.0 in
      let pair = (parts i (omega (arith, h.1))).second_half r inside in
      let low : i * (4 * quarter) + (2 * quarter + r) ≡ (2 * i + 1) * (2 * quarter) + r = omega arith in
      let high : i * (4 * quarter) + (3 * quarter + r) ≡ (2 * i + 1) * (2 * quarter) + (quarter + r) = omega arith in
      subst at (sym h.1)
      (rw (
        word xs i (2 * quarter + r) _ (omega arith) low,
        word xs i (3 * quarter + r) _ (omega arith) high,
        word new i (2 * quarter + r) _ (omega arith) low,
        word new i (3 * quarter + r) _ (omega arith) high,
      ) at pair))
      (even_or_odd j)
    where
      at : ℕ → Type 0
      at j = B j (get_or xs (j * (2 * quarter) + r) 0) (get_or xs (j * (2 * quarter) + (quarter + r)) 0) (get_or new (j * (2 * quarter) + r) 0)
          (get_or new (j * (2 * quarter) + (quarter + r)) 0)

  pub ByMiddleRow-fours : EachPart (λ i. EachFour (TwoLayers (A i) (B (2 * i)) (B (2 * i + 1))) quarter) count (4 * quarter) old new
      → ByMiddleRow (EachBlock A count (2 * quarter)) (EachBlock B inner_count quarter) old new
  ByMiddleRow-fours fours = record {
    middle = rows.middle;
    first = EachBlock-parts A count (2 * quarter) old rows.middle (subst (λ w. EachPart (λ i. EachPair (A i) (2 * quarter)) count w old rows.middle) width rows.first);
    second = EachBlock-halves rows.middle rows.second;
  }
    where
      width : 4 * quarter ≡ 2 * (2 * quarter)
      width = omega arith

      rows : ByMiddleRow (EachPart (λ i. EachPair (A i) (2 * quarter)) count (4 * quarter))
          (EachPart (λ i. BothHalves (B (2 * i)) (B (2 * i + 1)) quarter) count (4 * quarter)) old new
      rows = middle_row (λ i. EachPair (A i) (2 * quarter)) (λ i. BothHalves (B (2 * i)) (B (2 * i + 1)) quarter) (4 * quarter) count old new
          (λ i below.
          let m = middle_block (A i) (B (2 * i)) (B (2 * i + 1)) quarter (take (4 * quarter) (drop (i * (4 * quarter)) old))
          (take (4 * quarter) (drop (i * (4 * quarter)) new)) (fours i below) in
          (m.0, m.1.len, m.1.halves, record { first_half = m.1.first_half; second_half = m.1.second_half }))

-- the way back is the way there, from the new row to the old one
pub ByMiddleRow-fours_back : (A B : ℕ → ℕ → ℕ → ℕ → ℕ → Type 0) (count inner_count quarter : ℕ) (old new : List ℕ) → inner_count ≡ 2 * count
    → EachPart (λ i. EachFour (TwoLayersBack (A i) (B (2 * i)) (B (2 * i + 1))) quarter) count (4 * quarter) old new
    → ByMiddleRow (EachBlock B inner_count quarter) (EachBlock A count (2 * quarter)) old new
ByMiddleRow-fours_back A B count inner_count quarter old new twice fours =
    let turned = ByMiddleRow-fours (λ i x y s d. A i s d x y) (λ i x y s d. B i s d x y) count inner_count quarter new old twice
    (λ i below r inside.
    let four = fours i below r inside in
    record {
      middle_a = four.middle_a;
      middle_b = four.middle_b;
      middle_c = four.middle_c;
      middle_d = four.middle_d;
      outer_a = four.outer_a;
      outer_b = four.outer_b;
      first_half = four.first_half;
      second_half = four.second_half;
    }) in
    record { middle = turned.middle; first = turned.second; second = turned.first }
