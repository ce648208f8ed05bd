-- Rows in which the first parts are done, and blocks that are put together from their halves.
use Rattle.std.proofs.Common.{◌≡◌, ℕ, ◌+◌, ◌-◌, ◌*◌, ◌<◌, ◌≤◌, List, ◌++◌, take, drop, length, get_or, arith, refl, sym, ap, ◌∙◌, subst, ⊎_elim, length-drop, length-append, mul-le-mul_right, drop-drop, take_at}
use Rattle.std.proofs.lemmas.List.{get_or_append_left, get_or-append_right, get_or-take, get_or-drop, length-take, drop-take, drop_at}
use Rattle.std.proofs.lemmas.Slice.{take-put_mid_below, drop-put_mid}
use Rattle.std.proofs.lemmas.Bool.{cases_lt}
use Rattle.lane_rows.specs.Rows.{RowBelow}
use Rattle.neg_ntt.specs.Butterflies.{EachBlock, EachPair, EachPart}
use borrow.Rule.Slice.PartMut.{put_mid, mid_of}

-- a block of two halves, each pair of whose words became the pair of words of two rows
pub EachPair-append : (P : ℕ → ℕ → ℕ → ℕ → Type 0) (half : ℕ) (old low high new_low new_high : List ℕ)
    → low ≡ take half old → high ≡ drop half old → length new_low ≡ half
    → ((r : ℕ) → r < half → P (get_or low r 0) (get_or high r 0) (get_or new_low r 0) (get_or new_high r 0))
    → EachPair P half old (new_low ++ new_high)
EachPair-append P half old low high new_low new_high is_low is_high len pairs r inside =
    let in_low : r < length new_low = omega arith in
    let past : length new_low ≤ half + r = omega arith in
    let place : half + r - length new_low ≡ r = omega arith in
    let before : get_or low r 0 ≡ get_or old r 0 = rw is_low (get_or-take half old r 0 inside) in
    let after : get_or high r 0 ≡ get_or old (half + r) 0 = rw is_high (get_or-drop half old r 0) in
    let whole = pairs r inside in
    let pair = rw (before, after) at whole in
    rw (get_or_append_left new_low new_high 0 r in_low, get_or-append_right new_low new_high (length new_low) (half + r) 0 refl past, place) pair

-- a word of a part of a row
pub part_word : (width start : ℕ) (xs : List ℕ) (r : ℕ) → r < width → get_or (take width (drop start xs)) r 0 ≡ get_or xs (start + r) 0
part_word width start xs r inside = get_or-take width (drop start xs) r 0 inside ∙ get_or-drop start xs r 0

-- what holds of the pairs of each part holds of those of each block
pub EachBlock-parts : (P : ℕ → ℕ → ℕ → ℕ → ℕ → Type 0) (count half : ℕ) (old new : List ℕ)
    → EachPart (λ i. EachPair (P i) half) count (2 * half) old new → EachBlock P count half old new
EachBlock-parts P count half old new parts i r below inside =
    let low : r < 2 * half = omega arith in
    let high : half + r < 2 * half = omega arith in
    let pair = parts i below r inside in
    rw (
      part_word (2 * half) (i * (2 * half)) old r low,
      part_word (2 * half) (i * (2 * half)) old (half + r) high,
      part_word (2 * half) (i * (2 * half)) new r low,
      part_word (2 * half) (i * (2 * half)) new (half + r) high,
    ) at pair

-- a row that is one block
pub EachBlock-one : (P : ℕ → ℕ → ℕ → ℕ → ℕ → Type 0) (half : ℕ) (old new : List ℕ) → EachPair (P 0) half old new → EachBlock P 1 half old new
EachBlock-one P half old new pairs i r below inside =
    let first : 0 ≡ i = omega arith in
    subst (λ i. P i (get_or old (i * (2 * half) + r) 0) (get_or old (i * (2 * half) + (half + r)) 0) (get_or new (i * (2 * half) + r) 0)
    (get_or new (i * (2 * half) + (half + r)) 0)) first (rw (here r, here (half + r)) (pairs r inside))
  where
    here : (s : ℕ) → 0 * (2 * half) + s ≡ s
    here s = omega arith

-- in a row that first was as told, P holds of the parts before part i, and the row from it on is as it was
pub record PartsDone (P : ℕ → List ℕ → List ℕ → Type 0) (width : ℕ) (first row : List ℕ) (i : ℕ) : Type 0 where
  pub done : EachPart P i width first row
  pub rest : drop (i * width) row ≡ drop (i * width) first

pub PartsDone-none : (P : ℕ → List ℕ → List ℕ → Type 0) (width : ℕ) (row : List ℕ) → PartsDone P width row row 0
PartsDone-none P width row = record { done = λ j l. absurd (omega arith); rest = refl }

module _ (P : ℕ → List ℕ → List ℕ → Type 0) (width : ℕ) (first row block : List ℕ) (i start k : ℕ) (at_part : start ≡ i * width)
    (is_whole : k ≡ width) (within : start + k ≤ length row) (len : length block ≡ k) (before : PartsDone P width first row i)
    (here : P i (mid_of start k row) block) where
  -- an earlier part
  earlier : (j : ℕ) → j < i → take width (drop (j * width) (put_mid start k row block)) ≡ take width (drop (j * width) row)
  earlier j below =
      let room : j * width + width ≤ start = (let m = mul-le-mul_right width below in omega arith) in
      sym (drop-take (j * width) width (put_mid start k row block))
      ∙ ap (drop (j * width)) (take-put_mid_below start k row block (j * width + width) room (omega arith)) ∙ drop-take (j * width) width row

  -- the part that was written
  written : take k (drop start (put_mid start k row block)) ≡ block
  written =
      let size : length (take start row) ≡ start = omega (arith, length-take start row) in
      ap (take k) (drop_at (take start row) (block ++ drop k (drop start row)) start size) ∙ take_at block (drop k (drop start row)) k len

  here_first : P i (take width (drop (i * width) first)) (take width (drop (i * width) (put_mid start k row block)))
  here_first =
      subst (λ w. P i (take w (drop (i * width) first)) (take w (drop (i * width) (put_mid start k row block)))) is_whole
      (rw (← before.rest, ← at_part, written) here)

  later : drop ((i + 1) * width) (put_mid start k row block) ≡ drop ((i + 1) * width) first
  later =
      let end : start + k ≤ (i + 1) * width = omega arith in
      let next : i * width + width ≡ (i + 1) * width = omega arith in
      drop-put_mid start k row block ((i + 1) * width) end (omega arith) len ∙ ap (λ n. drop n row) (sym next) ∙ sym (drop-drop width (i * width) row)
      ∙ ap (drop width) before.rest ∙ drop-drop width (i * width) first ∙ ap (λ n. drop n first) next

  pub PartsDone-put_mid : PartsDone P width first (put_mid start k row block) (i + 1)
  PartsDone-put_mid = record {
    done = λ j below. ⊎_elim
        (λ (l : j < i). subst (λ part. P j (take width (drop (j * width) first)) part) (sym (earlier j l)) (before.done j l))
        (λ (l : i ≤ j).
        let same : i ≡ j = omega arith in
        subst (λ j. P j (take width (drop (j * width) first)) (take width (drop (j * width) (put_mid start k row block)))) same here_first)
        (cases_lt j i);
    rest = later;
  }

-- an element before a part that was written
get_or-put_mid_before : (a k : ℕ) (xs ys : List ℕ) (j d : ℕ) → a ≤ length xs → j < a → get_or (put_mid a k xs ys) j d ≡ get_or xs j d
get_or-put_mid_before a k xs ys j d within below =
    let size : length (take a xs) ≡ a = omega (arith, length-take a xs) in
    let inside : j < length (take a xs) = omega arith in
    get_or_append_left (take a xs) (ys ++ drop k (drop a xs)) d j inside ∙ get_or-take a xs j d below

-- an element of that part
get_or-put_mid_at : (a k : ℕ) (xs ys : List ℕ) (r d : ℕ) → a ≤ length xs → r < length ys → get_or (put_mid a k xs ys) (a + r) d ≡ get_or ys r d
get_or-put_mid_at a k xs ys r d within inside =
    let size : length (take a xs) ≡ a = omega (arith, length-take a xs) in
    let past : length (take a xs) ≤ a + r = omega arith in
    let place : a + r - length (take a xs) ≡ r = omega arith in
    get_or-append_right (take a xs) (ys ++ drop k (drop a xs)) (length (take a xs)) (a + r) d refl past
    ∙ ap (λ i. get_or (ys ++ drop k (drop a xs)) i d) place ∙ get_or_append_left ys (drop k (drop a xs)) d r inside

-- an element after it
get_or-put_mid_after : (a k : ℕ) (xs ys : List ℕ) (j d : ℕ) → a ≤ length xs → length ys ≡ k → a + k ≤ j → get_or (put_mid a k xs ys) j d ≡ get_or xs j d
get_or-put_mid_after a k xs ys j d within len after =
    let size : length (take a xs) ≡ a = omega (arith, length-take a xs) in
    let past : length (take a xs) ≤ j = omega arith in
    let past_part : length ys ≤ j - length (take a xs) = omega arith in
    let place : a + (k + (j - length (take a xs) - length ys)) ≡ j = omega arith in
    get_or-append_right (take a xs) (ys ++ drop k (drop a xs)) (length (take a xs)) j d refl past
    ∙ get_or-append_right ys (drop k (drop a xs)) (length ys) (j - length (take a xs)) d refl past_part
    ∙ get_or-drop k (drop a xs) (j - length (take a xs) - length ys) d
    ∙ get_or-drop a xs (k + (j - length (take a xs) - length ys)) d
    ∙ ap (λ i. get_or xs i d) place

-- after a write to a part, each word is below a bound where those of the row and of the part are
pub RowBelow-put_mid : (bound a k : ℕ) (xs ys : List ℕ) → a + k ≤ length xs → length ys ≡ k → RowBelow bound xs → RowBelow bound ys
    → RowBelow bound (put_mid a k xs ys)
RowBelow-put_mid bound a k xs ys within len below_xs below_ys j inside =
    let size : j < length xs = omega (arith, inside, length-append (take a xs) (ys ++ drop k (drop a xs)), length-append ys (drop k (drop a xs)), length-take a xs, length-drop k (drop a xs), length-drop a xs) in
    ⊎_elim
    (λ (l : j < a). rw (get_or-put_mid_before a k xs ys j 0 (omega arith) l) (below_xs j size))
    (λ (l : a ≤ j). ⊎_elim
    (λ (m : j < a + k).
    let place : a + (j - a) ≡ j = omega arith in
    let in_part : j - a < length ys = omega arith in
    subst (λ j. get_or (put_mid a k xs ys) j 0 < bound) place (rw (get_or-put_mid_at a k xs ys (j - a) 0 (omega arith) in_part) (below_ys (j - a) in_part)))
    (λ (m : a + k ≤ j). rw (get_or-put_mid_after a k xs ys j 0 (omega arith) len m) (below_xs j size))
    (cases_lt j (a + k)))
    (cases_lt j a)
