use Rattle.std.proofs.Common.{◌≡◌, ℕ, ◌<◌, ◌≤◌, ◌+◌, List, length, get_or, arith, ap, ◌∙◌, min, cond, ltb, Bool, false, replicate, Fits, w64}
use Rattle.std.proofs.lemmas.Simd.{length-zip2, get_or-zip2, length-sel_l, get_or-sel_l, length-replicate, get_or-replicate, length-chunk, get_or-chunk, Each1-get_or}
use Rattle.std.proofs.lemmas.Bool.Decides.{nat_tests}
use Rattle.std.specs.Simd.Lanes.{Each1, zip2, sel_l, chunk}
use Rattle.lane_rows.specs.Lanes.{HasLanes}

-- a vector of one word
pub HasLanes-replicate : (x : ℕ) → HasLanes (replicate 4 x) (λ _. x)
HasLanes-replicate x = record { len = length-replicate 4 x; at = λ i h. get_or-replicate 4 i x 0 h }

-- four words of a row
pub HasLanes-chunk : (from : ℕ) (row : List ℕ) → from + 4 ≤ length row → HasLanes (chunk from 4 row) (λ i. get_or row (from + i) 0)
HasLanes-chunk from row room = record { len = length-chunk from 4 row room; at = λ i h. get_or-chunk from 4 row i 0 h }

-- an operator on two vectors
pub HasLanes-zip2 : (f : ℕ → ℕ → ℕ) (xs ys : List ℕ) (lane : ℕ → ℕ) → length xs ≡ 4 → length ys ≡ 4
    → ((i : ℕ) → i < 4 → f (get_or xs i 0) (get_or ys i 0) ≡ lane i) → HasLanes (zip2 f xs ys) lane
HasLanes-zip2 f xs ys lane len_xs len_ys each =
    let same : length xs ≡ length ys = omega arith in
    record {
      len = length-zip2 f xs ys same ∙ len_xs;
      at = λ i h.
          let in_xs : i < length xs = omega arith in
          let in_ys : i < length ys = omega arith in
          get_or-zip2 f xs ys i 0 0 0 in_xs in_ys ∙ each i h;
    }

lesser_is : (a b : ℕ) → cond (ltb a b) a b ≡ min a b
lesser_is a b = grind (arith, nat_tests)

-- in each lane the word of xs where it is the lesser one, and else the word of ys
pub HasLanes-sel_l : (xs ys : List ℕ) → length xs ≡ 4 → length ys ≡ 4
    → HasLanes (sel_l (zip2 ltb xs ys) xs ys) (λ i. min (get_or xs i 0) (get_or ys i 0))
HasLanes-sel_l xs ys len_xs len_ys =
    let same : length xs ≡ length ys = omega arith in
    let tests : List Bool = zip2 ltb xs ys in
    let len_tests : length tests ≡ length xs = length-zip2 ltb xs ys same in
    let len_tests_ys : length tests ≡ length ys = omega arith in
    record {
      len = length-sel_l tests xs ys len_tests len_tests_ys ∙ len_tests ∙ len_xs;
      at = λ i h.
          let in_xs : i < length xs = omega arith in
          let in_ys : i < length ys = omega arith in
          let in_tests : i < length tests = omega arith in
          get_or-sel_l tests xs ys i 0 in_tests in_xs in_ys
          ∙ ap (λ (test : Bool). cond test (get_or xs i 0) (get_or ys i 0)) (get_or-zip2 ltb xs ys i 0 0 false in_xs in_ys)
          ∙ lesser_is (get_or xs i 0) (get_or ys i 0);
    }

-- a lane is a word
pub lane_fits : (xs : List ℕ) → length xs ≡ 4 → Each1 (Fits w64) xs → (i : ℕ) → i < 4 → Fits w64 (get_or xs i 0)
lane_fits xs len each i h = Each1-get_or (Fits w64) xs i 0 (omega arith) each
