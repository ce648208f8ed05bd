-- Numbers that are cut down to the largest u64, and the first of them that is too large.
use Rattle.std.proofs.Common.{◌≡◌, ◌<◌, ◌≤◌, ◌+◌, ◌-◌, ℕ, min, false, not, cond, nat_le, nat_lt, List, [], ◌∷◌, ◌++◌, length, map, position, replicate, refl, arith, Some, None}
use Rattle.std.proofs.lemmas.Bool.Decides.{nat_tests}
use Rattle.std.proofs.lemmas.List.{length-map}
use Rattle.std.specs.List.{position_or_len}
use Rattle.std.specs.Option.{option_map}
use Rattle.script_text.specs.Limits.{max_values_bytes}
use Rattle.script_text.specs.Reading.{values_of, values_unless, numbers, earlier, first_stray, first_surplus}
use Rattle.script_text.specs.declared.faults.ValuePlace.TheVariants.{TooLarge}

-- a bound of at most `most` sees no difference
same_test : (most t value : ℕ) → t ≤ most → nat_le t (min value most) ≡ nat_le t value
same_test most t value fits = grind (arith, nat_tests)

same_first : (most t : ℕ) (values : List ℕ) → t ≤ most → position_or_len (λ value. nat_le t value) (map (λ value. min value most) values) ≡ position_or_len (λ value. nat_le t value) values
same_first most t [] fits = refl
same_first most t (value ∷ values) fits =
    let here = same_test most t value fits in
    let there = same_first most t values fits in
    cc

pub position-saturated : (most t : ℕ) (values : List ℕ) → t ≤ most → position (λ value. nat_le t value) (map (λ value. min value most) values) ≡ position (λ value. nat_le t value) values
position-saturated most t values fits =
    let first = same_first most t values fits in
    let as_many : length (map (λ value. min value most) values) ≡ length values = length-map values (λ value. min value most) in
    cc

pub none_first : (first count : ℕ) → cond (nat_lt first count) (Some first) None ≡ None → count ≤ first
none_first first count none = grind (arith, nat_tests)

first_below : (t value first count : ℕ) → count + 1 ≤ cond (not (nat_le t value)) (1 + first) 0 → (value < t) × (count ≤ first)
first_below t value first count none = grind (arith, nat_tests)

uncut : (most t : ℕ) (values : List ℕ) → t ≤ most → length values ≤ position_or_len (λ value. nat_le t value) values → map (λ value. min value most) values ≡ values
uncut most t [] fits none = refl
uncut most t (value ∷ values) fits none =
    let below = first_below t value (position_or_len (λ v. nat_le t v) values) (length values) (omega arith) in
    let here : min value most ≡ value = omega arith in
    let there = uncut most t values fits below.1 in
    cc

-- where none is too large, none was cut down
pub map-saturated : (most t : ℕ) (values : List ℕ) → t ≤ most → position (λ value. nat_le t value) values ≡ None → map (λ value. min value most) values ≡ values
map-saturated most t values fits none = uncut most t values fits (none_first _ _ none)

-- a text with no other fault: its values decide
pub values_decide : (text : List ℕ) (n t : ℕ) → length text ≤ max_values_bytes → earlier (first_stray text) (first_surplus text) ≡ None → length (numbers text) ≤ n
    → values_of text n t ≡ values_unless (option_map TooLarge (position (λ value. nat_le t value) (numbers text))) (numbers text ++ replicate (n - length (numbers text)) 0)
values_decide text n t short good few =
    let is_short : nat_lt max_values_bytes (length text) ≡ false = grind (arith, nat_tests) in
    let is_few : nat_lt n (length (numbers text)) ≡ false = grind (arith, nat_tests) in
    cc
