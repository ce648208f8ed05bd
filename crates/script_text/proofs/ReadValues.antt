-- What is known of the values of a text that has no fault.
use Rattle.std.proofs.Common.{◌≡◌, ◌<◌, ◌≤◌, ◌-◌, ℕ, Bool, true, false, cond, nat_le, nat_lt, List, ◌++◌, length, position, replicate, refl, arith, Option, Some, None, Ok, length-append}
use Rattle.std.specs.List.{All, position_or_len}
use Rattle.std.specs.Option.{option_or, option_map}
use Rattle.std.proofs.lemmas.Bool.Decides.{nat_tests}
use Rattle.std.proofs.lemmas.List.{length-replicate}
use Rattle.std.proofs.lemmas.List.Sums.{fails_before_first}
use Rattle.std.proofs.lemmas.List.Elements.{All-append, All-replicate}
use Rattle.script_text.specs.Limits.{max_values_bytes}
use Rattle.script_text.specs.Reading.{values_of, values_unless, numbers, earlier, first_stray, first_surplus}
use Rattle.script_text.specs.declared.faults.ValuePlace.TheVariants.{BadText, TooLarge, TooMany, TooLong}
use Rattle.script_text.proofs.Saturated.{none_first}

-- values come only where each test passed
tests_passed : (long : Bool) (bad : Option ℕ) (many : Bool) (large : Option ℕ) (padded values : List ℕ)
    → values_unless (option_or (cond long (Some TooLong) None) (option_or (option_map BadText bad) (option_or (cond many (Some TooMany) None) (option_map TooLarge large)))) padded ≡ Ok values
    → (many ≡ false) × (large ≡ None) × (values ≡ padded)
tests_passed false None false None padded values is = (refl, refl, cc)
tests_passed false None false (Some index) padded values is = absurd (cc)
tests_passed false None true large padded values is = absurd (cc)
tests_passed false (Some at) many large padded values is = absurd (cc)
tests_passed true bad many large padded values is = absurd (cc)

passed : (text : List ℕ) (n t : ℕ) (values : List ℕ) → values_of text n t ≡ Ok values
    → (length (numbers text) ≤ n) × (position (λ value. nat_le t value) (numbers text) ≡ None) × (values ≡ numbers text ++ replicate (n - length (numbers text)) 0)
passed text n t values is =
    let p = tests_passed (nat_lt max_values_bytes (length text)) (earlier (first_stray text) (first_surplus text)) (nat_lt n (length (numbers text))) (position (λ value. nat_le t value) (numbers text)) _ values is in
    let few : length (numbers text) ≤ n = grind (arith, nat_tests, p.0) in
    (few, p.1, p.2)

-- there are n values
pub length-values_of : (text : List ℕ) (n t : ℕ) (values : List ℕ) → values_of text n t ≡ Ok values → length values ≡ n
length-values_of text n t values is =
    let p = passed text n t values is in
    rw (p.2, length-append, length-replicate) (omega arith)

not_from : (t value : ℕ) → nat_le t value ≡ false → value < t
not_from t value test = grind (arith, nat_tests)

all_below : (t : ℕ) (values : List ℕ) → length values ≤ position_or_len (λ value. nat_le t value) values → All (λ value. value < t) values
all_below t values none = λ k d inside. not_from t _ (fails_before_first (λ value. nat_le t value) values k d (omega arith))

-- and each is below t
pub values_of-below : (text : List ℕ) (n t : ℕ) (values : List ℕ) → 0 < t → values_of text n t ≡ Ok values → All (λ value. value < t) values
values_of-below text n t values some is =
    let p = passed text n t values is in
    rw p.2 (All-append (λ value. value < t) _ _ (all_below t (numbers text) (none_first _ _ p.1)) (All-replicate (λ value. value < t) _ 0 some))
