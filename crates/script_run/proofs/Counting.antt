-- How many registers are live, and how many places are taken.
use Rattle.std.proofs.Common.{arith, Bool, true, false, cond, ◌≡◌, ℕ, zero, suc, ◌+◌, ◌<◌, ◌≤◌, max, nat_lt, refl, sym, ap, ap₂, ◌∙◌, ⊎_elim, List, [], ◌∷◌, ◌++◌, length, take, get_or, set, slice_index, fold, length-take}
use Rattle.std.specs.Prelude.{◌↔◌}
use Rattle.std.specs.List.{count_by, range_with_len}
use Rattle.std.proofs.lemmas.Bool.{cases_lt, lt-ltb, le-ltb}
use Rattle.std.proofs.lemmas.List.{take_more, get_or-take, get_or-set_same, get_or-set_other, length-set, get_or_push, get_or_append_left, get_or_past, length_push}
use Rattle.std.proofs.lemmas.List.FromFn.{map-range_with_len_more, length-range_with_len}
use Rattle.std.proofs.lemmas.List.Sums.{fold_push, sum_by-cons, sum_by-append, sum_by-set, count_by-le-length}
use Rattle.ring_law.specs.Sums.{values_below}
use Rattle.script_text.specs.Scripts.{Script}
use Rattle.script_run.specs.Ends.{AreEnds, IsTaken, taken_count}
use Rattle.script_run.specs.Registers.{Live, input_count, is_live, live_count, most_live}
use Rattle.script_run.proofs.LiveTests.{tested_live}

-- numbers from a on pass a test as often as the elements of a list pass another that answers alike
counted : (p q : ℕ → Bool) (xs : List ℕ) (a : ℕ) → ((k : ℕ) → k < length xs → p (a + k) ≡ q (get_or xs k 0)) → count_by p (range_with_len a (length xs)) ≡ count_by q xs
counted p q [] a same = refl
counted p q (x ∷ xs) a same =
    let start : a ≡ a + 0 = omega arith in
    let here : p a ≡ q x = ap p start ∙ same 0 (omega arith) in
    let rest : count_by p (range_with_len (a + 1) (length xs)) ≡ count_by q xs
    = counted p q xs (a + 1) (λ k below. let shifted : a + 1 + k ≡ a + suc k = omega arith in ap p shifted ∙ same (suc k) (omega (arith, below))) in
    sum_by-cons (λ y. cond (p y) 1 0) a (range_with_len (a + 1) (length xs))
    ∙ ap₂ (λ (m n : ℕ). m + n) (ap (λ (b : Bool). cond b 1 0) here) rest
    ∙ sym (sum_by-cons (λ y. cond (q y) 1 0) x xs)

is_false : (b : Bool) → (b ≡ true → ⊥) → b ≡ false
is_false true not = absurd (not refl)
is_false false not = refl

-- a register is live exactly before its end
live_is : (script : Script) (i r end : ℕ) → Live script i r ↔ (i < end) → is_live script i r ≡ nat_lt i end
live_is script i r end ends = ⊎_elim
    (λ before. (tested_live script i r).1 (ends.1 before) ∙ sym (lt-ltb i end before))
    (λ after. is_false (is_live script i r) (λ test. let before = ends.0 ((tested_live script i r).0 test) in omega (arith, before, after)) ∙ sym (le-ltb i end after))
    (cases_lt i end)

-- so many registers are live before step i as have a later end
pub live_counted : (script : Script) (ends : List ℕ) (i : ℕ) → AreEnds script ends → i ≤ length script.steps → live_count script i ≡ taken_count i (take (input_count script + i) ends)
live_counted script ends i are within =
    let size = are.size in
    let whole = length-take (input_count script + i) ends in
    let count : input_count script + i ≡ length (take (input_count script + i) ends) = omega (arith, size, whole, within) in
    ap (λ (n : ℕ). count_by (is_live script i) (range_with_len 0 n)) count
    ∙ counted (is_live script i) (nat_lt i) (take (input_count script + i) ends) 0 (λ k below.
    let defined : k < input_count script + i = omega (arith, below, count) in
    let zeroth : 0 + k ≡ k = omega arith in
    ap (is_live script i) zeroth ∙ live_is script i k (slice_index ends k) (are.live i k within defined)
    ∙ ap (nat_lt i) (sym (get_or-take (input_count script + i) ends k 0 defined)))

-- the greatest of some values, and of one more
pub most_next : (f : ℕ → ℕ) (i most : ℕ) → most ≡ fold max 0 (values_below i f) → max most (f i) ≡ fold max 0 (values_below (i + 1) f)
most_next f i most is =
    ap (λ (m : ℕ). max m (f i)) is
    ∙ sym (ap (fold max 0) (map-range_with_len_more f 0 i i (omega arith)) ∙ fold_push max 0 (values_below i f) (f i))

-- the greatest of values that have a bound
most_within : (f : ℕ → ℕ) (n bound : ℕ) → ((i : ℕ) → i < n → f i ≤ bound) → fold max 0 (values_below n f) ≤ bound
most_within f zero bound within = omega arith
most_within f (suc n) bound within =
    let next = most_next f n (fold max 0 (values_below n f)) refl in
    let before : fold max 0 (values_below n f) ≤ bound = most_within f n bound (λ i below. within i (omega (arith, below))) in
    let last = within n (omega arith) in
    let more : suc n ≡ n + 1 = omega arith in
    let step : fold max 0 (values_below (suc n) f) ≡ max (fold max 0 (values_below n f)) (f n) = ap (λ (k : ℕ). fold max 0 (values_below k f)) more ∙ sym next in
    omega (arith, step, before, last)

-- no more registers are live than there are
pub most_live_within : (script : Script) → most_live script ≤ input_count script + length script.steps
most_live_within script = most_within (live_count script) (length script.steps + 1) (input_count script + length script.steps) (λ i below.
    let few = count_by-le-length (is_live script i) (range_with_len 0 (input_count script + i)) in
    let size = length-range_with_len 0 (input_count script + i) in
    omega (arith, few, size, below))

abbrev one_if : Bool → ℕ
one_if b = cond b 1 0

-- more places are taken, where one that was free is, or a new one
pub count_set : (old : List ℕ) (i until place j : ℕ) → place < length old → slice_index old place ≤ i → i ≤ j → taken_count j (set old place until) ≡ taken_count j old + taken_count j (until ∷ [])
count_set old i until place j there free later =
    let changed = sum_by-set (λ end. cond (nat_lt j end) 1 0) old place until 0 there in
    let none : one_if (nat_lt j (get_or old place 0)) ≡ 0 = ap one_if (le-ltb j (get_or old place 0) (omega (arith, free, later))) in
    omega (arith, changed, none)

pub count_push : (old : List ℕ) (until j : ℕ) → taken_count j (old ++ until ∷ []) ≡ taken_count j old + taken_count j (until ∷ [])
count_push old until j = sum_by-append (λ end. cond (nat_lt j end) 1 0) old (until ∷ [])

pub count_more : (ends : List ℕ) (n j : ℕ) → n < length ends → taken_count j (take (n + 1) ends) ≡ taken_count j (take n ends) + taken_count j (slice_index ends n ∷ [])
count_more ends n j below = ap (taken_count j) (take_more ends n 0 below) ∙ count_push (take n ends) (slice_index ends n) j

-- all places are taken where each has a later end
pub all_taken : (taken : List ℕ) (i : ℕ) → ((p : ℕ) → p < length taken → i < slice_index taken p) → taken_count i taken ≡ length taken
all_taken [] i each = refl
all_taken (end ∷ taken) i each =
    let here : one_if (nat_lt i end) ≡ 1 = ap one_if (lt-ltb i end (each 0 (omega arith))) in
    let rest : taken_count i taken ≡ length taken = all_taken taken i (λ p below. each (suc p) (omega (arith, below))) in
    let whole = sum_by-cons (λ y. cond (nat_lt i y) 1 0) end taken in
    omega (arith, here, rest, whole)

-- a place that was free is taken
pub taken_again : (old new : List ℕ) (i until place : ℕ) → new ≡ set old place until → place < length old → slice_index old place ≤ i → IsTaken old new i until place
taken_again old new i until place is there free =
    let size = ap length is ∙ length-set old place until in
    record {
      free = free;
      inside = omega (arith, size, there);
      here = ap (λ (xs : List ℕ). slice_index xs place) is ∙ get_or-set_same old place until 0 there;
      others = λ p other. ap (λ (xs : List ℕ). slice_index xs p) is ∙ get_or-set_other old place p until 0 other;
      later = λ j later. ap (taken_count j) is ∙ count_set old i until place j there free later;
      more = omega (arith, size);
      few = omega (arith, size);
    }

-- a new place is taken, since no other is free
pub taken_anew : (old new : List ℕ) (i until place : ℕ) → new ≡ old ++ until ∷ [] → length old ≤ place → place ≤ length old → ((p : ℕ) → p < place → i < slice_index old p) → IsTaken old new i until place
taken_anew old new i until place is end inside before =
    let size = ap length is ∙ length_push old until in
    let none : slice_index old place ≡ 0 = get_or_past old place 0 end in
    let all : taken_count i old ≡ length old = all_taken old i (λ p below. before p (omega (arith, below, end))) in
    record {
      free = omega (arith, none);
      inside = omega (arith, size, inside);
      here = ap (λ (xs : List ℕ). slice_index xs place) is ∙ get_or_push old until 0 place (omega (arith, end, inside));
      others = λ p other. ap (λ (xs : List ℕ). slice_index xs p) is ∙ elsewhere p (λ same. other (same ∙ omega (arith, end, inside)));
      later = λ j later. ap (taken_count j) is ∙ count_push old until j;
      more = omega (arith, size);
      few = omega (arith, size, all);
    }
  where
    elsewhere : (p : ℕ) → (p ≡ length old → ⊥) → slice_index (old ++ until ∷ []) p ≡ slice_index old p
    elsewhere p other = ⊎_elim
        (λ below. get_or_append_left old (until ∷ []) 0 p below)
        (λ past. let whole = length_push old until in
        ⊎_elim (λ last. absurd (other (omega (arith, past, last)))) (λ beyond. get_or_past (old ++ until ∷ []) p 0 (omega (arith, whole, beyond)) ∙ sym (get_or_past old p 0 past)) (cases_lt p (length old + 1)))
        (cases_lt p (length old))
