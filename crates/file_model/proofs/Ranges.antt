-- The first number of a range that passes a test.
use Rattle.std.proofs.Common.{◌≡◌, ℕ, zero, suc, ◌+◌, ◌-◌, ◌<◌, List, [], ◌∷◌, ◌++◌, refl, ◌∙◌, ap, arith}
use Rattle.std.specs.Prelude.{Bool, true, false, not, Option, Some, None, find, if◌then◌else◌}
use Rattle.std.specs.List.{list_all, range_with_len}
use Rattle.std.specs.Option.{option_or}
use Rattle.std.proofs.lemmas.Bool.{and_parts, and_from}
use Rattle.std.proofs.lemmas.List.Folds.{find-append}

-- a range in two
pub range-add : (a n m : ℕ) → range_with_len a (n + m) ≡ range_with_len a n ++ range_with_len (a + n) m
range-add a zero m =
    let count : 0 + m ≡ m = omega arith in
    let first : a ≡ a + 0 = omega arith in
    ap (range_with_len a) count ∙ ap (λ (x : ℕ). range_with_len x m) first
range-add a (suc n) m =
    let count : suc n + m ≡ suc (n + m) = omega arith in
    let first : (a + 1) + n ≡ a + suc n = omega arith in
    ap (range_with_len a) count
    ∙ ap (λ (l : List ℕ). a ∷ l) (range-add (a + 1) n m ∙ ap (λ (x : ℕ). range_with_len (a + 1) n ++ range_with_len x m) first)

-- the first in a range in two
pub find-range_add : (p : ℕ → Bool) (a n m : ℕ)
    → find p (range_with_len a (n + m)) ≡ option_or (find p (range_with_len a n)) (find p (range_with_len (a + n) m))
find-range_add p a n m = ap (find p) (range-add a n m) ∙ find-append p (range_with_len a n) (range_with_len (a + n) m)

-- none so far, and not the next
pub find-range_more : (p : ℕ → Bool) (a n : ℕ) → find p (range_with_len a n) ≡ None → p (a + n) ≡ false
    → find p (range_with_len a (n + 1)) ≡ None
find-range_more p a n none fails =
    find-range_add p a n 1 ∙ ap (λ (o : Option ℕ). option_or o (find p (range_with_len (a + n) 1))) none
    ∙ ap (λ (b : Bool). if b then Some (a + n) else None) fails

-- none so far, and the next
pub find-range_here : (p : ℕ → Bool) (a n count : ℕ) → n < count → find p (range_with_len a n) ≡ None → p (a + n) ≡ true
    → find p (range_with_len a count) ≡ Some (a + n)
find-range_here p a n count inside none here =
    let split : count ≡ n + suc (count - n - 1) = omega arith in
    ap (λ (x : ℕ). find p (range_with_len a x)) split ∙ find-range_add p a n (suc (count - n - 1))
    ∙ ap (λ (o : Option ℕ). option_or o (find p (range_with_len (a + n) (suc (count - n - 1))))) none
    ∙ ap (λ (b : Bool). if b then Some (a + n) else find p (range_with_len (a + n + 1) (count - n - 1))) here

-- all pass where none fails, and back
list_all-first : {X : Type 0} (p : X → Bool) (x : X) (xs : List X) (b : Bool) → p x ≡ b
    → (if not b then Some x else find (λ y. not (p y)) xs) ≡ None → (find (λ y. not (p y)) xs ≡ None → list_all p xs ≡ true)
    → list_all p (x ∷ xs) ≡ true
list_all-first p x xs true is none others = and_from (p x) (list_all p xs) is (others none)
list_all-first p x xs false is none others = absurd (cc)

pub list_all-find : {X : Type 0} (p : X → Bool) (xs : List X) → find (λ x. not (p x)) xs ≡ None → list_all p xs ≡ true
list_all-find p [] none = refl
list_all-find p (x ∷ xs) none = list_all-first p x xs (p x) refl none (λ rest. list_all-find p xs rest)

pub find-list_all : {X : Type 0} (p : X → Bool) (xs : List X) → list_all p xs ≡ true → find (λ x. not (p x)) xs ≡ None
find-list_all p [] all = refl
find-list_all p (x ∷ xs) all =
    let both = and_parts (p x) (list_all p xs) all in
    ap (λ (b : Bool). if not b then Some x else find (λ y. not (p y)) xs) both.0 ∙ find-list_all p xs both.1
