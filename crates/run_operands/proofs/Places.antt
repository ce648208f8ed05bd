-- The first place in a list at which a test passes.
use Rattle.std.proofs.Common.{◌≡◌, ℕ, zero, suc, ◌+◌, ◌<◌, ◌≤◌, ⊎_elim, Bool, true, false, List, [], ◌∷◌, ◌++◌, length, get_or, drop, drop-cons, map, refl, sym, ◌∙◌, ap, subst, arith}
use Rattle.std.specs.Prelude.{not, cond, nat_lt, position, slice_get, Option, Some, None, is_some, IfSome}
use Rattle.std.specs.Option.{option_or}
use Rattle.std.specs.List.{prefix_len, position_or_len}
use Rattle.std.proofs.lemmas.Bool.{lt-ltb, cases_lt}
use Rattle.std.proofs.lemmas.List.{length-map, get_or-map}
use Rattle.std.proofs.lemmas.List.Sums.{position_or_len_is}
use Rattle.std.proofs.lemmas.Option.{slice_get_within, slice_get-get_or, get_or_from_slice_get, slice_get_read}

prefix_len-map : {X Y : Type 0} (p : Y → Bool) (f : X → Y) (xs : List X) → prefix_len p (map f xs) ≡ prefix_len (λ x. p (f x)) xs
prefix_len-map p f [] = refl
prefix_len-map p f (x ∷ xs) = ap (λ (n : ℕ). cond (p (f x)) (1 + n) 0) (prefix_len-map p f xs)

abbrev placed : ℕ → ℕ → Option ℕ
placed first count = cond (nat_lt first count) (Some first) None

-- the place among what is made of elements is that of the element
pub position-map : {X Y : Type 0} (p : Y → Bool) (f : X → Y) (xs : List X) → position p (map f xs) ≡ position (λ x. p (f x)) xs
position-map p f xs =
    ap (λ (n : ℕ). placed n (length (map f xs))) (prefix_len-map (λ y. not (p y)) f xs)
    ∙ ap (λ (n : ℕ). placed (position_or_len (λ x. p (f x)) xs) n) (length-map xs f)

-- the test fails at the elements before a place
abbrev pub FailsBefore : {X : Type 0} → (X → Bool) → List X → ℕ → Type 0
FailsBefore {X} p xs i = (k : ℕ) (x : X) → k < i → slice_get xs k ≡ Some x → p x ≡ false

pub fails_next : {X : Type 0} (p : X → Bool) (xs : List X) (i : ℕ) (x : X) → slice_get xs i ≡ Some x → p x ≡ false → FailsBefore p xs i → FailsBefore p xs (i + 1)
fails_next {X} p xs i x at fails before k y below here = ⊎_elim (λ past. before k y past here) last (cases_lt k i)
  where
    last : i ≤ k → p y ≡ false
    last from =
        let same : k ≡ i = omega arith in
        let one : Some y ≡ Some x = sym here ∙ ap (λ (j : ℕ). slice_get xs j) same ∙ at in
        let is : y ≡ x = cc in
        ap p is ∙ fails

-- the first place at which the test passes
pub position_is : {X : Type 0} (p : X → Bool) (xs : List X) (i : ℕ) (x : X) → slice_get xs i ≡ Some x → p x ≡ true → FailsBefore p xs i → position p xs ≡ Some i
position_is p xs i x at passes before =
    let within : i < length xs = slice_get_within xs i x at in
    let first : position_or_len p xs ≡ i =
    position_or_len_is p xs i x (omega arith) (λ k below. before k (get_or xs k x) below (slice_get-get_or xs k x (omega arith)))
    (λ _. ap p (get_or_from_slice_get xs i x x at) ∙ passes) in
    ap (λ (n : ℕ). placed n (length xs)) first ∙ rw (lt-ltb i (length xs) within) refl

-- the test passes nowhere
pub position_none : {X : Type 0} (p : X → Bool) (xs : List X) → FailsBefore p xs (length xs) → position p xs ≡ None
position_none p [] before = refl
position_none p (x ∷ xs) before =
    let all : position_or_len p (x ∷ xs) ≡ length (x ∷ xs) =
    position_or_len_is p (x ∷ xs) (length (x ∷ xs)) x (omega arith) (λ k below. before k (get_or (x ∷ xs) k x) below (slice_get-get_or (x ∷ xs) k x below))
    (λ within. absurd (omega arith)) in
    grind (arith, all)

-- an element that is there, with what is known of it
pub element_at : {X : Type 0} (P : X → Type 0) (xs : List X) (i : ℕ) → i < length xs → IfSome (slice_get xs i) P → (x : X) × ((slice_get xs i ≡ Some x) × P x)
element_at P [] i within holds = absurd (omega arith)
element_at P (x ∷ xs) zero within holds = (x, (refl, holds))
element_at P (x ∷ xs) (suc i) within holds = element_at P xs i (omega arith) holds

-- the elements from a place on
pub drop_read : {X Y : Type 0} (f : X → Y) (xs : List X) (i : ℕ) (x : X) → slice_get xs i ≡ Some x → drop i (map f xs) ≡ f x ∷ drop (i + 1) (map f xs)
drop_read f xs i x at =
    let within : i < length xs = slice_get_within xs i x at in
    let inside : i < length (map f xs) = omega (arith, length-map xs f) in
    let one : get_or (map f xs) i (f x) ≡ f x = get_or-map f xs i x (f x) within ∙ ap f (get_or_from_slice_get xs i x x at) in
    let next : suc i ≡ i + 1 = omega arith in
    drop-cons (map f xs) i (f x) inside ∙ ap (λ y. y ∷ drop (suc i) (map f xs)) one ∙ ap (λ (n : ℕ). f x ∷ drop n (map f xs)) next

-- an element that was read is there
pub item_there : {X : Type 0} (xs : List X) (i : ℕ) (x y : X) → i < length xs → x ≡ get_or xs i x → x ≡ y → slice_get xs i ≡ Some y
item_there xs i x y within read is = slice_get_read xs (length xs) i x refl within read ∙ ap Some is

-- the first of two answers, where there is one
pub first_of : {A : Type 0} (first rest : Option A) → is_some first ≡ true → option_or first rest ≡ first
first_of (Some found) rest some = refl
first_of None rest some = absurd (cc)

-- and else the second
pub rest_of : {A : Type 0} (first rest : Option A) → is_some first ≡ false → option_or first rest ≡ rest
rest_of (Some found) rest none = absurd (cc)
rest_of None rest none = refl

-- each element has a property at its place
abbrev pub EachAt : {X : Type 0} → (ℕ → X → Type 0) → List X → Type 0
EachAt {X} P xs = (p : ℕ) (x : X) → slice_get xs p ≡ Some x → P p x

pub each_push : {X : Type 0} (P : ℕ → X → Type 0) (xs : List X) (y : X) → EachAt P xs → P (length xs) y → EachAt P (xs ++ y ∷ [])
each_push P [] y each last zero x at = let same : y ≡ x = cc in subst (P 0) same last
each_push P [] y each last (suc p) x at = absurd (cc)
each_push P (z ∷ zs) y each last zero x at = each zero x at
each_push P (z ∷ zs) y each last (suc p) x at = each_push (λ q. P (suc q)) zs y (λ q w here. each (suc q) w here) last p x at

-- below the length there is an element
pub element_there : {X : Type 0} (xs : List X) (i : ℕ) → i < length xs → (x : X) × (slice_get xs i ≡ Some x)
element_there [] i within = absurd (omega arith)
element_there (x ∷ xs) zero within = (x, refl)
element_there (x ∷ xs) (suc i) within = element_there xs i (omega arith)
