-- The list of a function's first values.
use Rattle.std.proofs.Common.{◌≡◌, ℕ, ◌<◌, List, length, get_or, arith, sym, subst, ◌∙◌}
use Rattle.std.proofs.lemmas.List.{ext_get_or}
use Rattle.std.proofs.lemmas.List.FromFn.{get_or-map-range_with_len, length-map-range_with_len}
use Rattle.ring_law.specs.Sums.{values_below}

-- it has n elements
pub length-values_below : {A : Type 0} (n : ℕ) (f : ℕ → A) → length (values_below n f) ≡ n
length-values_below n f = length-map-range_with_len f 0 n

-- element i is f(i)
pub get_or-values_below : {A : Type 0} (n : ℕ) (f : ℕ → A) (i : ℕ) (d : A) → i < n → get_or (values_below n f) i d ≡ f i
get_or-values_below n f i d l = get_or-map-range_with_len f 0 n i i d l (omega arith)

-- a list of n elements is that of their function
pub values_below-get_or : {A : Type 0} (n : ℕ) (f : ℕ → A) (xs : List A) (d : A) → length xs ≡ n → ((i : ℕ) → i < n → get_or xs i d ≡ f i) →
    values_below n f ≡ xs
values_below-get_or n f xs d size same =
    ext_get_or d (values_below n f) xs (length-values_below n f ∙ sym size) (λ i l. at i (subst (λ m. i < m) (length-values_below n f) l))
  where
    at : (i : ℕ) → i < n → get_or (values_below n f) i d ≡ get_or xs i d
    at i l = get_or-values_below n f i d l ∙ sym (same i l)

-- equal values make equal lists
pub values_below_ext : {A : Type 0} (n : ℕ) (f g : ℕ → A) → ((i : ℕ) → i < n → f i ≡ g i) → values_below n f ≡ values_below n g
values_below_ext n f g same =
    values_below-get_or n f (values_below n g) (g 0) (length-values_below n g) (λ i l. get_or-values_below n g i (g 0) l ∙ sym (same i l))
