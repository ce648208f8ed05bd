-- Lists that grow by one element.
use Rattle.std.proofs.Common.{◌≡◌, ℕ, ◌+◌, ◌<◌, ◌≤◌, List, [], ◌∷◌, ◌++◌, length, get_or, arith, sym, ap, ◌∙◌, subst, ⊎_elim}
use Rattle.std.proofs.Math.Seq.{get_or-append_seam}
use Rattle.std.proofs.lemmas.List.{get_or_append_left}
use Rattle.std.proofs.lemmas.Bool.{cases_lt}

-- what holds of each element so far and of the next holds of each element
pub each_pushed : {X : Type 0} (P : ℕ → X → Type 0) (xs : List X) (x d : X) (i : ℕ) → length xs ≡ i → ((j : ℕ) → j < i → P j (get_or xs j d)) → P i x
    → (j : ℕ) → j < i + 1 → P j (get_or (xs ++ x ∷ []) j d)
each_pushed P xs x d i size before next j within = ⊎_elim
    (λ (l : j < i). let inside : j < length xs = omega arith in subst (λ y. P j y) (sym (get_or_append_left xs (x ∷ []) d j inside)) (before j l))
    (λ (l : i ≤ j). let here : i ≡ j = omega arith in
    subst (λ m. P m (get_or (xs ++ x ∷ []) m d)) here
    (subst (λ y. P i y) (sym (ap (λ m. get_or (xs ++ x ∷ []) m d) (sym size) ∙ get_or-append_seam xs x [] d)) next))
    (cases_lt j i)
