-- Pieces of text joined by spaces.
use Rattle.std.proofs.Common.{◌≡◌, ℕ, ◌≤◌, List, [], ◌∷◌, ◌++◌, length, take, map, decimal, sym, ◌∙◌, ap, append_assoc}
use Rattle.std.specs.List.{join_with_byte, flat_map}
use Rattle.std.proofs.lemmas.List.{append-nil, take_all}

-- joined numbers are the first, and then the others with a space before each
joined-cons : (v : ℕ) (vs : List ℕ) → join_with_byte 32 (map decimal (v ∷ vs)) ≡ decimal v ++ flat_map (λ w. 32 ∷ decimal w) vs
joined-cons v [] = sym (append-nil (decimal v))
joined-cons v (w ∷ ws) = ap (λ (t : List ℕ). decimal v ++ (32 ∷ t)) (joined-cons w ws)

-- a text behind which the first number was pushed, and then n of the others, which are all
pub pushed-joined : (old first all row : List ℕ) (v : ℕ) (vs : List ℕ) (n : ℕ) → row ≡ v ∷ vs → length vs ≤ n → first ≡ old ++ decimal v
    → all ≡ first ++ flat_map (λ w. 32 ∷ decimal w) (take n vs) → all ≡ old ++ join_with_byte 32 (map decimal row)
pushed-joined old first all row v vs n is whole one more =
    let whole_text : flat_map (λ w. 32 ∷ decimal w) (take n vs) ≡ flat_map (λ w. 32 ∷ decimal w) vs = ap (λ (xs : List ℕ). flat_map (λ w. 32 ∷ decimal w) xs) (take_all n vs whole) in
    let grouped : (old ++ decimal v) ++ flat_map (λ w. 32 ∷ decimal w) vs ≡ old ++ (decimal v ++ flat_map (λ w. 32 ∷ decimal w) vs) = append_assoc old (decimal v) _ in
    more
    ∙ ap (λ (t : List ℕ). t ++ flat_map (λ w. 32 ∷ decimal w) (take n vs)) one
    ∙ ap (λ (t : List ℕ). (old ++ decimal v) ++ t) whole_text
    ∙ grouped
    ∙ ap (λ (t : List ℕ). old ++ t) (sym (joined-cons v vs) ∙ ap (λ (xs : List ℕ). join_with_byte 32 (map decimal xs)) (sym is))
