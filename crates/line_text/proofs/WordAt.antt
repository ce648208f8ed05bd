-- The word at a place, and an empty one past the last.
use Rattle.std.proofs.Common.{◌≡◌, ℕ, zero, suc, List, [], ◌∷◌, get_or, Option, Some, None, refl, sym, ap, ◌∙◌, Bor}
use Rattle.std.specs.Prelude.{slice_get}
use Rattle.std.specs.Option.{option_map, unwrap_or}

read_or : (words : List (List ℕ)) (i : ℕ) (d : List ℕ) → unwrap_or (slice_get words i) d ≡ get_or words i d
read_or [] i d = refl
read_or (word ∷ words) zero d = refl
read_or (word ∷ words) (suc i) d = read_or words i d

seen_or : (found : Option (Bor (List ℕ))) (d : Bor (List ℕ)) → (unwrap_or found d).now ≡ unwrap_or (option_map (λ word. word.now) found) d.now
seen_or None d = refl
seen_or (Some word) d = refl

pub word_or : (words : List (List ℕ)) (i : ℕ) (found : Option (Bor (List ℕ))) (word d : Bor (List ℕ))
    → option_map (λ word. word.now) found ≡ slice_get words i → word ≡ unwrap_or found d → word.now ≡ get_or words i d.now
word_or words i found word d is taken =
    ap (λ (w : Bor (List ℕ)). w.now) taken ∙ seen_or found d ∙ ap (λ (o : Option (List ℕ)). unwrap_or o d.now) is ∙ read_or words i d.now

-- the same by whether there is one
pub word_some : {A : Type 0} (seen : A → List ℕ) (words : List (List ℕ)) (i : ℕ) (found : Option A) (word : A) → option_map seen found ≡ slice_get words i → found ≡ Some word → seen word ≡ get_or words i []
word_some seen words i found word is some = ap (λ (o : Option (List ℕ)). unwrap_or o []) (sym (ap (option_map seen) some) ∙ is) ∙ read_or words i []

pub word_none : {A : Type 0} (seen : A → List ℕ) (words : List (List ℕ)) (i : ℕ) (found : Option A) → option_map seen found ≡ slice_get words i → found ≡ None → [] ≡ get_or words i []
word_none seen words i found is none = ap (λ (o : Option (List ℕ)). unwrap_or o []) (sym (ap (option_map seen) none) ∙ is) ∙ read_or words i []
