-- Lists of words by part, row and place.
use Rattle.std.proofs.Common.{◌≡◌, ℕ, ◌+◌, ◌-◌, ◌*◌, ◌/◌, ◌%◌, ◌<◌, ◌≤◌, List, ◌++◌, length, get_or, sym, ◌∙◌, ap, ap₂, subst, arith, length-append, mod-lt, ⊎_elim}
use Rattle.std.specs.Prelude.{slice_index}
use Rattle.std.proofs.Math.Nat.{div-lt_iff_lt-mul, mul-add-div_right, mul-add-mod_self_right}
use Rattle.std.proofs.Math.Seq.{get_or-append_right}
use Rattle.std.proofs.lemmas.Bool.{cases_lt}
use Rattle.std.proofs.lemmas.List.{get_or_append_left}
use Rattle.ring_law.specs.Sums.{values_below}
use Rattle.ring_law.proofs.Values.{get_or-values_below, length-values_below, values_below-get_or, values_below_ext}
use Rattle.bfv_model.specs.Holds.{listed_words}

-- the first values in two pieces
values_below-add : (a b : ℕ) (f : ℕ → ℕ) → values_below (a + b) f ≡ values_below a f ++ values_below b (λ i. f (a + i))
values_below-add a b f = values_below-get_or (a + b) f (values_below a f ++ values_below b further) 0 size at
  where
    further : ℕ → ℕ
    further i = f (a + i)

    front_size : length (values_below a f) ≡ a
    front_size = length-values_below a f

    rest_size : length (values_below b further) ≡ b
    rest_size = length-values_below b further

    size : length (values_below a f ++ values_below b further) ≡ a + b
    size = length-append (values_below a f) (values_below b further) ∙ ap₂ (λ x y. x + y) front_size rest_size

    in_front : (i : ℕ) → i < a → get_or (values_below a f ++ values_below b further) i 0 ≡ f i
    in_front i below = get_or_append_left (values_below a f) (values_below b further) 0 i (subst (λ n. i < n) (sym front_size) below)
        ∙ get_or-values_below a f i 0 below

    in_rest : (i : ℕ) → i < a + b → a ≤ i → get_or (values_below a f ++ values_below b further) i 0 ≡ f i
    in_rest i below past =
        let inside : i - a < b = omega arith in
        let place : a + (i - a) ≡ i = omega arith in
        get_or-append_right (values_below a f) (values_below b further) i 0 (subst (λ n. n ≤ i) (sym front_size) past)
        ∙ ap (λ n. get_or (values_below b further) (i - n) 0) front_size
        ∙ get_or-values_below b further (i - a) 0 inside
        ∙ ap f place

    at : (i : ℕ) → i < a + b → get_or (values_below a f ++ values_below b further) i 0 ≡ f i
    at i below = ⊎_elim (in_front i) (in_rest i below) (cases_lt i a)

pub length-listed_words : (n count parts : ℕ) (word : ℕ → ℕ → ℕ → ℕ) → length (listed_words n count parts word) ≡ parts * count * n
length-listed_words n count parts word = length-values_below (parts * count * n) (λ p. word (p / n / count) (p / n % count) (p % n))

-- the part of a place
part_below : (n count parts place : ℕ) → 0 < n → 0 < count → place < parts * count * n → place / n / count < parts
part_below n count parts place some some_rows below = (div-lt_iff_lt-mul some_rows).1 ((div-lt_iff_lt-mul some).1 below)

-- equal words make equal lists
pub listed_words_ext : (n count parts : ℕ) (word other : ℕ → ℕ → ℕ → ℕ) → 0 < n → 0 < count
    → ((j i k : ℕ) → j < parts → i < count → k < n → word j i k ≡ other j i k) → listed_words n count parts word ≡ listed_words n count parts other
listed_words_ext n count parts word other some some_rows same =
    values_below_ext (parts * count * n) (λ p. word (p / n / count) (p / n % count) (p % n)) (λ p. other (p / n / count) (p / n % count) (p % n))
    (λ p below. same (p / n / count) (p / n % count) (p % n) (part_below n count parts p some some_rows below) (mod-lt (p / n) some_rows) (mod-lt p some))

-- the parts in two pieces
pub listed_words-add : (n count parts more : ℕ) (word : ℕ → ℕ → ℕ → ℕ) → 0 < n → 0 < count
    → listed_words n count (parts + more) word ≡ listed_words n count parts word ++ listed_words n count more (λ j. word (parts + j))
listed_words-add n count parts more word some some_rows =
    ap (λ size. values_below size at) total ∙ values_below-add (parts * count * n) (more * count * n) at
    ∙ ap (λ rest. values_below (parts * count * n) at ++ rest)
    (values_below_ext (more * count * n) (λ p. at (parts * count * n + p)) (λ p. word (parts + p / n / count) (p / n % count) (p % n)) (λ p below. moved p))
  where
    at : ℕ → ℕ
    at p = word (p / n / count) (p / n % count) (p % n)

    total : (parts + more) * count * n ≡ parts * count * n + more * count * n
    total = omega arith

    moved : (p : ℕ) → at (parts * count * n + p) ≡ word (parts + p / n / count) (p / n % count) (p % n)
    moved p =
        ap₂ (λ x z. word (x / count) (x % count) z) (mul-add-div_right some (parts * count) p) (mul-add-mod_self_right (parts * count) n p)
        ∙ ap₂ (λ x y. word x y (p % n)) (mul-add-div_right some_rows parts (p / n)) (mul-add-mod_self_right parts count (p / n))

-- they are below the moduli of their rows if the words of each row are
pub listed_words_reduced : (n count parts : ℕ) (moduli : List ℕ) (word : ℕ → ℕ → ℕ → ℕ) → 0 < n → 0 < count
    → ((j i k : ℕ) → j < parts → i < count → k < n → word j i k < slice_index moduli i) → (place : ℕ) → place < parts * count * n
    → slice_index (listed_words n count parts word) place < slice_index moduli (place / n % count)
listed_words_reduced n count parts moduli word some some_rows reduced place below =
    subst (λ w. w < slice_index moduli (place / n % count))
    (sym (get_or-values_below (parts * count * n) (λ p. word (p / n / count) (p / n % count) (p % n)) place 0 below))
    (reduced (place / n / count) (place / n % count) (place % n) (part_below n count parts place some some_rows below)
    (mod-lt (place / n) some_rows) (mod-lt place some))
