-- Slices of one row, under one modulus.
use Rattle.std.proofs.Common.{◌≡◌, ℕ, zero, suc, ◌+◌, ◌-◌, ◌<◌, ◌∙◌, arith, sym, subst, ap, add-zero, ℤ, List, [], ◌∷◌, refl, length, drop, get_or, slice_range}
use Rattle.std.specs.Prelude.{Some, slice_get}
use Rattle.std.proofs.lemmas.Option.{get_or_from_slice_get}
use Rattle.std.proofs.lemmas.List.{get_or-drop, get_or-take, length-drop, length-take-le}
use Rattle.ring_law.specs.Rows.{IsReduced, RowRepresents}
use Rattle.rns_poly.specs.Rows.{AreReduced, EachRepresents}

one_more : (i : ℕ) → i + 1 - i ≡ 1
one_more i = omega arith

-- the one element of a slice
pub one_at : {A : Type 0} (xs : List A) (i : ℕ) (d : A) → get_or (slice_range xs i (i + 1)) 0 d ≡ get_or xs i d
one_at xs i d = get_or-take (i + 1 - i) (drop i xs) 0 d (omega arith) ∙ get_or-drop i xs 0 d ∙ ap (λ (j : ℕ). get_or xs j d) (add-zero i)

pub one_long : {A : Type 0} (xs : List A) (i : ℕ) → i < length xs → length (slice_range xs i (i + 1)) ≡ 1
one_long xs i within = let left = length-drop i xs in length-take-le (i + 1 - i) (drop i xs) (omega arith) ∙ one_more i

-- what holds of the first place holds of each place of a list of one
of_one : (P : ℕ → ℕ → Type 0) (moduli : List ℕ) → length moduli ≡ 1 → P 0 (get_or moduli 0 0) → (j : ℕ) → j < length moduli → P j (get_or moduli j 0)
of_one P moduli one first zero within = first
of_one P moduli one first (suc j) within = absurd (omega arith)

-- what a row represents under the one modulus of a list
pub listed_represents : (n q : ℕ) (rows : List (List ℕ)) (x : ℕ → ℤ) → RowRepresents n q (get_or rows 0 []) x → EachRepresents n (q ∷ []) rows (λ j. x)
listed_represents n q rows x first j k within below = of_one (λ j q. RowRepresents n q (get_or rows j []) x) (q ∷ []) refl first j within k below

of_slice : (P : ℕ → ℕ → Type 0) (p : ℕ) (moduli : List ℕ) → p < length moduli → P 0 (get_or moduli p 0)
    → (j : ℕ) → j < length (slice_range moduli p (p + 1)) → P j (get_or (slice_range moduli p (p + 1)) j 0)
of_slice P p moduli in_list first = of_one P (slice_range moduli p (p + 1)) (one_long moduli p in_list) (subst (P 0) (sym (one_at moduli p 0)) first)

-- a row alone under modulus p: reduced, and what it represents
pub alone_reduced : (n p : ℕ) (moduli : List ℕ) (rows : List (List ℕ)) → p < length moduli → IsReduced n (get_or moduli p 0) (get_or rows 0 [])
    → AreReduced n (slice_range moduli p (p + 1)) rows
alone_reduced n p moduli rows in_list first = of_slice (λ j q. IsReduced n q (get_or rows j [])) p moduli in_list first

pub alone_represents : (n p : ℕ) (moduli : List ℕ) (rows : List (List ℕ)) (x : ℕ → ℤ) → p < length moduli → RowRepresents n (get_or moduli p 0) (get_or rows 0 []) x
    → EachRepresents n (slice_range moduli p (p + 1)) rows (λ j. x)
alone_represents n p moduli rows x in_list first j k within below = of_slice (λ j q. RowRepresents n q (get_or rows j []) x) p moduli in_list first j within k below

-- and back
pub from_alone_reduced : (n p : ℕ) (moduli : List ℕ) (rows : List (List ℕ)) → p < length moduli → AreReduced n (slice_range moduli p (p + 1)) rows
    → IsReduced n (get_or moduli p 0) (get_or rows 0 [])
from_alone_reduced n p moduli rows in_list reduced =
    subst (λ q. IsReduced n q (get_or rows 0 [])) (one_at moduli p 0) (reduced 0 (let one = one_long moduli p in_list in omega arith))

pub from_alone : (n p : ℕ) (moduli : List ℕ) (rows : List (List ℕ)) (x : ℕ → ℕ → ℤ) → p < length moduli → EachRepresents n (slice_range moduli p (p + 1)) rows x
    → RowRepresents n (get_or moduli p 0) (get_or rows 0 []) (x 0)
from_alone n p moduli rows x in_list represents =
    subst (λ q. RowRepresents n q (get_or rows 0 []) (x 0)) (one_at moduli p 0) (λ k below. represents 0 k (let one = one_long moduli p in_list in omega arith) below)

-- a row that is read from what is lent
pub copied_row : (view rows : List (List ℕ)) (i : ℕ) (row : List ℕ) → view ≡ rows → slice_get view i ≡ Some row → get_or rows i [] ≡ row
copied_row view rows i row same is = ap (λ (whole : List (List ℕ)). get_or whole i []) (sym same) ∙ get_or_from_slice_get view i row [] is
