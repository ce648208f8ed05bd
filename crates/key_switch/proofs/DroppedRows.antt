-- The rows of a part of a pair, from the residues of its sums.
use Rattle.std.proofs.Common.{◌≡◌, ℕ, ◌+◌, ◌<◌, ◌≤◌, ◌∙◌, ap, ap₂, arith, sym, subst, ℤ, List, [], ◌∷◌, ◌++◌, length, take, drop, get_or, slice_index}
use Rattle.std.proofs.lemmas.List.{get_or-drop, get_or-take}
use Rattle.ring_law.specs.Moduli.{AllAboveOne, product}
use Rattle.ring_law.specs.Rows.{Represents, natural_polynomial, word_at}
use Rattle.ring_law.proofs.Moduli.{PairwiseInvertible, positive_from_above_one, product_positive}
use Rattle.ring_law.proofs.Residues.{residue_lt}
use Rattle.ring_law.proofs.Rows.{represented_polynomial}
use Rattle.rns_poly.specs.Rows.{AreReduced}
use Rattle.bfv_model.specs.Keys.{dropped_quotient}
use Rattle.key_switch.specs.Sums.{sum_word, two_words}

-- the words of a sum are in the first rows and in those after them
pub sum_of_rows : (count : ℕ) (rows high low : List (List ℕ)) (r k : ℕ) → high ≡ take count rows → low ≡ drop count rows → r < count
    → two_words (get_or high r []) (get_or low r []) k ≡ sum_word count rows 0 r k
sum_of_rows count rows high low r k is_high is_low below =
    ap₂ (λ h l. two_words h l k)
    (ap (λ hs. get_or hs r []) is_high ∙ get_or-take count rows r [] below ∙ ap (λ p. get_or rows p []) (start r))
    (ap (λ ls. get_or ls r []) is_low ∙ get_or-drop count rows r [] ∙ ap (λ p. get_or rows p []) (start (count + r)))
  where
    start : (z : ℕ) → z ≡ 0 + z
    start z = omega arith

-- rows that represent what they must for each polynomial that the rows before represent are reduced, since these represent one
pub AreReduced-represented : (n : ℕ) (moduli kept : List ℕ) (before after : List (List ℕ)) (change : (ℕ → ℤ) → ℕ → ℤ) → PairwiseInvertible moduli → AllAboveOne moduli → AllAboveOne kept
    → AreReduced n moduli before → ((x : ℕ → ℤ) → Represents n moduli before x → Represents n kept after (change x)) → AreReduced n kept after
AreReduced-represented n moduli kept before after change coprime big big_kept reduced represents i within k below =
    from (represented_polynomial n moduli coprime big (product_positive moduli big) (word_at before) (λ r z inside place. reduced r inside z place))
  where
    from : (x : ℕ → ℕ) × ((z : ℕ) → x z < product moduli) × Represents n moduli before (natural_polynomial x) → word_at after i k < slice_index kept i
    from (x, x_below, of_x) =
        subst (λ w. w < slice_index kept i) (sym (represents (natural_polynomial x) of_x i k within below))
        (residue_lt (slice_index kept i) (change (natural_polynomial x) k) (positive_from_above_one (slice_index kept i) (big_kept i within)))

-- the first rows represent what all of them do
pub Represents-first : (n count : ℕ) (moduli : List ℕ) (rows first : List (List ℕ)) (x : ℕ → ℤ) → first ≡ take count rows → length moduli ≤ count
    → Represents n moduli rows x → Represents n moduli first x
Represents-first n count moduli rows first x is enough represents i k within below =
    ap (λ row. slice_index row k) (ap (λ rs. get_or rs i []) is ∙ get_or-take count rows i [] (omega (arith, enough, within))) ∙ represents i k within below

-- the first rows of what dropping a modulus gives
pub divided : (n dropped count : ℕ) (keys first kept : List ℕ) (before after out : List (List ℕ)) → keys ≡ kept ++ dropped ∷ [] → kept ≡ first → out ≡ take count after → length first ≤ count
    → ((x : ℕ → ℤ) → Represents n (kept ++ dropped ∷ []) before x → Represents n kept after (λ k. dropped_quotient dropped (x k)))
    → (x : ℕ → ℤ) → Represents n keys before x → Represents n first out (λ k. dropped_quotient dropped (x k))
divided n dropped count keys first kept before after out keys_are kept_is is enough drops x represents =
    Represents-first n count first after out (λ k. dropped_quotient dropped (x k)) is enough
    (subst (λ (qs : List ℕ). Represents n qs after (λ k. dropped_quotient dropped (x k))) kept_is
    (drops x (subst (λ (qs : List ℕ). Represents n qs before x) keys_are represents)))
