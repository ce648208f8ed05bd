-- Rows under one list of moduli, and those under another behind them; and the rows of several parts.
use Rattle.std.proofs.Common.{◌≡◌, ℕ, zero, suc, ◌+◌, ◌-◌, ◌*◌, ◌%◌, ◌<◌, ◌∙◌, ◌++◌, arith, inl, inr, sym, subst, ap, mod-eq_of_lt, ℤ, List, [], Some, length, map, take, drop, get_or, length-append, slice_index}
use Rattle.std.specs.Prelude.{slice_get}
use Rattle.std.proofs.lemmas.Bool.{cases_lt}
use Rattle.std.proofs.lemmas.Nat.{mod-mul-add}
use Rattle.std.proofs.lemmas.List.{get_or-append-add, get_or-drop, get_or-take, get_or_append_left}
use Rattle.std.proofs.lemmas.Option.{get_or_from_slice_get, slice_get_within}
use Rattle.set_table.specs.declared.SetName.{SetName}
use Rattle.ring_law.specs.Moduli.{AllAboveOne}
use Rattle.ring_law.specs.Rows.{IsReduced, Represents, WordsRepresent}
use Rattle.ring_law.proofs.Moduli.{positive_from_above_one}
use Rattle.ring_law.proofs.Residues.{residue_lt}
use Rattle.neg_ntt.specs.Parameters.{IsTransformBy, Parameters}
use Rattle.rns_poly.specs.Rows.{AreReduced}
use Rattle.rns_poly.specs.Transforms.{AreTransforms}
use Rattle.bfv_model.specs.Holds.{listed_word}
use Rattle.bfv_params.specs.Rows.{ReducedInTurn}
use Rattle.bfv_params.specs.Transforms.{transform_of}
use Rattle.bfv_tensor.proofs.ProductModuli.{place_within, transform_at_is, transform_is}

-- a row behind others
pub row_behind : (a b : List (List ℕ)) (i place : ℕ) → place ≡ length a + i → get_or (a ++ b) place [] ≡ get_or b i []
row_behind a b i place is = ap (λ (p : ℕ). get_or (a ++ b) p []) is ∙ get_or-append-add a b i []

-- what holds of each row with its modulus holds of the rows of both lists
pub each_joined : (ps qs : List ℕ) (a b : List (List ℕ)) (P : ℕ → List ℕ → Type 0) → length a ≡ length ps
    → ((i : ℕ) → i < length ps → P (slice_index ps i) (get_or a i [])) → ((i : ℕ) → i < length qs → P (slice_index qs i) (get_or b i []))
    → (i : ℕ) → i < length (ps ++ qs) → P (slice_index (ps ++ qs) i) (get_or (a ++ b) i [])
each_joined ps qs a b P same of_a of_b i within = elim (cases_lt i (length ps)) [
  | inl first ↦ subst (λ q. P q (get_or (a ++ b) i [])) (sym (get_or_append_left ps qs 0 i first))
      (subst (P (slice_index ps i)) (sym (get_or_append_left a b [] i (omega arith))) (of_a i first))
  | inr behind ↦ (
      let in_list : i - length ps < length qs = omega (arith, length-append ps qs) in
      let place : i ≡ length ps + (i - length ps) = omega arith in
      let modulus : slice_index (ps ++ qs) i ≡ slice_index qs (i - length ps) =
      ap (λ (p : ℕ). slice_index (ps ++ qs) p) place ∙ get_or-append-add ps qs (i - length ps) 0 in
      let row : get_or (a ++ b) i [] ≡ get_or b (i - length ps) [] = row_behind a b (i - length ps) i (omega arith) in
      subst (λ q. P q (get_or (a ++ b) i [])) (sym modulus) (subst (P (slice_index qs (i - length ps))) (sym row) (of_b (i - length ps) in_list)))
]

-- and the other way
pub each_first : (ps qs : List ℕ) (rows : List (List ℕ)) (P : ℕ → List ℕ → Type 0)
    → ((i : ℕ) → i < length (ps ++ qs) → P (slice_index (ps ++ qs) i) (get_or rows i []))
    → (i : ℕ) → i < length ps → P (slice_index ps i) (get_or (take (length ps) rows) i [])
each_first ps qs rows P all i within =
    subst (λ q. P q (get_or (take (length ps) rows) i [])) (get_or_append_left ps qs 0 i within)
    (subst (P (slice_index (ps ++ qs) i)) (sym (get_or-take (length ps) rows i [] within)) (all i (omega (arith, length-append ps qs))))

pub each_behind : (ps qs : List ℕ) (rows : List (List ℕ)) (P : ℕ → List ℕ → Type 0)
    → ((i : ℕ) → i < length (ps ++ qs) → P (slice_index (ps ++ qs) i) (get_or rows i []))
    → (i : ℕ) → i < length qs → P (slice_index qs i) (get_or (drop (length ps) rows) i [])
each_behind ps qs rows P all i within =
    subst (λ q. P q (get_or (drop (length ps) rows) i [])) (get_or-append-add ps qs i 0)
    (subst (P (slice_index (ps ++ qs) (length ps + i))) (sym (get_or-drop (length ps) rows i [])) (all (length ps + i) (omega (arith, length-append ps qs))))

-- ---- reduced rows
pub reduced_joined : (n : ℕ) (ps qs : List ℕ) (a b : List (List ℕ)) → length a ≡ length ps → AreReduced n ps a → AreReduced n qs b → AreReduced n (ps ++ qs) (a ++ b)
reduced_joined n ps qs a b same of_a of_b = each_joined ps qs a b (IsReduced n) same of_a of_b

-- rows that represent a polynomial are
pub reduced_by_residues : (n : ℕ) (qs : List ℕ) (rows : List (List ℕ)) (x : ℕ → ℤ) → AllAboveOne qs → Represents n qs rows x → AreReduced n qs rows
reduced_by_residues n qs rows x big represents i within k less =
    subst (λ w. w < slice_index qs i) (sym (represents i k within less))
    (residue_lt (slice_index qs i) (x k) (positive_from_above_one (slice_index qs i) (big i within)))

-- the rows of two parts
pub reduced_pair : (n count : ℕ) (qs : List ℕ) (a b : List (List ℕ)) → length qs ≡ count → length a ≡ count → length b ≡ count
    → AreReduced n qs a → AreReduced n qs b → ReducedInTurn n count qs (a ++ b)
reduced_pair n count qs a b moduli a_count b_count of_a of_b i within = elim (cases_lt i count) [
  | inl first ↦ subst (λ p. IsReduced n (slice_index qs p) (get_or (a ++ b) i [])) (sym (mod-eq_of_lt first))
      (subst (IsReduced n (slice_index qs i)) (sym (get_or_append_left a b [] i (omega arith))) (of_a i (omega arith)))
  | inr behind ↦ (
      let in_part : i - count < count = omega (arith, length-append a b) in
      let place : i ≡ 1 * count + (i - count) = omega arith in
      let turn : i % count ≡ i - count = ap (λ (p : ℕ). p % count) place ∙ mod-mul-add 1 count (i - count) in_part in
      subst (λ p. IsReduced n (slice_index qs p) (get_or (a ++ b) i [])) (sym turn)
      (subst (IsReduced n (slice_index qs (i - count))) (sym (row_behind a b (i - count) i (omega arith))) (of_b (i - count) (omega arith))))
]

-- row i of part j is reduced
pub pair_reduced : (n count : ℕ) (qs : List ℕ) (rows : List (List ℕ)) (row : List ℕ) (q j i place : ℕ) → ReducedInTurn n count qs rows → place ≡ j * count + i → i < count
    → slice_get rows place ≡ Some row → slice_index qs i ≡ q → IsReduced n q row
pair_reduced n count qs rows row q j i place reduced at in_part is modulus =
    let turn : place % count ≡ i = ap (λ (p : ℕ). p % count) at ∙ mod-mul-add j count i in_part in
    subst (λ m. IsReduced n m row) (ap (slice_index qs) turn ∙ modulus)
    (subst (IsReduced n (slice_index qs (place % count))) (get_or_from_slice_get rows place row [] is) (reduced place (slice_get_within rows place row is)))

-- ---- rows of transforms of one polynomial
module _ (set : SetName) (x : ℕ → ℤ) where
  each_transform : (qs : List ℕ) (rows : List (List ℕ)) → AreTransforms (map (transform_of set) qs) rows (λ i. x)
      → (i : ℕ) → i < length qs → IsTransformBy (transform_of set (slice_index qs i)) (get_or rows i []) x
  each_transform qs rows are i within = are i (transform_of set (slice_index qs i)) (transform_is set qs i within)

  pub transforms_joined : (ps qs : List ℕ) (a b : List (List ℕ)) → length a ≡ length ps → AreTransforms (map (transform_of set) ps) a (λ i. x)
      → AreTransforms (map (transform_of set) qs) b (λ i. x) → AreTransforms (map (transform_of set) (ps ++ qs)) (a ++ b) (λ i. x)
  transforms_joined ps qs a b same of_a of_b i t is =
      subst (λ (u : Parameters). IsTransformBy u (get_or (a ++ b) i []) x) (transform_at_is set (ps ++ qs) i t is)
      (each_joined ps qs a b (λ q row. IsTransformBy (transform_of set q) row x) same (each_transform ps a of_a) (each_transform qs b of_b) i
      (place_within set (ps ++ qs) i t is))

-- ---- the rows of three parts
module _ (n count : ℕ) (qs : List ℕ) (a b c : List (List ℕ)) (d : ℕ → ℕ → ℤ) (moduli : length qs ≡ count) (a_count : length a ≡ count) (b_count : length b ≡ count) where
  pub three_parts : Represents n qs a (d 0) → Represents n qs b (d 1) → Represents n qs c (d 2) → (j : ℕ) → j < 3
      → WordsRepresent n qs (listed_word count (a ++ (b ++ c)) j) (d j)
  three_parts of_a of_b of_c zero l i k within less =
      ap (λ (row : List ℕ). slice_index row k)
      (ap (λ (p : ℕ). get_or (a ++ (b ++ c)) p []) (place 0 i) ∙ get_or_append_left a (b ++ c) [] i (omega arith)) ∙ of_a i k within less
    where
      place : (z i : ℕ) → 0 * count + i ≡ i
      place z i = omega arith
  three_parts of_a of_b of_c (suc zero) l i k within less =
      ap (λ (row : List ℕ). slice_index row k)
      (row_behind a (b ++ c) i (1 * count + i) (omega arith) ∙ get_or_append_left b c [] i (omega arith)) ∙ of_b i k within less
  three_parts of_a of_b of_c (suc (suc zero)) l i k within less =
      ap (λ (row : List ℕ). slice_index row k)
      (row_behind a (b ++ c) (count + i) (2 * count + i) (omega arith) ∙ row_behind b c i (count + i) (omega arith)) ∙ of_c i k within less
  three_parts of_a of_b of_c (suc (suc (suc j))) l i k within less = absurd (omega arith)
