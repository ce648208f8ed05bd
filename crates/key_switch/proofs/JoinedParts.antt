-- The rows of two parts, one after the other.
use Rattle.std.proofs.Common.{◌≡◌, ℕ, ◌+◌, ◌-◌, ◌*◌, ◌%◌, ◌<◌, ◌≤◌, ◌∙◌, ap, arith, sym, subst, mod-eq_of_lt, ⊎_elim, List, [], ◌++◌, length, length-append, get_or, slice_index}
use Rattle.std.proofs.Math.Nat.{mod-eq-sub-mod}
use Rattle.std.proofs.Math.Seq.{get_or-append_right}
use Rattle.std.proofs.lemmas.Bool.{cases_lt}
use Rattle.std.proofs.lemmas.List.{get_or_append_left}
use Rattle.ring_law.specs.Rows.{IsReduced, word_at}
use Rattle.rns_poly.specs.Rows.{AreReduced}
use Rattle.bfv_model.specs.Holds.{listed_word}
use Rattle.bfv_params.specs.Rows.{ReducedInTurn}

module _ (count : ℕ) (first second : List (List ℕ)) (first_size : length first ≡ count) where
  -- a row of the first part, and one of the second
  pub row_of_first : (place r : ℕ) → place ≡ r → r < count → get_or (first ++ second) place [] ≡ get_or first r []
  row_of_first place r is below = ap (λ p. get_or (first ++ second) p []) is ∙ get_or_append_left first second [] r (omega (arith, first_size, below))

  pub row_of_second : (place r : ℕ) → place ≡ count + r → get_or (first ++ second) place [] ≡ get_or second r []
  row_of_second place r is = get_or-append_right first second place [] (omega (arith, is, first_size)) ∙ ap (λ p. get_or second p []) (less place r (omega (arith, is, first_size)))
    where
      less : (place r : ℕ) → place ≡ length first + r → place - length first ≡ r
      less place r is = omega arith

  pub word_of_first : (r k : ℕ) → r < count → listed_word count (first ++ second) 0 r k ≡ word_at first r k
  word_of_first r k below = ap (λ row. slice_index row k) (row_of_first (0 * count + r) r (omega arith) below)

  pub word_of_second : (r k : ℕ) → listed_word count (first ++ second) 1 r k ≡ word_at second r k
  word_of_second r k = ap (λ row. slice_index row k) (row_of_second (1 * count + r) r (omega arith))

  -- both are reduced where each is
  pub ReducedInTurn-joined : (n : ℕ) (moduli : List ℕ) → length second ≡ count → length moduli ≡ count → AreReduced n moduli first → AreReduced n moduli second
      → ReducedInTurn n count moduli (first ++ second)
  ReducedInTurn-joined n moduli second_size counted of_first of_second i within = ⊎_elim front back (cases_lt i count)
    where
      front : i < count → IsReduced n (slice_index moduli (i % count)) (get_or (first ++ second) i [])
      front less =
          subst (λ row. IsReduced n (slice_index moduli (i % count)) row) (sym (row_of_first i i (omega arith) less))
          (subst (λ p. IsReduced n (slice_index moduli p) (get_or first i [])) (sym (mod-eq_of_lt less)) (of_first i (omega (arith, counted, less))))

      back : count ≤ i → IsReduced n (slice_index moduli (i % count)) (get_or (first ++ second) i [])
      back most =
          let inside : i - count < count = omega (arith, within, length-append first second, first_size, second_size) in
          let turn : i % count ≡ i - count = mod-eq-sub-mod most ∙ mod-eq_of_lt inside in
          subst (λ row. IsReduced n (slice_index moduli (i % count)) row) (sym (row_of_second i (i - count) (omega (arith, most))))
          (subst (λ p. IsReduced n (slice_index moduli p) (get_or second (i - count) [])) (sym turn) (of_second (i - count) (omega (arith, counted, inside))))
