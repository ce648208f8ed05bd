-- The identity behind the noise of a product, in any commutative ring.
use Rattle.std.proofs.Common.{List, [], refl, ◌∷◌}
use Rattle.ring_law.proofs.CommutativeRing.{CommutativeRing, vanishing_sum}
use Rattle.ring_law.proofs.RingSolver.{Expression, minus, variable, ◌⊕◌, ◌⊖◌, ◌⊗◌}
use Rattle.ring_law.proofs.CommutativeRing as Ring

-- the numbers of the identity, by their place in the list of values
abbrev pub variable_q : Expression
variable_q = variable 0

abbrev pub variable_t : Expression
variable_t = variable 1

abbrev pub variable_s : Expression
variable_s = variable 2

abbrev pub variable_a0 : Expression
variable_a0 = variable 3

abbrev pub variable_a1 : Expression
variable_a1 = variable 4

abbrev pub variable_b0 : Expression
variable_b0 = variable 5

abbrev pub variable_b1 : Expression
variable_b1 = variable 6

abbrev pub variable_m1 : Expression
variable_m1 = variable 7

abbrev pub variable_m2 : Expression
variable_m2 = variable 8

abbrev pub variable_w1 : Expression
variable_w1 = variable 9

abbrev pub variable_w2 : Expression
variable_w2 = variable 10

abbrev pub variable_k1 : Expression
variable_k1 = variable 11

abbrev pub variable_k2 : Expression
variable_k2 = variable 12

abbrev pub variable_x0 : Expression
variable_x0 = variable 13

abbrev pub variable_x1 : Expression
variable_x1 = variable 14

abbrev pub variable_x2 : Expression
variable_x2 = variable 15

abbrev pub variable_r0 : Expression
variable_r0 = variable 16

abbrev pub variable_r1 : Expression
variable_r1 = variable 17

abbrev pub variable_r2 : Expression
variable_r2 = variable 18

-- the two sides of each hypothesis, and of the conclusion
abbrev pub right_a : Expression
right_a = variable_q ⊗ variable_m1 ⊕ variable_w1 ⊕ variable_q ⊗ variable_t ⊗ variable_k1

abbrev pub right_b : Expression
right_b = variable_q ⊗ variable_m2 ⊕ variable_w2 ⊕ variable_q ⊗ variable_t ⊗ variable_k2

abbrev pub left_a : Expression
left_a = variable_t ⊗ (variable_a0 ⊕ variable_a1 ⊗ variable_s)

abbrev pub left_b : Expression
left_b = variable_t ⊗ (variable_b0 ⊕ variable_b1 ⊗ variable_s)

abbrev pub left_0 : Expression
left_0 = variable_t ⊗ (variable_a0 ⊗ variable_b0)

abbrev pub left_1 : Expression
left_1 = variable_t ⊗ (variable_a0 ⊗ variable_b1 ⊕ variable_a1 ⊗ variable_b0)

abbrev pub left_2 : Expression
left_2 = variable_t ⊗ (variable_a1 ⊗ variable_b1)

abbrev pub right_0 : Expression
right_0 = variable_q ⊗ variable_x0 ⊕ variable_r0

abbrev pub right_1 : Expression
right_1 = variable_q ⊗ variable_x1 ⊕ variable_r1

abbrev pub right_2 : Expression
right_2 = variable_q ⊗ variable_x2 ⊕ variable_r2

abbrev pub variable_y : Expression
variable_y = variable_t ⊗ (variable_x0 ⊕ variable_x1 ⊗ variable_s ⊕ variable_x2 ⊗ (variable_s ⊗ variable_s)) ⊖
    (variable_q ⊗ (variable_m1 ⊗ variable_m2) ⊕ variable_m1 ⊗ variable_w2 ⊕ variable_m2 ⊗ variable_w1 ⊕ variable_t ⊗
    (variable_k1 ⊗ variable_w2 ⊕ variable_k2 ⊗ variable_w1)) ⊖ variable_t ⊗ variable_q ⊗
    (variable_m1 ⊗ variable_k2 ⊕ variable_k1 ⊗ variable_m2 ⊕ variable_t ⊗ (variable_k1 ⊗ variable_k2))

abbrev pub left : Expression
left = variable_q ⊗ variable_y

abbrev pub right : Expression
right = variable_w1 ⊗ variable_w2 ⊖ variable_t ⊗ (variable_r0 ⊕ variable_r1 ⊗ variable_s ⊕ variable_r2 ⊗ (variable_s ⊗ variable_s))

-- the multiples of the hypotheses that add up to the conclusion
abbrev pub multiple_0 : Expression
multiple_0 = minus variable_t

abbrev pub multiple_1 : Expression
multiple_1 = minus (variable_t ⊗ variable_s)

abbrev pub multiple_2 : Expression
multiple_2 = minus (variable_t ⊗ (variable_s ⊗ variable_s))

abbrev pub zero_sum : Expression
zero_sum = multiple_0 ⊗ (left_0 ⊖ right_0) ⊕ multiple_1 ⊗ (left_1 ⊖ right_1) ⊕ multiple_2 ⊗ (left_2 ⊖ right_2) ⊕ left_b ⊗
    (left_a ⊖ right_a) ⊕ right_a ⊗ (left_b ⊖ right_b)

module _ (R : CommutativeRing) (Q T s a0 a1 b0 b1 m1 m2 w1 w2 k1 k2 x0 x1 x2 r0 r1 r2 : R.Element) where
  abbrev pub values : List R.Element
  values = Q ∷ T ∷ s ∷ a0 ∷ a1 ∷ b0 ∷ b1 ∷ m1 ∷ m2 ∷ w1 ∷ w2 ∷ k1 ∷ k2 ∷ x0 ∷ x1 ∷ x2 ∷ r0 ∷ r1 ∷ r2 ∷ []

  -- t times the phase of the quotients is q times the product of the plaintexts, with the noise in full
  pub product_identity : R.Equal (Ring.value_of R values left_a) (Ring.value_of R values right_a)
      → R.Equal (Ring.value_of R values left_b) (Ring.value_of R values right_b)
      → R.Equal (Ring.value_of R values left_0) (Ring.value_of R values right_0)
      → R.Equal (Ring.value_of R values left_1) (Ring.value_of R values right_1)
      → R.Equal (Ring.value_of R values left_2) (Ring.value_of R values right_2)
      → R.Equal (Ring.value_of R values left) (Ring.value_of R values right)
  product_identity ha hb h0 h1 h2 =
      Ring.ring_identity_from R values left right zero_sum refl
      (Ring.vanishing_sum R
      (Ring.vanishing_sum R
      (Ring.vanishing_sum R
      (Ring.vanishing_sum R (Ring.vanishing_multiple R (Ring.value_of R values multiple_0) h0)
      (Ring.vanishing_multiple R (Ring.value_of R values multiple_1) h1))
      (Ring.vanishing_multiple R (Ring.value_of R values multiple_2) h2))
      (Ring.vanishing_multiple R (Ring.value_of R values left_b) ha)) (Ring.vanishing_multiple R (Ring.value_of R values right_a) hb))
