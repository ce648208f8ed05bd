-- What fast floors give for the noise of a product: each is t*d / q up to a small rest.
use Rattle.std.proofs.Common.{ap₂, arith, mul-le-mul_right, nat_abs, pos, refl, subst, suc, sym, ℕ, ℤ, ◌*ℤ◌, ◌*◌, ◌+ℤ◌, ◌+◌, ◌-ℤ◌, ◌<◌, ◌∙◌, ◌≡◌, ◌≤◌}
use Rattle.std.proofs.lemmas.Int.{ints}
use Rattle.ring_law.specs.Residues.{floor_quotient, residue}
use Rattle.ring_law.proofs.FloorQuotients.{floor_quotient_equation}
use Rattle.ring_law.proofs.Residues.{residue_lt}
use Rattle.ring_law.proofs.RingSolver.{identity4, ◌⊕◌, ◌⊖◌, ◌⊗◌}
use Rattle.bfv_model.specs.Conversions.{IsScaledQuotient}
use Rattle.fast_conv.specs.Converters.{AreFastFloors, IsFastFloor}

pub IsScaledQuotient-from_floors : (n q t L : ℕ) (d e : ℕ → ℤ) → 0 < q → AreFastFloors n q t L d e → IsScaledQuotient n q t L d e
IsScaledQuotient-from_floors n q t L d e pos_q floors = record {
  rest = λ k. pos t *ℤ d k -ℤ pos q *ℤ e k;
  equation = λ k below. recombined (pos t *ℤ d k) (pos q *ℤ e k);
  small = λ k below. small_rest (d k) (e k) (floors k below);
}
  where
    recombined : (a b : ℤ) → a ≡ b +ℤ (a -ℤ b)
    recombined a b = omega (arith, ints)

    -- the rest is a residue modulo q and the overflow times q
    small_rest : (x y : ℤ) → IsFastFloor q t L x y → nat_abs (pos t *ℤ x -ℤ pos q *ℤ y) ≤ L * q
    small_rest x y floor =
        let z = pos t *ℤ x in
        let is : z -ℤ pos q *ℤ y ≡ pos (residue q z) +ℤ pos floor.overflow *ℤ pos q =
        ap₂ (λ (u v : ℤ). u -ℤ pos q *ℤ v) (floor_quotient_equation q z pos_q) floor.equation
        ∙ identity4 (λ r f q o. (r ⊕ f ⊗ q) ⊖ q ⊗ (f ⊖ o)) (λ r f q o. r ⊕ o ⊗ q) refl (pos (residue q z)) (floor_quotient q z) (pos q)
        (pos floor.overflow) in
        subst (λ (rest : ℤ). nat_abs rest ≤ L * q) (sym is)
        (below_all (residue q z) floor.overflow (residue_lt q z pos_q) (mul-le-mul_right q floor.few))
      where
        below_all : (r o : ℕ) → r < q → suc o * q ≤ L * q → nat_abs (pos (r + o * q)) ≤ L * q
        below_all r o less most = omega (arith, ints)
