-- Scaling by t/q: what the fast floor gives, and why the way back is exact.
use Rattle.std.proofs.Common.{◌≡◌, ℕ, suc, ◌+◌, ◌*◌, ◌/◌, ◌<◌, ◌≤◌, ◌∙◌, arith, refl, sym, subst, ap, le_trans, mul-le-mul_left, mul-le-mul_right, ℤ, pos, nat_abs, ◌+ℤ◌, ◌-ℤ◌, ◌*ℤ◌, length}
use Rattle.std.proofs.Math.Nat.{le_of_mul-le-mul_left}
use Rattle.std.proofs.lemmas.Int.{ints, unsigned_abs-mul}
use Rattle.set_table.specs.Sets.{aux_of, data_of, degree_of, m_sk, plain_of}
use Rattle.ring_law.specs.Moduli.{product}
use Rattle.ring_law.specs.Polynomials.{AllWithin}
use Rattle.ring_law.specs.Residues.{floor_quotient, residue}
use Rattle.ring_law.proofs.FloorQuotients.{floor_quotient_equation}
use Rattle.ring_law.proofs.Residues.{residue_lt}
use Rattle.ring_law.proofs.RingSolver.{identity4, ◌⊕◌, ◌⊖◌, ◌⊗◌}
use Rattle.res_base.specs.Sizes.{FitTogether}
use Rattle.res_base.proofs.Sizes.{fit_together}
use Rattle.fast_conv.specs.Converters.{AreFastFloors, IsFastFloor}
use Rattle.bfv_model.specs.Conversions.{IsScaledQuotient}
use Rattle.bfv_model.proofs.Sets.{AllAboveOne-data_of}
use Rattle.bfv_params.specs.Contexts.{data_in, modulus_in}
use Rattle.bfv_params.specs.Values.{ContextValue}
use Rattle.bfv_params.proofs.Coprimality.{data_length}
use Rattle.bfv_tensor.proofs.ProductModuli.{modulus_positive, product_take_le}

-- ---- a fast floor is a scaled quotient
-- the rest of the division
rest_of : (q t : ℕ) (d e : ℤ) → ℤ
rest_of q t d e = pos t *ℤ d -ℤ pos q *ℤ e

rest_is : (q t L : ℕ) (d e : ℤ) → 0 < q → (f : IsFastFloor q t L d e) → rest_of q t d e ≡ pos (residue q (pos t *ℤ d) + f.overflow * q)
unfolding rest_of
rest_is q t L d e positive f =
    ap (λ (z : ℤ). pos t *ℤ d -ℤ pos q *ℤ z) f.equation
    ∙ ap (λ (z : ℤ). z -ℤ pos q *ℤ (floor_quotient q (pos t *ℤ d) -ℤ pos f.overflow)) (floor_quotient_equation q (pos t *ℤ d) positive)
    ∙ identity4 (λ r f q o. (r ⊕ f ⊗ q) ⊖ q ⊗ (f ⊖ o)) (λ r f q o. r ⊕ o ⊗ q) refl (pos (residue q (pos t *ℤ d))) (floor_quotient q (pos t *ℤ d)) (pos q) (pos f.overflow)

rest_small : (q t L : ℕ) (d e : ℤ) → 0 < q → IsFastFloor q t L d e → nat_abs (rest_of q t d e) ≤ L * q
rest_small q t L d e positive f = subst (λ (z : ℤ). nat_abs z ≤ L * q) (sym (rest_is q t L d e positive f))
    (let below = residue_lt q (pos t *ℤ d) positive in let few : suc f.overflow * q ≤ L * q = mul-le-mul_right q f.few in omega arith)

pub IsScaledQuotient-from : (n q t L : ℕ) (d e : ℕ → ℤ) → 0 < q → AreFastFloors n q t L d e → IsScaledQuotient n q t L d e
unfolding rest_of
IsScaledQuotient-from n q t L d e positive floors = record {
  rest = λ k. rest_of q t (d k) (e k);
  equation = λ k less. restored (pos t *ℤ d k) (pos q *ℤ e k);
  small = λ k less. rest_small q t L (d k) (e k) positive (floors k less);
}
  where
    restored : (a b : ℤ) → a ≡ b +ℤ (a -ℤ b)
    restored a b = omega (arith, ints)

-- ---- its size
quotient_bound : (n q t L : ℕ) (d e r : ℤ) → 0 < q → nat_abs d ≤ n * (q * q) → nat_abs r ≤ L * q → pos t *ℤ d ≡ pos q *ℤ e +ℤ r → nat_abs e ≤ t * n * q + L
quotient_bound n q t L d e r positive d_small r_small equation =
    let scaled : t * nat_abs d ≤ t * (n * (q * q)) = mul-le-mul_left t d_small in
    let sides : q * nat_abs e ≤ t * nat_abs d + nat_abs r =
    apart (pos t *ℤ d) (pos q *ℤ e) r (t * nat_abs d) (q * nat_abs e) (unsigned_abs-mul (pos t) d) (unsigned_abs-mul (pos q) e) equation in
    le_of_mul-le-mul_left {k = q} (whole (nat_abs e) (nat_abs d) (nat_abs r) scaled r_small sides) positive
  where
    apart : (a b r : ℤ) (x y : ℕ) → nat_abs a ≡ x → nat_abs b ≡ y → a ≡ b +ℤ r → y ≤ x + nat_abs r
    apart a b r x y f g e = omega (arith, ints)

    whole : (e d r : ℕ) → t * d ≤ t * (n * (q * q)) → r ≤ L * q → q * e ≤ t * d + r → q * e ≤ q * (t * n * q + L)
    whole e d r a b c = omega arith

-- the scaled parts of a product are small enough for the way back
pub way_back_fits : (n : ℕ) (ctx : ContextValue) (d e : ℕ → ℤ) → n ≡ degree_of ctx.set → ctx.level ≤ length (data_of ctx.set)
    → AllWithin n (n * (modulus_in ctx * modulus_in ctx)) d → IsScaledQuotient n (modulus_in ctx) (plain_of ctx.set) (length (data_in ctx)) d e
    → AllWithin n (product (aux_of ctx.set) * (m_sk / 4)) e
way_back_fits n ctx d e degree within small scaled k less =
    let set = ctx.set in
    let fit : FitTogether set = fit_together set in
    let q : ℕ = modulus_in ctx in
    let count : length (data_in ctx) ≤ length (data_of set) = omega (arith, data_length set ctx.level within) in
    let modulus : q ≤ product (data_of set) = product_take_le ctx.level (data_of set) (AllAboveOne-data_of set) in
    le_trans (quotient_bound n q (plain_of set) (length (data_in ctx)) (d k) (e k) (scaled.rest k) (modulus_positive ctx) (small k less) (scaled.small k less) (scaled.equation k less))
    (le_trans (grown (plain_of set) n q (product (data_of set)) (length (data_in ctx)) (length (data_of set)) modulus count)
    (subst (λ (m : ℕ). plain_of set * m * product (data_of set) + length (data_of set) ≤ product (aux_of set) * (m_sk / 4)) (sym degree) fit.product_room))
  where
    grown : (t n q p a b : ℕ) → q ≤ p → a ≤ b → t * n * q + a ≤ t * n * p + b
    grown t n q p a b l m = let s : t * n * q ≤ t * n * p = mul-le-mul_left (t * n) l in omega arith
