-- The phase, as it is computed: c0 + (c1 + c2 * s) * s.
use Rattle.std.proofs.Common.{◌≡◌, ℕ, ◌<◌, ℤ, pos, ◌+ℤ◌, arith, lit<, sym, ap, ◌∙◌, List, length, slice_index}
use Rattle.std.proofs.Math.Nat.{zero-mod}
use Rattle.std.proofs.lemmas.Int.{ints}
use Rattle.set_table.specs.declared.SetName.{SetName}
use Rattle.set_table.specs.declared.SetName.TheVariants.{One16, Toy16, S4096, S8192, S16384}
use Rattle.set_table.specs.Sets.{degree_of}
use Rattle.ring_law.specs.Polynomials.{CongruentPolynomials, ring_product, ring_sum}
use Rattle.ring_law.specs.Residues.{residue}
use Rattle.ring_law.specs.Rows.{Represents, WordsRepresent}
use Rattle.ring_law.proofs.Congruence.{Congruent-add, Congruent-equal, Congruent-refl, Congruent-sym, Congruent-trans}
use Rattle.ring_law.proofs.PolynomialRing.{ring_product_congruent}
use Rattle.ring_law.proofs.Residues.{Congruent-from_residues}
use Rattle.ring_law.proofs.RingProduct.{ring_product_add, ring_product_assoc, ring_product_zero}
use Rattle.bfv_model.specs.Holds.{phase, zero_polynomial}

phase_is : (n : ℕ) (x0 x1 x2 s : ℕ → ℤ) (k : ℕ) → 0 < n
    → ring_sum x0 (ring_product n (ring_sum x1 (ring_product n x2 s)) s) k ≡ phase n x0 x1 x2 s k
phase_is n x0 x1 x2 s k some =
    ap (λ (v : ℤ). x0 k +ℤ v) (ring_product_add n x1 (ring_product n x2 s) s k
    ∙ ap (λ (v : ℤ). ring_product n x1 s k +ℤ v) (ring_product_assoc n some x2 s s k))
    ∙ grouped (x0 k) (ring_product n x1 s k) (ring_product n x2 (ring_product n s s) k)
  where
    grouped : (a b c : ℤ) → a +ℤ (b +ℤ c) ≡ a +ℤ b +ℤ c
    grouped a b c = omega (arith, ints)

-- modulo each modulus, where the words of the third part are zero it adds nothing to the slope
pub slope_of_two : (n : ℕ) (moduli : List ℕ) (word : ℕ → ℕ → ℕ) (x1 x2 s : ℕ → ℤ) → WordsRepresent n moduli word x2
    → ((i k : ℕ) → i < length moduli → k < n → word i k ≡ 0) → (i : ℕ) → i < length moduli → 0 < slice_index moduli i
    → CongruentPolynomials (slice_index moduli i) n x1 (ring_sum x1 (ring_product n x2 s))
slope_of_two n moduli word x1 x2 s represents none i within positive =
    let q = slice_index moduli i in
    let zero : CongruentPolynomials q n x2 zero_polynomial = record {
      at = λ k less. Congruent-from_residues q (x2 k) (pos 0) positive (sym (represents i k within less) ∙ none i k within less ∙ sym (zero-mod q));
    } in
    let product : CongruentPolynomials q n (ring_product n x2 s) (ring_product n zero_polynomial s) =
    ring_product_congruent q n zero (record { at = λ k less. Congruent-refl q (s k) }) in
    record {
      at = λ k less. Congruent-trans q (Congruent-equal q (with_zero (x1 k)))
          (Congruent-add q (Congruent-refl q (x1 k))
          (Congruent-sym q (Congruent-trans q (product.at k less) (Congruent-equal q (ring_product_zero n s k)))));
    }
  where
    with_zero : (a : ℤ) → a ≡ a +ℤ pos 0
    with_zero a = omega (arith, ints)

-- so do the rows of the phase, each modulo its modulus
pub phase_represented : (n : ℕ) (moduli : List ℕ) (rows : List (List ℕ)) (x0 x1 x2 s : ℕ → ℤ) → 0 < n
    → Represents n moduli rows (ring_sum x0 (ring_product n (ring_sum x1 (ring_product n x2 s)) s)) → Represents n moduli rows (phase n x0 x1 x2 s)
phase_represented n moduli rows x0 x1 x2 s some represents i k within less =
    represents i k within less ∙ ap (residue (slice_index moduli i)) (phase_is n x0 x1 x2 s k some)

pub degree_of-positive : (set : SetName) → 0 < degree_of set
degree_of-positive One16 = lit< tt
degree_of-positive Toy16 = lit< tt
degree_of-positive S4096 = lit< tt
degree_of-positive S8192 = lit< tt
degree_of-positive S16384 = lit< tt
