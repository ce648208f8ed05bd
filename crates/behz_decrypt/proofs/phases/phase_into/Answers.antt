use Rattle.std.proofs.Common.{◌≡◌, ◌*◌, ◌<◌, ◌≤◌, ◌∙◌, ℕ, ℤ, List, arith, length, subst, sym}
use Rattle.ring_law.specs.Polynomials.{ring_product, ring_sum}
use Rattle.ring_law.specs.Rows.{listed_polynomial}
use Rattle.rns_poly.specs.Rows.{AreReduced, EachRepresents}
use Rattle.rns_poly.specs.Transforms.{AreTransforms}
use Rattle.bfv_params.specs.Contexts.{data_in, transforms_in}
use Rattle.bfv_params.proofs.Parts.{data_of_cipher, part_in_context}
use Rattle.behz_decrypt.proofs.PhaseRows.{degree_of-positive, phase_represented}
use Rattle.behz_decrypt.proofs.Splits.{front_length, rest_length}
use Rattle.behz_decrypt.proofs.phases.phase_into.Goals as goal

pub add_into-requires : goal.add_into-requires
add_into-requires g c =
    let n = g.row.N in
    let moduli = data_in c.args.ctx.now in
    let level : ℕ = c.args.ctx.now.level in
    let degree : n ≤ 32768 = c.data_moduli.ensures.limit in
    let rest : length c.split-small.result.1.now ≡ 3 * level =
    rest_length (length c.args.out.now) (3 * level) c.args.scratch.now c.split-small.result.1.now c.split-small.ensures.second (omega (arith, c.requires.room, c.requires.count)) in
    let spare : length c.slope_into.new.scratch ≡ 2 * level =
    c.slope_into.auto.scratch
    ∙ rest_length (length c.args.out.now) (2 * level) c.split-small.result.1.now c.split-slope.result.1.now c.split-slope.ensures.second (omega (arith, rest, c.requires.count)) in
    let product : length c.product_into.new.out ≡ level =
    c.product_into.auto.out
    ∙ front_length (length c.args.out.now) c.slope_into.new.scratch c.split-product.result.0.now c.split-product.ensures.first (omega (arith, spare, c.requires.count))
    ∙ c.requires.count in
    let counted : length c.data_moduli.result.now ≡ level = c.data_moduli.ensures.count in
    let Reduced : List ℕ → List (List ℕ) → Type 0 = λ qs rows. AreReduced n qs rows in (
      omega arith,
      (
        omega arith,
        (
          omega (arith, degree),
          (
            degree,
            (
              c.part.ensures.count ∙ c.requires.cipher_of.level ∙ sym counted,
              (
                product ∙ sym counted,
                (
                  c.requires.count ∙ sym counted,
                  (
                    subst (λ qs. Reduced qs c.part.result.rows.now) (data_of_cipher c.args.ctx.now c.args.cipher.now c.requires.cipher_of ∙ sym c.data_moduli.ensures.value) c.part.ensures.reduced,
                    subst (λ qs. Reduced qs c.product_into.new.out) (sym c.data_moduli.ensures.value) c.product_into.ensures.reduced,
                  ),
                ),
              ),
            ),
          ),
        ),
      ),
    )

pub returns-clause-represents : goal.returns-clause-represents
returns-clause-represents g c = λ x0 x1 x2 zeroth first second.
    let n = g.row.N in
    let set = c.args.ctx.now.set in
    let moduli = data_in c.args.ctx.now in
    let small = listed_polynomial c.args.secret.now.small in
    let slope = ring_sum x1 (ring_product n x2 small) in
    let a = c.part.result.rows.now in
    let b = c.product_into.new.out in
    let out = c.add_into.new.out in
    let some : 0 < n = subst (λ m. 0 < m) (sym c.data_moduli.ensures.degree) (degree_of-positive set) in
    let Sums : List ℕ → Type 0 = λ qs. (u v : ℕ → ℕ → ℤ) → EachRepresents n qs a u → EachRepresents n qs b v → EachRepresents n qs out (λ i. ring_sum (u i) (v i)) in
    let secret : AreTransforms (transforms_in c.args.ctx.now) c.transform_small_into.new.out (λ i. small) =
    subst (λ (coefficients : List ℤ). AreTransforms (transforms_in c.args.ctx.now) c.transform_small_into.new.out (λ i. listed_polynomial coefficients)) c.small.ensures.value
    c.transform_small_into.ensures.transforms in
    let product = c.product_into.ensures.represents (λ i. slope) (λ i. small) (c.slope_into.ensures.transforms x1 x2 small first second secret) secret in
    phase_represented n moduli out x0 x1 x2 small some (subst Sums c.data_moduli.ensures.value c.add_into.ensures.represents (λ i. x0) (λ i. ring_product n slope small)
    (part_in_context c.args.ctx.now c.args.cipher.now c.requires.cipher_of n 0 a x0 c.part.ensures.represents zeroth) product)

pub returns-clause-reduced : goal.returns-clause-reduced
returns-clause-reduced g c = subst (λ qs. AreReduced g.row.N qs c.add_into.new.out) c.data_moduli.ensures.value c.add_into.ensures.reduced
