use Rattle.std.proofs.Common.{ℕ, List, [], ◌∷◌, ap₂, rules, sym, subst}
use Rattle.rns_poly.specs.Rows.{AreReduced}
use Rattle.rns_poly.proofs.tests.products_by_transforms.Goals as goal

pub pointwise_into-requires : goal.pointwise_into-requires
pointwise_into-requires g c =
    let moduli = ap₂ (λ (first second : ℕ). first ∷ second ∷ []) c.in_ok-first-2.ensures.modulus c.in_ok-second-2.ensures.modulus in
    let a = subst (λ (moduli : List ℕ). AreReduced 4 moduli c.forward_all.new.rows) moduli c.forward_all.ensures.reduced in
    let b = subst (λ (moduli : List ℕ). AreReduced 4 moduli c.forward_all-2.new.rows) moduli c.forward_all-2.ensures.reduced in
    (search rules, (search rules, (search rules, (search rules, (search rules, (search rules, (search rules, (a, b))))))))

pub inverse_all-requires : goal.inverse_all-requires
inverse_all-requires g c =
    let moduli = ap₂ (λ (first second : ℕ). first ∷ second ∷ []) c.in_ok-first-2.ensures.modulus c.in_ok-second-2.ensures.modulus in
    let out = subst (λ (moduli : List ℕ). AreReduced 4 moduli c.pointwise_into.new.out) (sym moduli) c.pointwise_into.ensures.reduced in
    (search rules, (search rules, (search rules, (search rules, out))))
