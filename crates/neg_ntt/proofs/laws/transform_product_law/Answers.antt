use Rattle.std.proofs.Common.{ℕ, ◌*◌, ◌%◌, ◌<◌, arith, sym, subst, ap, ap₂, ◌∙◌}
use Rattle.ring_law.specs.Polynomials.{ring_product}
use Rattle.ring_law.specs.Transform.{transform_entry}
use Rattle.ring_law.proofs.TransformEntries.{transform_entry-ring_product}
use Rattle.neg_ntt.proofs.Steps.{AreParameters-minus_one}
use Rattle.neg_ntt.proofs.laws.transform_product_law.Goals as goal

pub returns : goal.returns
returns c n t a b a_row b_row row fit of_a of_b products j below =
    products j (subst (λ n. j < n) (sym fit.power) below)
    ∙ ap₂ (λ (u v : ℕ). u * v % t.modulus) (of_a j below) (of_b j below)
    ∙ sym (transform_entry-ring_product t.modulus t.log_degree t.root (omega (arith, fit.modulus.from_three)) (AreParameters-minus_one n t fit) a b j)
    ∙ ap (λ n. transform_entry t.modulus t.log_degree t.root (ring_product n a b) j) (sym fit.power)
