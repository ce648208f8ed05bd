use Rattle.std.proofs.Common.{ℕ, ◌*◌, ◌%◌, ◌∙◌, ap, get_or, pos, arith}
use Rattle.rns_poly.proofs.Words.{product_word}
use Rattle.rns_poly.proofs.one_row.scale.Goals as goal

pub returns-clause-represents : goal.returns-clause-represents
returns-clause-represents g c = λ x hx k l.
    let q : ℕ = c.args.m.now in
    let word : ℕ = get_or c.args.row.now k 0 in
    rw c.value.ensures.value at (c.scale_row_in_place.ensures.residues k (omega arith))
    ∙ ap (λ (w : ℕ). (w * word) % q) c.factor-factor.ensures.w
    ∙ product_word q c.reduce.result word (pos c.args.factor) (x k) (omega arith) c.reduce.ensures.value (hx k l)
