use Rattle.std.proofs.Common.{◌∙◌, arith}
use Rattle.rns_poly.proofs.Words.{product_word}
use Rattle.rns_poly.proofs.one_row.pointwise.Goals as goal

pub returns-clause-represents : goal.returns-clause-represents
returns-clause-represents g c = λ x y hx hy k l.
    let reduced = c.requires.a_reduced k l in
    c.loop-k.invariant.products k (omega arith) ∙ product_word c.args.m.now _ _ (x k) (y k) (omega arith) (hx k l) (hy k l)
