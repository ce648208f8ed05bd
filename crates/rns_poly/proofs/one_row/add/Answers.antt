use Rattle.std.proofs.Common.{◌∙◌, arith}
use Rattle.rns_poly.proofs.Words.{sum_word}
use Rattle.rns_poly.proofs.one_row.add.Goals as goal

pub returns-clause-represents : goal.returns-clause-represents
returns-clause-represents g c = λ x y hx hy k l.
    rw (← c.value.ensures.value)
    (c.add_row.ensures.residues k (omega arith)
    ∙ sum_word c.value.result _ _ (x k) (y k) (omega arith) (rw c.value.ensures.value (hx k l)) (rw c.value.ensures.value (hy k l)))
