use Rattle.std.proofs.Common.{◌∙◌, arith}
use Rattle.rns_poly.proofs.Words.{difference_word}
use Rattle.rns_poly.proofs.one_row.sub.Goals as goal

pub returns-clause-represents : goal.returns-clause-represents
returns-clause-represents g c = λ x y hx hy k l.
    rw (← c.value.ensures.value)
    (c.sub_row.ensures.residues k (omega arith)
    ∙ difference_word c.value.result _ _ (x k) (y k) (omega arith) (rw c.value.ensures.value (hx k l)) (rw c.value.ensures.value (hy k l)))
