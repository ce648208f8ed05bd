use Rattle.std.proofs.Common.{◌∙◌, arith}
use Rattle.rns_poly.proofs.Words.{negative_word}
use Rattle.rns_poly.proofs.one_row.neg.Goals as goal

pub returns-clause-represents : goal.returns-clause-represents
returns-clause-represents g c = λ x hx k l.
    rw (← c.value.ensures.value)
    (c.neg_row.ensures.residues k (omega arith) ∙ negative_word c.value.result _ (x k) (omega arith) (rw c.value.ensures.value (hx k l)))
