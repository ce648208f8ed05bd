use Rattle.ring_law.proofs.Moduli.{PairwiseInvertible-from_coprime, product_positive}
use Rattle.ring_law.proofs.Rows.{WordsRepresent-unique, represented_polynomial}
use Rattle.ring_law.proofs.laws.representation_laws.Goals as goal

pub returns-clause-exists : goal.returns-clause-exists
returns-clause-exists c = λ n moduli word coprime above reduced. represented_polynomial n moduli (PairwiseInvertible-from_coprime moduli coprime) above (product_positive moduli above) word reduced

pub returns-clause-unique : goal.returns-clause-unique
returns-clause-unique c = λ n moduli word x y coprime above of_x of_y. WordsRepresent-unique n moduli word x y (PairwiseInvertible-from_coprime moduli coprime) above of_x of_y
