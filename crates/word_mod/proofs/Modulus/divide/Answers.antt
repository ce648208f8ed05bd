use Rattle.std.proofs.Common.{arith}
use Rattle.word_mod.proofs.Reciprocal.{barrett_near}
use Rattle.word_mod.proofs.Remainder.{quotient_at, quotient_past, remainder_at, remainder_past}
use Rattle.word_mod.proofs.Modulus.divide.Goals as goal

pub overflow_sub-rest : goal.overflow_sub-rest
overflow_sub-rest c =
    (barrett_near c.self.inside.q c.self.inside.ratio c.args.a _ (omega arith) (omega arith) c.self.invariant.1 c.high_product-quotient.ensures).0

pub overflow_cast-rest-2 : goal.overflow_cast-rest-2
overflow_cast-rest-2 c =
    let near = barrett_near c.self.inside.q c.self.inside.ratio c.args.a _ (omega arith) (omega arith) c.self.invariant.1 c.high_product-quotient.ensures in omega arith

pub returns-then-rest-self-clause-rest : goal.returns-then-rest-self-clause-rest
returns-then-rest-self-clause-rest c =
    let near = barrett_near c.self.inside.q c.self.inside.ratio c.args.a _ (omega arith) (omega arith) c.self.invariant.1 c.high_product-quotient.ensures in
    rw (← c.self.view_is) (remainder_past c.args.a c.high_product-quotient.result c.self.inside.q near.0 (omega arith) near.1)

pub returns-else-rest-self-clause-rest : goal.returns-else-rest-self-clause-rest
returns-else-rest-self-clause-rest c =
    let near = barrett_near c.self.inside.q c.self.inside.ratio c.args.a _ (omega arith) (omega arith) c.self.invariant.1 c.high_product-quotient.ensures in
    rw (← c.self.view_is) (remainder_at c.args.a c.high_product-quotient.result c.self.inside.q near.0 (omega arith))

pub returns-then-rest-self-clause-below : goal.returns-then-rest-self-clause-below
returns-then-rest-self-clause-below c =
    let near = barrett_near c.self.inside.q c.self.inside.ratio c.args.a _ (omega arith) (omega arith) c.self.invariant.1 c.high_product-quotient.ensures in omega arith

pub returns-then-rest-self-clause-quotient : goal.returns-then-rest-self-clause-quotient
returns-then-rest-self-clause-quotient c =
    let near = barrett_near c.self.inside.q c.self.inside.ratio c.args.a _ (omega arith) (omega arith) c.self.invariant.1 c.high_product-quotient.ensures in
    rw (← c.self.view_is) (quotient_past c.args.a c.high_product-quotient.result c.self.inside.q near.0 (omega arith) near.1)

pub returns-else-rest-self-clause-quotient : goal.returns-else-rest-self-clause-quotient
returns-else-rest-self-clause-quotient c =
    let near = barrett_near c.self.inside.q c.self.inside.ratio c.args.a _ (omega arith) (omega arith) c.self.invariant.1 c.high_product-quotient.ensures in
    rw (← c.self.view_is) (quotient_at c.args.a c.high_product-quotient.result c.self.inside.q near.0 (omega arith))
