use Rattle.bfv_linear.proofs.Operations.{HoldsIn-sum}
use Rattle.bfv_linear.proofs.sums.add.Goals as goal

pub returns-clause-words : goal.returns-clause-words
returns-clause-words g c = c.add_signed.ensures.words

pub returns-clause-sum : goal.returns-clause-sum
returns-clause-sum g c = λ s m other bound more h held. HoldsIn-sum g.row.N c.args.ctx.now c.add_signed.ensures.degree c.args.a.now c.add_signed.new.out c.args.b.now (returns-clause-words g c) h held
