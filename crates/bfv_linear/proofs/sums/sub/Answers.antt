use Rattle.bfv_linear.proofs.Operations.{HoldsIn-difference}
use Rattle.bfv_linear.proofs.sums.sub.Goals as goal

pub returns-clause-words : goal.returns-clause-words
returns-clause-words g c = c.add_signed.ensures.words

pub returns-clause-difference : goal.returns-clause-difference
returns-clause-difference g c = λ s m other bound more h held. HoldsIn-difference g.row.N c.args.ctx.now c.add_signed.ensures.degree c.args.a.now c.add_signed.new.out c.args.b.now (returns-clause-words g c) h held
