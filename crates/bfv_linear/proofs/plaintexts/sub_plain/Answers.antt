use Rattle.std.proofs.Common.{slice_index}
use Rattle.bfv_linear.proofs.Operations.{HoldsIn-plain_difference}
use Rattle.bfv_linear.proofs.plaintexts.sub_plain.Goals as goal

pub returns-clause-words : goal.returns-clause-words
returns-clause-words g c = c.add_signed_plain.ensures.words

pub returns-clause-difference : goal.returns-clause-difference
returns-clause-difference g c = λ s m bound h. HoldsIn-plain_difference g.row.N c.args.ctx.now c.add_signed_plain.ensures.degree c.args.a.now c.add_signed_plain.new.out (slice_index c.args.plain.now) (returns-clause-words g c) h
