use Rattle.std.proofs.Common.{arith}
use Rattle.bfv_linear.proofs.CentredResidues.{lower_residue, upper_residue}
use Rattle.bfv_linear.proofs.centred.centred_word.Goals as goal

pub returns-then-coefficient-t-clause-value : goal.returns-then-coefficient-t-clause-value
returns-then-coefficient-t-clause-value c =
    upper_residue c.args.m.now c.args.t c.args.coefficient c.reduce.result c.neg.result (omega (arith, c.neg.ensures.below)) c.requires (omega arith) c.reduce.ensures.value c.neg.ensures.value

pub returns-else-coefficient-t-clause-value : goal.returns-else-coefficient-t-clause-value
returns-else-coefficient-t-clause-value c =
    lower_residue c.args.m.now c.args.t c.args.coefficient c.reduce-else-coefficient-t.result c.requires (omega arith) c.reduce-else-coefficient-t.ensures.value
