use Rattle.res_base.specs.Bases.{CoprimeFromTo}
use Rattle.res_base.proofs.base.first_not_coprime_to.Given as goal

abbrev pub invariant-loop-j : goal.invariant-loop-j
invariant-loop-j l = CoprimeFromTo l.moduli l.i l.j
