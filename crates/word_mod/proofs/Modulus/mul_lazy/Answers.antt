use Rattle.std.proofs.Common.{arith}
use Rattle.word_mod.proofs.Reciprocal.{shoup_product}
use Rattle.word_mod.proofs.Modulus.mul_lazy.Goals as goal

pub returns-clause-congruent : goal.returns-clause-congruent
returns-clause-congruent c =
    rw (← c.self.view_is) ((shoup_product c.self.inside.q c.args.f.now.w c.args.f.now.shoup c.args.x (omega arith) (omega arith) (rw c.self.view_is c.requires.shoup) (omega arith)).0)

pub returns-clause-below : goal.returns-clause-below
returns-clause-below c =
    rw (← c.self.view_is) ((shoup_product c.self.inside.q c.args.f.now.w c.args.f.now.shoup c.args.x (omega arith) (omega arith) (rw c.self.view_is c.requires.shoup) (omega arith)).1)
