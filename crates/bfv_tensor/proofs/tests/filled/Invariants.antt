use Rattle.std.proofs.Common.{◌≡◌}
use Rattle.bfv_tensor.proofs.tests.filled.Given as goal

abbrev pub invariant-loop-i : goal.invariant-loop-i
invariant-loop-i g l = record {
  set : l.cipher.set ≡ l.ctx.set;
  level : l.cipher.level ≡ l.ctx.level;
  parts : l.cipher.parts ≡ 2;
}
