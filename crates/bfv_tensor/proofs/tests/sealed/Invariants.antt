use Rattle.std.proofs.Common.{◌≡◌, length}
use Rattle.bfv_tensor.proofs.tests.sealed.Given as goal

abbrev pub invariant-loop-i : goal.invariant-loop-i
invariant-loop-i g l = record {
  set : l.cipher.set ≡ l.ctx.set;
  level : l.cipher.level ≡ l.ctx.level;
  parts : l.cipher.parts ≡ 2;
  scaled : length l.scaled ≡ 1;
}
