use Rattle.std.proofs.Common.{◌≡◌}
use Rattle.bfv_encrypt.proofs.tests.fill_key.Given as goal

abbrev pub invariant-loop-i : goal.invariant-loop-i
invariant-loop-i g l = record { set : l.key.set ≡ l.fn.key.set }
