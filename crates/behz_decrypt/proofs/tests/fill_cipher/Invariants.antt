use Rattle.std.proofs.Common.{◌≡◌}
use Rattle.behz_decrypt.proofs.tests.fill_cipher.Given as goal

abbrev pub invariant-loop-i : goal.invariant-loop-i
invariant-loop-i g l = record { set : l.cipher.set ≡ l.fn.cipher.set; level : l.cipher.level ≡ l.fn.cipher.level; parts : l.cipher.parts ≡ l.fn.cipher.parts }
