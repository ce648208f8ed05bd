use Rattle.std.proofs.Common.{◌≡◌, length}
use Rattle.script_text.specs.Scripts.{needs_of}
use Rattle.noise_check.proofs.Scripts.{needs_from}
use Rattle.noise_check.proofs.checking.switches.Given as goal

abbrev pub invariant-loop-i : goal.invariant-loop-i
invariant-loop-i l = needs_from l.script l.i ≡ length (needs_of l.script)
