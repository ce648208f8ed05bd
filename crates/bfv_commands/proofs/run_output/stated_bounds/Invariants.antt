use Rattle.std.proofs.Common.{◌≡◌, take}
use Rattle.bfv_commands.specs.RunStages.{bounds_of}
use Rattle.bfv_commands.proofs.run_output.stated_bounds.Given as goal

abbrev pub invariant-loop-i : goal.invariant-loop-i
invariant-loop-i l = l.bounds.items ≡ take l.i (bounds_of l.ciphers)
