use Rattle.std.proofs.Common.{◌≡◌, take}
use Rattle.set_table.specs.Sets.{data_of}
use Rattle.bfv_params.proofs.moduli.key_moduli.Given as goal

abbrev pub invariant-loop-i : goal.invariant-loop-i
invariant-loop-i l = l.moduli.items ≡ take l.i (data_of l.set)
