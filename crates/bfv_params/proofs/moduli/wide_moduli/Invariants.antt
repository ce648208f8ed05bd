use Rattle.std.proofs.Common.{◌≡◌, take}
use Rattle.set_table.specs.Sets.{aux_of}
use Rattle.bfv_params.proofs.moduli.wide_moduli.Given as goal

abbrev pub invariant-loop-i : goal.invariant-loop-i
invariant-loop-i l = l.moduli.items ≡ take l.i (aux_of l.set)
