use Rattle.std.proofs.Common.{◌≡◌, drop}
use Rattle.std.specs.List.{find}
use Rattle.key_switch.specs.Memory.{is_for}
use Rattle.key_switch.proofs.memory.find_key.Given as goal

abbrev pub invariant-loop-key : goal.invariant-loop-key
invariant-loop-key g l = find (is_for l.kind l.element) l.keys ≡ find (is_for l.kind l.element) (drop l.key-index l.keys)
