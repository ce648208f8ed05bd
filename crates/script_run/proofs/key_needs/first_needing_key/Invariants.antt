use Rattle.std.proofs.Common.{◌≡◌, ◌<◌, ℕ, false, get_or}
use Rattle.set_table.specs.Sets.{degree_of}
use Rattle.script_run.proofs.KeyNeeds.{asks, no_step}
use Rattle.script_run.proofs.key_needs.first_needing_key.Given as goal

abbrev pub invariant-loop-i : goal.invariant-loop-i
invariant-loop-i l = (k : ℕ) → k < l.i → asks (degree_of l.script.set) (get_or l.script.steps k no_step).op ≡ false
