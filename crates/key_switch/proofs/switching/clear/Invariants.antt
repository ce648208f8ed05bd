use Rattle.std.proofs.Common.{◌≡◌, ℕ, ◌<◌}
use Rattle.ring_law.specs.Rows.{word_at}
use Rattle.key_switch.proofs.switching.clear.Given as goal

abbrev pub invariant-loop-i : goal.invariant-loop-i
invariant-loop-i g l = (j k : ℕ) → j < l.i → k < g.row.N → word_at l.rows j k ≡ 0
