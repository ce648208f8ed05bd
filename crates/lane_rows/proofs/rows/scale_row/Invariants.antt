use Rattle.std.proofs.Common.{◌≡◌, ◌+◌, ◌*◌, ◌%◌, ◌<◌, ℕ, get_or}
use Rattle.lane_rows.proofs.rows.scale_row.Given as goal

abbrev pub invariant-chunks : goal.invariant-chunks
invariant-chunks l = (j : ℕ) → j < 4 * l.k → get_or l.out j 0 ≡ (l.w * get_or l.a j 0) % l.q

abbrev pub invariant-places : goal.invariant-places
invariant-places l = (j : ℕ) → j < 4 * l.k + l.r → get_or l.out j 0 ≡ (l.w * get_or l.a j 0) % l.q

abbrev pub invariant-rest : goal.invariant-rest
invariant-rest l = (j : ℕ) → j < l.i → get_or l.out j 0 ≡ (l.w * get_or l.a j 0) % l.q
