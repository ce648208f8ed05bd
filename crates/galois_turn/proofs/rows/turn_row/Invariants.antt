use Rattle.std.proofs.Common.{◌≡◌, ◌*◌, ◌%◌, length}
use Rattle.galois_turn.proofs.TurnedRows.{TurnedBefore}
use Rattle.galois_turn.proofs.rows.turn_row.Given as goal

abbrev pub invariant-loop-i : goal.invariant-loop-i
invariant-loop-i g l = record {
  words : length l.to ≡ g.row.N;
  power : l.power ≡ l.g * l.i % (2 * g.row.N);
  turned : TurnedBefore g.row.N l.m l.g l.from l.to l.i;
}
