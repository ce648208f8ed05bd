-- The rows so far are written.
use Rattle.std.proofs.Common.{◌≡◌, ◌*◌, length}
use Rattle.bfv_params.specs.Rows.{ArePartlyWritten}
use Rattle.bfv_params.proofs.cipher.Cipher.set_part.Given as goal

abbrev pub invariant-loop-i : goal.invariant-loop-i
invariant-loop-i g l = record {
  set : l.self.set ≡ l.fn.self.set;
  room : l.self.room ≡ l.fn.self.room;
  level : l.self.level ≡ l.fn.self.level;
  parts : l.self.parts ≡ l.fn.self.parts;
  count : length l.self.rows ≡ 3 * l.fn.self.level;
  written : ArePartlyWritten l.start l.i l.rows.rows.now l.fn.self.rows l.self.rows;
}
