-- The rows so far are written.
use Rattle.std.proofs.Common.{◌≡◌, ◌*◌, length}
use Rattle.set_table.specs.Sets.{data_of}
use Rattle.bfv_params.specs.Rows.{ArePartlyWritten}
use Rattle.bfv_params.proofs.public.Public.set_part.Given as goal

abbrev pub invariant-loop-i : goal.invariant-loop-i
invariant-loop-i g l = record {
  set : l.self.set ≡ l.fn.self.set;
  count : length l.self.rows ≡ 2 * length (data_of l.fn.self.set);
  written : ArePartlyWritten l.start l.i l.rows.rows.now l.fn.self.rows l.self.rows;
}
