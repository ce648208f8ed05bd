use Rattle.std.proofs.Common.{◌≡◌, length}
use Rattle.script_run.specs.Premises.{no_digits}
use Rattle.script_run.proofs.Running.{Ran}
use Rattle.script_run.proofs.run.run.Given as goal

abbrev pub invariant-loop-i : goal.invariant-loop-i
invariant-loop-i g l = record {
  ran : Ran g.row.N l.ctx no_digits l.script l.plan l.plains l.fn.ciphers l.i l.ciphers;
  scratch_rows : length l.scratch ≡ length l.fn.scratch;
}
