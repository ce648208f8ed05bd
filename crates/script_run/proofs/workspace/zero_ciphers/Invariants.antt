use Rattle.std.proofs.Common.{◌≡◌, ℕ, ◌<◌, length}
use Rattle.bfv_params.specs.Values.{zero_cipher}
use Rattle.script_run.specs.Places.{cipher_at}
use Rattle.script_run.proofs.workspace.zero_ciphers.Given as goal

abbrev pub invariant-loop : goal.invariant-loop
invariant-loop g l = record {
  count : length l.ciphers.items ≡ l.counter;
  each : (p : ℕ) → p < l.counter → cipher_at l.ciphers.items p ≡ zero_cipher g.row.N l.ctx.set l.ctx.level;
}
