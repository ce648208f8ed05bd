use Rattle.std.proofs.Common.{◌≡◌, ℕ, ◌<◌, length, slice_index}
use Rattle.script_run.proofs.planning.own_places.Given as goal

abbrev pub invariant-loop-register : goal.invariant-loop-register
invariant-loop-register l = record {
  count : length l.places.items ≡ l.register;
  each : (r : ℕ) → r < l.register → slice_index l.places.items r ≡ r;
}
