use Rattle.std.proofs.Common.{◌≡◌, ℕ, [], ◌<◌, length, slice_index}
use Rattle.std.specs.Prelude.{slice_get, slice_index_or}
use Rattle.bfv_commands.specs.Filled.{values_listed}
use Rattle.bfv_commands.proofs.execution.fill_plains.Given as goal

abbrev pub invariant-loop-p : goal.invariant-loop-p
invariant-loop-p g l = record {
  set : l.space.set ≡ l.fn.space.set;
  inputs : l.space.inputs ≡ l.fn.space.inputs;
  plan : l.space.plan ≡ l.fn.space.plan;
  places : l.space.places ≡ l.fn.space.places;
  count : length l.space.plains ≡ length l.fn.space.plains;
  filled : (q : ℕ) → q < l.p → slice_index_or l.space.plains q [] ≡ values_listed (slice_get l.operands (slice_index l.places q));
}
