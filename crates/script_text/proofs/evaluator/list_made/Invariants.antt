use Rattle.std.proofs.Common.{◌≡◌, ◌<◌, ℕ, length, slice_index}
use Rattle.script_text.specs.Evaluating.{slot_made}
use Rattle.script_text.proofs.evaluator.list_made.Given as goal

abbrev pub invariant-loop-i : goal.invariant-loop-i
invariant-loop-i l =
    (length l.values.items ≡ l.i)
    × ((k : ℕ) → k < l.i → slice_index l.values.items k ≡ slot_made l.half l.t l.plains l.registers l.op k)
    × ((k : ℕ) → k < l.i → slice_index l.values.items k < l.t)
