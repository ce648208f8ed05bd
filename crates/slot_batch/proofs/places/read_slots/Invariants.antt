use Rattle.std.proofs.Common.{◌≡◌, ℕ, suc, ◌+◌, ◌*◌, ◌/◌, ◌%◌, ◌^◌, ◌<◌, ◌≤◌, length, slice_index}
use Rattle.bfv_model.specs.Slots.{slot_place, slot_power}
use Rattle.slot_batch.proofs.Rows.{IsWritten}
use Rattle.slot_batch.proofs.places.read_slots.Given as goal

abbrev pub invariant-loop-i : goal.invariant-loop-i
invariant-loop-i g l = record {
  len : length l.values ≡ g.row.N;
  in_word : l.power ≤ 2 * g.row.N + 1;
  power : (log : ℕ) → g.row.N ≡ 2 ^ suc (suc log) → l.i < g.row.N / 2 → l.power ≡ slot_power g.row.N l.i % (2 * g.row.N);
  written : (log : ℕ) → g.row.N ≡ 2 ^ suc (suc log)
      → IsWritten (λ i. i) (λ i. slice_index l.entries (slot_place (suc (suc log)) i)) (g.row.N / 2) l.i l.values;
}
