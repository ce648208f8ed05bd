use Rattle.std.proofs.Common.{◌≡◌, ◌≢◌, ◌<◌, ℕ}
use Rattle.std.specs.Prelude.{Some, slice_get}
use Rattle.std.specs.String.{string_bytes}
use Rattle.outer_io.specs.declared.mem_store.held.HeldFile.{HeldFile}
use Rattle.outer_io.proofs.mem_store.held.place_of.Given as goal

abbrev pub invariant-loop-i : goal.invariant-loop-i
invariant-loop-i l = (j : ℕ) (f : HeldFile) → j < l.i → slice_get l.files j ≡ Some f → string_bytes f.name ≢ l.name
