use Rattle.std.proofs.Common.{◌≤◌, length}
use Rattle.bfv_params.specs.Contexts.{scratch_rows_in}
use Rattle.bfv_tensor.proofs.tests.check_cases.Given as goal

abbrev pub invariant-cases : goal.invariant-cases
invariant-cases g l = scratch_rows_in l.ctx ≤ length l.scratch
