use Rattle.std.proofs.Common.{arith}
use Rattle.outer_io.proofs.mem_store.MemStore.put_file.Goals as goal
use Rattle.outer_io.proofs.Places.{room}

pub invariant_of-self-2 : goal.invariant_of-self-2
invariant_of-self-2 c = room _ _ (omega (arith, c.set_file.ensures.grown, c.set_file.ensures.capacity, c.in_ok-try_reserve.ensures.ok, c.in_ok-try_reserve.ensures.len))
