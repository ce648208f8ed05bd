use Rattle.std.proofs.Common.{refl}
use Rattle.outer_io.proofs.mem_sink.MemSinkSink.put.Goals as goal

pub returns-then-fails_now-clause-noted : goal.returns-then-fails_now-clause-noted
returns-then-fails_now-clause-noted c =
    let has = c.fails_now.ensures.fails.0 c.if-fails_now.true in
    ((λ _. rw (← c.self.view_is) has), λ _. refl)
