use Rattle.batch_text.specs.Reading.{texts}
use Rattle.command_model.specs.Batches.{World}
use Rattle.bfv_commands.specs.Batching.{SoFar}
use Rattle.bfv_commands.proofs.batch.run_all.Given as goal

abbrev pub invariant-commands : goal.invariant-commands
invariant-commands g l =
    let store = g.S.Store.state in
    let sink = g.O.Sink.state in
    let start : World = record { store = store l.fn.store; sink = sink l.fn.out } in
    let now : World = record { store = store l.store; sink = sink l.out } in
    SoFar (texts l.commands) start l.words-index now
