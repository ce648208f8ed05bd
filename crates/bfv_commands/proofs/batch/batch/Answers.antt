use Rattle.std.proofs.Common.{◌≡◌, map, refl, sym, subst, ◌∙◌}
use Rattle.std.specs.Prelude.{Ok}
use Rattle.std.specs.String.{string_bytes}
use Rattle.batch_text.specs.Reading.{texts}
use Rattle.command_words.specs.declared.form.Form.TheVariants as form
use Rattle.command_model.specs.Reading.{commands}
use Rattle.command_model.specs.Plan.{plan}
use Rattle.command_model.specs.Batches.{World}
use Rattle.command_stages.proofs.Ways.{start, taken_on}
use Rattle.bfv_commands.proofs.BatchAnswers.{taken, untaken}
use Rattle.bfv_commands.proofs.batch.batch.Goals as goal

pub returns-in-Ok : goal.returns-in-Ok
returns-in-Ok g c =
    let words = map string_bytes c.args.words.now in
    let store = g.S.Store.state in
    let sink = g.O.Sink.state in
    let old : World = record { store = store c.args.store.now; sink = sink c.args.out.now } in
    let mid : World = record { store = store c.read_batch.new.store; sink = sink c.args.out.now } in
    let new : World = record { store = store c.run_all.new.store; sink = sink c.run_all.new.out } in
    let took = c.in-Ok.ensures.took in
    let (said, (same, held)) = took.ok in
    let way = taken_on said (start form.Batch words old.store c.requires.form) took.keeps held in
    taken words old mid new (texts c.in-Ok.commands.items) c.run_all.result record {
      form = c.requires.form;
      reads = took.keeps;
      silent = refl;
      planned = λ files was. subst (λ listed. plan words files ≡ Ok (commands listed)) (sym same) (way.outcome_is files was);
      order = rw c.deref.ensures.value at c.run_all.ensures.order;
      idle = c.run_all.ensures.idle;
    }

pub returns-in-Err : goal.returns-in-Err
returns-in-Err g c =
    let store = g.S.Store.state in
    let sink = g.O.Sink.state in
    let old : World = record { store = store c.args.store.now; sink = sink c.args.out.now } in
    let new : World = record { store = store c.read_batch.new.store; sink = sink c.refuse.new.out } in
    let took = c.in-Err.ensures.took in
    untaken (map string_bytes c.args.words.now) old new c.in-Err.status c.refuse.result c.requires.form c.requires.idle took.keeps took.err c.refuse.ensures.status
    (c.refuse.ensures.printed old.store.files) c.refuse.ensures.puts
