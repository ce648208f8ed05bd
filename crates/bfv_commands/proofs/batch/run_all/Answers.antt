use Rattle.std.proofs.Common.{◌≡◌, ◌≢◌, ℕ, length, map, subst, arith, rules}
use Rattle.std.specs.String.{string_bytes}
use Rattle.std.proofs.lemmas.List.{length-map}
use Rattle.batch_text.specs.Reading.{texts}
use Rattle.command_words.specs.declared.status.Status.TheVariants.{Done}
use Rattle.command_model.specs.Batches.{World, Answered, Chain}
use Rattle.bfv_commands.specs.Batching.{all_done, stopped}
use Rattle.bfv_commands.proofs.Chains.{chain_grows, words_at}
use Rattle.bfv_commands.proofs.batch.run_all.Goals as goal

pub single-status-requires-clause-one : goal.single-status-requires-clause-one
single-status-requires-clause-one g c =
    rw c.deref.ensures.value
    (c.requires.single c.commands.words-index (map string_bytes c.words-item.result.items)
    (words_at c.args.commands.now c.commands.words-index c.words-item.result c.commands-test.true c.words-item.is))

pub returns-then-ne-clause-order : goal.returns-then-ne-clause-order
returns-then-ne-clause-order g c =
    let at = words_at c.args.commands.now c.commands.words-index c.words-item.result c.commands-test.true c.words-item.is in
    let other : c.single-status.result ≢ Done = search rules in
    stopped c.commands.words-index _ _ at c.commands.invariant.chain other (rw c.deref.ensures.value at c.single-status.ensures)

pub commands-preserved : goal.commands-preserved
commands-preserved g c =
    let store = g.S.Store.state in
    let sink = g.O.Sink.state in
    let words = map string_bytes c.words-item.result.items in
    let old : World = record { store = store c.args.store.now; sink = sink c.args.out.now } in
    let mid : World = record { store = store c.commands.store; sink = sink c.commands.out } in
    let new : World = record { store = store c.single-status.new.store; sink = sink c.single-status.new.out } in
    let at = words_at c.args.commands.now c.commands.words-index c.words-item.result c.commands-test.true c.words-item.is in
    let is_done : c.single-status.result ≡ Done = search rules in
    let step : Answered words mid new c.single-status.result = rw c.deref.ensures.value at c.single-status.ensures in
    record {
      chain = chain_grows (texts c.args.commands.now) old mid new c.commands.words-index words at c.commands.invariant.chain (subst (Answered words mid new) is_done step);
      idle = step.idle;
    }

pub returns-clause-order : goal.returns-clause-order
returns-clause-order g c =
    let store = g.S.Store.state in
    let sink = g.O.Sink.state in
    let old : World = record { store = store c.args.store.now; sink = sink c.args.out.now } in
    let new : World = record { store = store c.commands.store; sink = sink c.commands.out } in
    let all : c.commands.words-index ≡ length (texts c.args.commands.now) = simp length-map (omega arith) in
    all_done (subst (λ (count : ℕ). Chain (texts c.args.commands.now) old count new) all c.commands.invariant.chain)
