use Rattle.std.proofs.Common.{◌≡◌, ◌<◌, List, ℕ, length, map, rules, sym, ap, subst}
use Rattle.std.proofs.lemmas.List.{length-map}
use Rattle.std.specs.Prelude.{Some}
use Rattle.std.specs.Option.{option_map}
use Rattle.std.specs.String.{string_bytes}
use Rattle.command_words.specs.Form.{form_of, HasCount}
use Rattle.command_words.proofs.Words.{operand_below}
use Rattle.command_model.specs.Answers.{IsOperandOf}
use Rattle.command_model.specs.Batches.{World}
use Rattle.command_stages.specs.Stages.{Announced}
use Rattle.bfv_commands.proofs.Answering.{answered_line, answered_stopped, answered_usage, answered_written}
use Rattle.bfv_commands.proofs.answer.single.Goals as goal

pub refuse-requires-clause-word : goal.refuse-requires-clause-word
refuse-requires-clause-word g c = λ word at.
    let words = map string_bytes c.args.words.now in
    let form : form_of words ≡ Some c.in-Some.form = search rules in
    let named = subst (λ form. IsOperandOf form (length words) word) form (c.in-Err.ensures.err.caused.word word at) in
    let all = length-map c.args.words.now string_bytes in
    let count = subst (HasCount c.in-Some.form) (sym all) c.in-Some.ensures.count in
    subst (λ n. word < n) all (operand_below c.in-Some.form word (length words) count named)

pub returns-in-Ok-None : goal.returns-in-Ok-None
returns-in-Ok-None g c =
    let words = map string_bytes c.args.words.now in
    let form : form_of words ≡ Some c.in-Some.form = search rules in
    answered_written words c.in-Some.form _ _ (g.O.Sink.state c.args.out.now) _ form c.requires.idle c.in-Ok-None.ensures (ap (option_map (λ v. v.items)) c.in-Ok-None.field-0-is)

pub returns-in-Ok-Some : goal.returns-in-Ok-Some
returns-in-Ok-Some g c =
    let words = map string_bytes c.args.words.now in
    let form : form_of words ≡ Some c.in-Some.form = search rules in
    let sink = g.O.Sink.state in
    let old : World = record { store = g.S.Store.state c.args.store.now; sink = sink c.args.out.now } in
    let new : World = record { store = g.S.Store.state c.run.new.store; sink = sink c.announce.new.out } in
    let put = subst (λ (text : List ℕ). Announced old.sink new.sink text c.announce.result) c.deref.ensures.value c.announce.ensures.announced in
    answered_line words c.in-Some.form old new _ c.in-Ok-Some.line.items c.announce.result form c.requires.idle c.in-Ok-Some.ensures (ap (option_map (λ v. v.items)) c.in-Ok-Some.field-0-is) put
    c.announce.ensures.puts

pub returns-in-Err : goal.returns-in-Err
returns-in-Err g c =
    let words = map string_bytes c.args.words.now in
    let form : form_of words ≡ Some c.in-Some.form = search rules in
    let sink = g.O.Sink.state in
    let old : World = record { store = g.S.Store.state c.args.store.now; sink = sink c.args.out.now } in
    let new : World = record { store = g.S.Store.state c.run.new.store; sink = sink c.refuse.new.out } in
    answered_stopped words c.in-Some.form old new c.in-Err.status c.refuse.result form c.requires.idle c.in-Err.ensures c.refuse.ensures.status (c.refuse.ensures.printed old.store.files)
    c.refuse.ensures.puts

pub returns-in-None : goal.returns-in-None
returns-in-None g c =
    let store = g.S.Store.state c.args.store.now in
    let put = c.refuse-in-None in
    answered_usage (map string_bytes c.args.words.now) store (g.O.Sink.state c.args.out.now) (g.O.Sink.state put.new.out) put.result (search rules) c.requires.idle
    put.ensures.status (put.ensures.printed store.files) put.ensures.puts
