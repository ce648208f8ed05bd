use Rattle.std.proofs.Common.{◌≡◌, map, sym, ap, ◌∙◌}
use Rattle.std.specs.String.{string_bytes}
use Rattle.command_words.specs.Form.{binding_name, binding_file}
use Rattle.command_words.specs.Line.{word_at}
use Rattle.command_model.specs.Bindings.{kind_at, input_named}
use Rattle.run_operands.proofs.BoundReading.{came_as}
use Rattle.run_operands.proofs.bound_files.read_operand.Goals as goal

pub returns-clause-came : goal.returns-clause-came
returns-clause-came g c = λ rest begun named.
    let words = map string_bytes c.args.words.now in
    let script = c.args.script.now in
    let word = c.args.word in
    let binding = word_at words word in
    let kind : c.kind_named-kind.result ≡ kind_at script (input_named script (binding_name binding)) =
    c.kind_named-kind.ensures ∙ ap (λ n. kind_at script (input_named script n)) c.name_bound.ensures in
    came_as words word rest begun (g.S.Store.state c.args.store.now) (g.S.Store.state c.read_of_kind.new.store) c.read_of_kind.result script.set c.set.result
    (kind_at script (input_named script (binding_name binding))) c.kind_named-kind.result (binding_file binding) c.file_bound.result.now
    (sym c.set.ensures.value) (sym kind) (sym c.file_bound.ensures) (c.read_of_kind.ensures.came words rest begun named)
