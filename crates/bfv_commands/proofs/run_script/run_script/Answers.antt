use Rattle.std.proofs.Common.{◌<◌, ◌≤◌, List, length, map, sym, subst, ◌∙◌}
use Rattle.std.specs.String.{string_bytes}
use Rattle.std.proofs.lemmas.List.{length-map}
use Rattle.std.proofs.lemmas.Result.{err_from_is_err_and}
use Rattle.command_stages.proofs.Ways.{commanded_stop, reads_then}
use Rattle.run_operands.specs.Ordered.{CanRunOn}
use Rattle.run_operands.specs.declared.bound_files.Operand.{Operand}
use Rattle.bfv_commands.specs.RunStages.{AreMatched}
use Rattle.bfv_commands.proofs.run_script.run_script.Goals as goal

pub returns-in_err-script : goal.returns-in_err-script
returns-in_err-script g c =
    let p = err_from_is_err_and c.from_residual.result c.from_residual.ensures.1 in
    rw (p.1, p.2) (commanded_stop c.in_err-script.field-0.0 c.in_err-script.ensures.keeps c.in_err-script.ensures.came.err)

pub returns-in_err-operands : goal.returns-in_err-operands
returns-in_err-operands g c =
    let (says, way) = c.in_ok-script.ensures.came.ok in
    let keeps = reads_then c.in_ok-script.ensures.keeps c.in_err-operands.ensures.keeps in
    let p = err_from_is_err_and c.from_residual-in_err-operands.result c.from_residual-in_err-operands.ensures.1 in
    rw (p.1, p.2) (commanded_stop c.in_err-operands.field-0.0 keeps (c.in_err-operands.ensures.err (g.S.Store.state c.args.store.now) way))

pub write_run-requires-clause-matched : goal.write_run-requires-clause-matched
write_run-requires-clause-matched g c =
    subst (CanRunOn c.in_ok-script.script (map string_bytes c.args.words.now)) (sym c.deref.ensures.value) record {
      well_bound = c.in_ok-script.ensures.bound;
      count = c.in_ok-operands.ensures.count ∙ sym (length-map c.args.words.now string_bytes);
      inputs = c.in_ok-operands.ensures.inputs;
      ciphers = c.in_ok-operands.ensures.ciphers;
    }

pub returns : goal.returns
returns g c =
    let words = map string_bytes c.args.words.now in
    let begun = g.S.Store.state c.args.store.now in
    let (says, way) = c.in_ok-script.ensures.came.ok in
    let matched = c.in_ok-operands.ensures.ok begun way in
    c.write_run.ensures begun says
    (subst (λ (operands : List Operand). AreMatched c.in_ok-script.script words begun (g.S.Store.state c.matched_operands.new.store) operands) (sym c.deref.ensures.value) matched)
