use Rattle.std.proofs.Common.{◌≡◌, sym, subst}
use Rattle.std.specs.Prelude.{Ok}
use Rattle.script_text.specs.declared.script.InputKind.{InputKind}
use Rattle.command_model.specs.Plan.{reading_of_kind}
use Rattle.command_stages.specs.Stages.{Way}
use Rattle.run_operands.specs.BoundReads.{OperandCame}
use Rattle.run_operands.specs.declared.bound_files.Operand.TheVariants.{Cipher, Values}
use Rattle.run_operands.proofs.BoundReading.{cipher_came, values_came}
use Rattle.run_operands.proofs.bound_files.read_of_kind.Goals as goal

pub returns-in_ok-head-in-Cipher-clause-came : goal.returns-in_ok-head-in-Cipher-clause-came
returns-in_ok-head-in-Cipher-clause-came g c = λ words rest begun named way.
    let old = g.S.Store.state c.args.store.now in
    let new = g.S.Store.state c.scan_named.new.store in
    let set = c.args.set in
    let name = c.args.name.now in
    let word = c.args.word in
    let head = c.in_ok-head-in-Cipher.head in
    subst (λ (k : InputKind). OperandCame words set k name word rest begun new (Ok (Cipher head))) (sym c.in-Cipher.is)
    (cipher_came words set name word rest begun old new head named (subst (λ (k : InputKind). Way words (reading_of_kind set k name word rest) begun old) c.in-Cipher.is way) c.in_ok-head-in-Cipher.ensures.took)

pub returns-in_ok-values-in-Plain-clause-came : goal.returns-in_ok-values-in-Plain-clause-came
returns-in_ok-values-in-Plain-clause-came g c = λ words rest begun named way.
    let old = g.S.Store.state c.args.store.now in
    let new = g.S.Store.state c.read_values_named.new.store in
    let set = c.args.set in
    let name = c.args.name.now in
    let word = c.args.word in
    let values = c.in_ok-values-in-Plain.values in
    subst (λ (k : InputKind). OperandCame words set k name word rest begun new (Ok (Values values))) (sym c.in-Plain.is)
    (values_came words set name word rest begun old new values (subst (λ (k : InputKind). Way words (reading_of_kind set k name word rest) begun old) c.in-Plain.is way) c.in_ok-values-in-Plain.ensures.took)
