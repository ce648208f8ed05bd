use Rattle.std.proofs.Common.{◌<◌, length, map, sym, ◌∙◌, arith}
use Rattle.std.specs.String.{string_bytes}
use Rattle.std.proofs.lemmas.List.{length-map}
use Rattle.run_operands.proofs.BoundWords.{fault_found, no_fault_found}
use Rattle.run_operands.proofs.bindings.first_binding_fault.Goals as goal

pub returns-then-is_some : goal.returns-then-is_some
returns-then-is_some c =
    let words = map string_bytes c.args.words.now in
    let within : c.loop-word.word < length words = omega (arith, length-map c.args.words.now string_bytes) in
    fault_found c.args.script.now words c.loop-word.word c.binding_fault-fault.result (omega arith) within c.loop-word.invariant c.binding_fault-fault.ensures
    (sym c.is_some.ensures ∙ c.if-is_some.true)

pub loop-word-preserved : goal.loop-word-preserved
loop-word-preserved c =
    let words = map string_bytes c.args.words.now in
    let within : c.loop-word.word < length words = omega (arith, length-map c.args.words.now string_bytes) in
    no_fault_found c.args.script.now words c.loop-word.word c.binding_fault-fault.result (omega arith) within c.loop-word.invariant c.binding_fault-fault.ensures
    (sym c.is_some.ensures ∙ c.if-is_some.false)
