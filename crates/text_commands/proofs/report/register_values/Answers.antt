use Rattle.std.proofs.Common.{◌≡◌, ℕ, ◌<◌, List, [], ◌∷◌, ◌++◌, length, map, take, get_or, sym, ◌∙◌, ap, subst, arith}
use Rattle.std.specs.Prelude.{Option, IfSome}
use Rattle.std.proofs.lemmas.List.{map-append}
use Rattle.std.proofs.lemmas.Option.{slice_get-get_or}
use Rattle.script_text.specs.Scripts.{Register, registers_of}
use Rattle.serde_json.specs.Data.{Data, array}
use Rattle.serde_json.specs.View.{view, items_of}
use Rattle.serde_json.proofs.Views.{view-Array}
use Rattle.command_model.specs.Report.{register_object}
use Rattle.text_commands.proofs.RegisterLists.{length-registers_of, objects, next_object, all_objects}
use Rattle.text_commands.proofs.report.register_values.Goals as goal

pub loop-register-preserved : goal.loop-register-preserved
loop-register-preserved c =
    let registers = registers_of c.args.script.now in
    let bounds = c.args.bounds.now in
    let i = c.loop-register.register in
    let count = length-registers_of c.args.script.now in
    let given = c.requires in
    let end = c.len-register-end.ensures in
    let before = c.loop-register-test.true in
    let inside : i < length registers = omega arith in
    let none : Register = record { name = []; line = 0; shape = record { parts = 0 } } in
    let at = slice_get-get_or registers i none inside in
    let value = c.in_ok-value.value in
    let value_is : view value ≡ register_object (get_or registers i none, c.get.result) =
    subst (λ (o : Option Register). IfSome o (λ listed. view value ≡ register_object (listed, c.get.result))) at c.in_ok-value.ensures in
    ap (map view) c.in_ok-push.ensures.items ∙ map-append view c.loop-register.values.items (value ∷ [])
    ∙ ap (λ (front : List Data). front ++ view value ∷ []) c.loop-register.invariant
    ∙ ap (λ (d : Data). take i (objects registers bounds) ++ d ∷ []) value_is
    ∙ sym (next_object registers bounds i (get_or registers i none) c.get.result at c.get.ensures.value)

pub returns : goal.returns
returns c =
    let registers = registers_of c.args.script.now in
    let bounds = c.args.bounds.now in
    let end = c.len-register-end.ensures in
    let over = c.loop-register-test.false in
    let kept = c.loop-register.auto.register-end in
    let all : c.loop-register.register ≡ length bounds = omega arith in
    view-Array c.loop-register.values
    ∙ ap (λ (values : List Data). array (items_of values)) (c.loop-register.invariant ∙ ap (λ (n : ℕ). take n (objects registers bounds)) all ∙ all_objects registers bounds)
