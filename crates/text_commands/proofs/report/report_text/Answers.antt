use Rattle.std.proofs.Common.{◌≡◌, ℕ, List, [], ◌∷◌, ◌++◌, ◌∙◌, ap}
use Rattle.std.specs.Prelude.{false}
use Rattle.serde_json.specs.View.{view}
use Rattle.serde_json.specs.Written.{has_float, compact_text}
use Rattle.command_model.specs.Report.{report_of}
use Rattle.text_commands.proofs.RegisterLists.{report_no_float}
use Rattle.text_commands.proofs.report.report_text.Goals as goal

pub returns : goal.returns
returns c =
    let value = c.in_ok-report_value.field-0 in
    let is : view value ≡ report_of c.args.script.now c.args.bounds.now = c.in_ok-report_value.ensures in
    let plain : has_float (view value) ≡ false = ap has_float is ∙ report_no_float c.args.script.now c.args.bounds.now in
    c.in_ok-push.ensures.items ∙ ap (λ (text : List ℕ). text ++ 10 ∷ []) (c.in_ok-text.ensures.text plain ∙ ap compact_text is)
