use Rattle.std.proofs.Common.{◌≡◌, sym, ◌∙◌, ap, subst}
use Rattle.std.specs.Prelude.{IfOk}
use Rattle.set_table.specs.Sets.{data_of}
use Rattle.bound_num.specs.declared.Bound.{Bound}
use Rattle.bfv_model.specs.Limit.{limit}
use Rattle.noise_check.specs.Numbers.{bound_of}
use Rattle.noise_check.proofs.BoundLists.{bound_of-value}
use Rattle.serde_json.specs.View.{view}
use Rattle.command_model.specs.Report.{limit_object}
use Rattle.text_commands.proofs.report.limit_value.Goals as goal

pub returns : goal.returns
returns c =
    let most = c.limit.result in
    let is : most ≡ bound_of (limit (data_of c.args.set)) = sym (bound_of-value most c.limit.ensures.canonical) ∙ ap bound_of c.limit.ensures.value in
    subst (λ (b : Bound). IfOk c.limit_object.result (λ value. view value ≡ limit_object b)) is c.limit_object.ensures
