use Rattle.std.proofs.Common.{◌≡◌, List, map, refl, sym, ◌∙◌, ap, subst}
use Rattle.std.specs.Prelude.{Some}
use Rattle.std.specs.String.{string_bytes}
use Rattle.std.proofs.lemmas.Result.{err_from_is_err_and}
use Rattle.bound_num.specs.declared.Bound.{Bound}
use Rattle.script_text.specs.Scripts.{Script}
use Rattle.command_words.specs.declared.form.Form.TheVariants as form
use Rattle.command_model.specs.Reading.{Reading, Output, accepted, done}
use Rattle.command_model.specs.Plan.{checked, bound_at}
use Rattle.command_stages.specs.Stages.{Way}
use Rattle.command_stages.proofs.Ways.{start, operand_named, stopped_at, stopped_coming, commanded_line, commanded_stop}
use Rattle.text_commands.proofs.Checks.{script_read, fresh_owes}
use Rattle.text_commands.proofs.check.check.Goals as goal

pub returns-in_err-script : goal.returns-in_err-script
returns-in_err-script g c =
    let words = map string_bytes c.args.words.now in
    let took = c.in_err-script.ensures in
    let p = err_from_is_err_and c.from_residual.result c.from_residual.ensures.1 in
    rw (p.1, p.2) (commanded_stop c.in_err-script.field-0.0 took.keeps
    (stopped_at (start form.Check words (g.S.Store.state c.args.store.now) c.requires.form) took.keeps took.err (operand_named form.Check words 1 c.requires.form refl)))

-- the bound of a script's output is printed
abbrev printed : Script → List Bound → Output
printed script = λ bounds. accepted (bound_at bounds script.output)

pub returns-in_err-bounds : goal.returns-in_err-bounds
returns-in_err-bounds g c =
    let words = map string_bytes c.args.words.now in
    let script = c.in_ok-script.script in
    let took = c.in_ok-script.ensures in
    let way = (script_read script (start form.Check words (g.S.Store.state c.args.store.now) c.requires.form) took).0 in
    let status = c.in_err-bounds.field-0.0 in
    let p = err_from_is_err_and c.from_residual-in_err-bounds.result c.from_residual-in_err-bounds.ensures.1 in
    rw (p.1, p.2) (commanded_stop status took.keeps (stopped_coming way (c.in_err-bounds.ensures.came (printed script)).err (fresh_owes script (printed script) status)))

pub returns-in-Ok : goal.returns-in-Ok
returns-in-Ok g c =
    let words = map string_bytes c.args.words.now in
    let old = g.S.Store.state c.args.store.now in
    let now = g.S.Store.state c.read_script.new.store in
    let script = c.in_ok-script.script in
    let way = (script_read script (start form.Check words old c.requires.form) c.in_ok-script.ensures).0 in
    let came : checked script ≡ done (accepted c.bound_of_output.result) =
    (c.in_ok-bounds.ensures.came (printed script)).ok ∙ ap (λ (b : Bound). done (accepted b)) (sym c.bound_of_output.ensures) in
    commanded_line form.Check (λ line. Some line.items) c.in-Ok.line c.in-Ok.line.items c.requires.form refl (subst (λ (r : Reading). Way words r old now) came way) refl c.in-Ok.ensures
