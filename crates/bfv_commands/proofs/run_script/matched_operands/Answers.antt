use Rattle.std.proofs.Common.{◌≡◌, ◌+◌, ◌<◌, ◌≤◌, List, length, map, sym, ap, subst, arith}
use Rattle.std.specs.String.{string_bytes}
use Rattle.std.proofs.lemmas.Result.{err_from_is_err_and}
use Rattle.bound_num.specs.declared.Bound.{Bound}
use Rattle.noise_check.specs.Verdicts.{verdict_of}
use Rattle.command_words.specs.declared.form.Form.TheVariants as form
use Rattle.command_model.specs.Bindings.{bound_names, ciphers_of}
use Rattle.command_model.specs.Reading.{running}
use Rattle.command_model.specs.Plan.{judged, run_of, run_on, stated_bounds}
use Rattle.command_stages.proofs.Causes.{caused_as}
use Rattle.command_stages.proofs.Ways.{not_refused, refused_by, operand_named, stopped_by}
use Rattle.run_operands.specs.BoundFiles.{AreSeen}
use Rattle.run_operands.specs.Demands.{CiphersFit}
use Rattle.run_operands.specs.declared.bound_files.Operand.{Operand}
use Rattle.bfv_commands.proofs.InputNames.{binding_operand}
use Rattle.bfv_commands.proofs.run_script.matched_operands.Goals as goal

pub returns-in_err-operands-clause-err : goal.returns-in_err-operands-clause-err
returns-in_err-operands-clause-err g c = λ begun way.
    let rest = run_on c.args.script.now (bound_names (map string_bytes c.args.words.now)) in
    let p = err_from_is_err_and c.from_residual.result c.from_residual.ensures.1 in
    rw (p.1, p.2) (c.in_err-operands.ensures.came rest begun c.requires.form way).err

pub returns-in_err-match_operands-clause-err : goal.returns-in_err-match_operands-clause-err
returns-in_err-match_operands-clause-err g c = λ begun way.
    let words = map string_bytes c.args.words.now in
    let script = c.args.script.now in
    let names = bound_names words in
    let now = g.S.Store.state c.read_operands.new.store in
    let (planned, (seen, (bound, (again, here)))) = (c.in_ok-operands.ensures.came (run_on script names) begun c.requires.form way).ok in
    let seen_here = subst (λ (found : List Operand). AreSeen found planned) (sym c.deref.ensures.value) seen in
    let status = c.in_err-match_operands.field-0.0 in
    let count : 3 + length c.deref.result.now ≡ length c.args.words.now = let all = c.in_ok-operands.ensures.count in omega (arith, ap length c.deref.ensures.value) in
    let p = err_from_is_err_and c.from_residual-in_err-match_operands.result c.from_residual-in_err-match_operands.ensures.1 in
    rw (p.1, p.2) (stopped_by status
    (refused_by (judged script (verdict_of script (stated_bounds (ciphers_of script names planned))) (λ (bound : Bound). running (run_of script names planned bound)))
    (c.in_err-match_operands.ensures.err planned seen_here) here)
    c.in_err-match_operands.ensures.none
    (caused_as (λ w is. operand_named form.Run words w c.requires.form (binding_operand c.args.words.now w (is.0, subst (λ n. w < n) count is.1))) (c.in_err-match_operands.ensures.cause now now)))

pub returns-clause-ok : goal.returns-clause-ok
returns-clause-ok g c = λ begun way.
    let words = map string_bytes c.args.words.now in
    let script = c.args.script.now in
    let (planned, (seen, (bound, (again, here)))) = (c.in_ok-operands.ensures.came (run_on script (bound_names words)) begun c.requires.form way).ok in
    let matched = c.in_ok-match_operands.ensures.ok planned (subst (λ (found : List Operand). AreSeen found planned) (sym c.deref.ensures.value) seen) in
    record { planned = planned; seen = seen; bound = bound; again = again; matched = matched; way = not_refused matched here }

pub returns-clause-ciphers : goal.returns-clause-ciphers
returns-clause-ciphers g c = subst (λ (operands : List Operand). CiphersFit c.args.script.now.set operands) c.deref.ensures.value c.in_ok-match_operands.ensures.fit
