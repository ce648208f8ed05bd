use Rattle.std.proofs.Common.{◌≡◌, ℕ, inl, List, length, map, refl, sym, subst}
use Rattle.std.specs.Prelude.{Some, Ok}
use Rattle.std.specs.Option.{ForSome}
use Rattle.std.specs.String.{string_bytes}
use Rattle.std.proofs.lemmas.Result.{err_from_is_err_and}
use Rattle.outer_io.specs.Store.{StoreState}
use Rattle.script_text.specs.Scripts.{Script}
use Rattle.command_words.specs.Form.{form_of}
use Rattle.command_words.specs.Line.{word_at}
use Rattle.command_words.specs.declared.form.Form.TheVariants as form
use Rattle.command_model.specs.Bindings.{bindings_of, bound_names}
use Rattle.command_model.specs.Reading.{script_file, unless}
use Rattle.command_model.specs.Plan.{badly_bound, needing_key, reading_of_bindings, run_on}
use Rattle.command_model.specs.Answers.{IsOperandOf}
use Rattle.command_stages.specs.Stages.{Says, Took, Way}
use Rattle.command_stages.proofs.Causes.{caused_as, caused_by_nothing}
use Rattle.command_stages.proofs.Ways.{start, taken_on, not_refused, refused_by, operand_named, stopped_at, stopped_by}
use Rattle.bfv_commands.proofs.InputNames.{binding_operand}
use Rattle.bfv_commands.proofs.run_script.bound_script.Goals as goal

-- the script was read
record ScriptRead (words : List (List ℕ)) (old now : StoreState) (script : Script) : Type 0 where
  says : ForSome old.files (λ files. Says files (word_at words 1) 1 script_file script)
  way : Way words (unless (needing_key script) (unless (badly_bound script words) (reading_of_bindings script 3 (bindings_of words) (run_on script (bound_names words))))) old now

script_read : (words : List (List ℕ)) (old now : StoreState) (script : Script) → form_of words ≡ Some form.Run
    → Took (word_at words 1) 1 script_file (λ said script. script ≡ said) old now (Ok script) → ScriptRead words old now script
script_read words old now script is took =
    let (said, (same, held)) = took.ok in
    subst (ScriptRead words old now) (sym same) (record { says = held.says; way = taken_on said (start form.Run words old is) took.keeps held })

pub returns-in_err-script-clause-came : goal.returns-in_err-script-clause-came
returns-in_err-script-clause-came g c =
    let words = map string_bytes c.args.words.now in
    let took = c.in_err-script.ensures in
    let p = err_from_is_err_and c.from_residual.result c.from_residual.ensures.1 in
    rw (p.1, p.2) record {
      ok = tt;
      err = stopped_at (start form.Run words (g.S.Store.state c.args.store.now) c.requires.form) took.keeps took.err (operand_named form.Run words 1 c.requires.form (inl refl));
    }

pub returns-in_err-match_steps-clause-came : goal.returns-in_err-match_steps-clause-came
returns-in_err-match_steps-clause-came g c =
    let words = map string_bytes c.args.words.now in
    let script = c.in_ok-script.script in
    let now = g.S.Store.state c.read_script.new.store in
    let begun = script_read words (g.S.Store.state c.args.store.now) now script c.requires.form c.in_ok-script.ensures in
    let status = c.in_err-match_steps.field-0.0 in
    let owes = c.in_err-match_steps.ensures.owes in
    let p = err_from_is_err_and c.from_residual-in_err-match_steps.result c.from_residual-in_err-match_steps.ensures.1 in
    rw (p.1, p.2) record {
      ok = tt;
      err = stopped_by status
          (refused_by (unless (badly_bound script words) (reading_of_bindings script 3 (bindings_of words) (run_on script (bound_names words)))) c.in_err-match_steps.ensures.err begun.way)
          owes.none (caused_by_nothing (IsOperandOf (form_of words) (length words)) now now status owes);
    }

pub returns-in_err-match_bindings-clause-came : goal.returns-in_err-match_bindings-clause-came
returns-in_err-match_bindings-clause-came g c =
    let words = map string_bytes c.args.words.now in
    let script = c.in_ok-script.script in
    let now = g.S.Store.state c.read_script.new.store in
    let begun = script_read words (g.S.Store.state c.args.store.now) now script c.requires.form c.in_ok-script.ensures in
    let status = c.in_err-match_bindings.field-0.0 in
    let p = err_from_is_err_and c.from_residual-in_err-match_bindings.result c.from_residual-in_err-match_bindings.ensures.1 in
    rw (p.1, p.2) record {
      ok = tt;
      err = stopped_by status
          (refused_by (reading_of_bindings script 3 (bindings_of words) (run_on script (bound_names words))) c.in_err-match_bindings.ensures.err (not_refused c.in_ok-match_steps.ensures.ok begun.way))
          c.in_err-match_bindings.ensures.none
          (caused_as (λ w is. operand_named form.Run words w c.requires.form (binding_operand c.args.words.now w is)) (c.in_err-match_bindings.ensures.cause now now));
    }

pub returns-clause-came : goal.returns-clause-came
returns-clause-came g c =
    let words = map string_bytes c.args.words.now in
    let script = c.in_ok-script.script in
    let begun = script_read words (g.S.Store.state c.args.store.now) (g.S.Store.state c.read_script.new.store) script c.requires.form c.in_ok-script.ensures in
    record { ok = (begun.says, not_refused c.in_ok-match_bindings.ensures.ok (not_refused c.in_ok-match_steps.ensures.ok begun.way)); err = tt }
