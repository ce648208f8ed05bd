use Rattle.std.proofs.Common.{◌≡◌, ℕ, List, map, refl, sym, ◌∙◌, ap, subst}
use Rattle.std.specs.Prelude.{Some, Ok, Err}
use Rattle.std.specs.String.{string_bytes}
use Rattle.std.proofs.lemmas.Result.{err_from_is_err_and}
use Rattle.outer_io.specs.Store.{Files, StoreState}
use Rattle.bound_num.specs.declared.Bound.{Bound}
use Rattle.script_text.specs.Scripts.{Script}
use Rattle.command_words.specs.Form.{form_of}
use Rattle.command_words.specs.Line.{word_at}
use Rattle.command_words.specs.declared.form.Form.TheVariants as form
use Rattle.command_model.specs.Reading.{Reading, script_file, done, reporting}
use Rattle.command_model.specs.Report.{report_text}
use Rattle.command_model.specs.Plan.{judged_fresh}
use Rattle.command_stages.specs.Stages.{Way, Took, Wrote}
use Rattle.command_stages.proofs.Causes.{reads_nothing}
use Rattle.command_stages.proofs.Ways.{MadeFor, start, says_taken, operand_named, stopped_at, stopped_coming, commanded, commanded_stop}
use Rattle.command_stages.proofs.Writing.{wrote_file, unwritten}
use Rattle.text_commands.proofs.Checks.{script_read, fresh_owes}
use Rattle.text_commands.proofs.Reports.{item_reported}
use Rattle.text_commands.proofs.report.report.Goals as goal

pub returns-in_err-script : goal.returns-in_err-script
returns-in_err-script g c =
    let words = map string_bytes c.args.words.now in
    let took = c.in_err-script.ensures in
    let p = err_from_is_err_and c.from_residual.result c.from_residual.ensures.1 in
    rw (p.1, p.2) (commanded_stop c.in_err-script.field-0.0 took.keeps
    (stopped_at (start form.Report words (g.S.Store.state c.args.store.now) c.requires.form) took.keeps took.err (operand_named form.Report words 1 c.requires.form refl)))

pub returns-in_err-bounds : goal.returns-in_err-bounds
returns-in_err-bounds g c =
    let words = map string_bytes c.args.words.now in
    let script = c.in_ok-script.script in
    let took = c.in_ok-script.ensures in
    let way = (script_read script (start form.Report words (g.S.Store.state c.args.store.now) c.requires.form) took).0 in
    let status = c.in_err-bounds.field-0.0 in
    let p = err_from_is_err_and c.from_residual-in_err-bounds.result c.from_residual-in_err-bounds.ensures.1 in
    rw (p.1, p.2) (commanded_stop status took.keeps (stopped_coming way (c.in_err-bounds.ensures.came (reporting script)).err (fresh_owes script (reporting script) status)))

-- a command that has read a script, which is accepted with these bounds
record Ready (words : List (List ℕ)) (old mid : StoreState) (script : Script) (bounds : List Bound) : Type 0 where
  way : Way words (done (reporting script bounds)) old mid
  made : (bytes : List ℕ) → bytes ≡ report_text script bounds → MadeFor form.Report words (reporting script bounds) old bytes

ready : (words : List (List ℕ)) (old mid : StoreState) (script : Script) (bounds : List Bound) → form_of words ≡ Some form.Report
    → Took (word_at words 1) 1 script_file (λ said script. script ≡ said) old mid (Ok script)
    → judged_fresh script (reporting script) ≡ done (reporting script bounds) → Ready words old mid script bounds
ready words old mid script bounds is took came =
    let (way, held) = script_read script (start form.Report words old is) took in
    record {
      way = subst (λ (r : Reading). Way words r old mid) came way;
      made = λ bytes of_them. record {
        written = of_them;
        stands = λ files told state stands item is_made. item_reported words files state script bounds bytes item stands (says_taken (held.says files told)) came of_them is_made;
      };
    }

-- nothing is read again
abbrev Never : ℕ → Type 0
Never word = ⊥

abbrev Always : Files → Type 0
Always files = Unit {0}

pub returns-in-Ok-write_file : goal.returns-in-Ok-write_file
returns-in-Ok-write_file g c =
    let words = map string_bytes c.args.words.now in
    let mid = g.S.Store.state c.read_script.new.store in
    let script = c.in_ok-script.script in
    let bounds = c.in_ok-bounds.bounds in
    let r = ready words (g.S.Store.state c.args.store.now) mid script bounds c.requires.form c.in_ok-script.ensures (c.in_ok-bounds.ensures.came (reporting script)).ok in
    commanded form.Report c.name_of.result.now (Ok tt) c.requires.form (ap Some (sym c.name_of.ensures)) r.way
    (wrote_file c.name_of.result.now Never Always (λ bytes. bytes ≡ report_text script bounds) mid mid (g.S.Store.state c.write_file.new.store) c.deref.result.now (reads_nothing mid)
    c.in-Ok-write_file.ensures.keeps c.in-Ok-write_file.ensures.idle c.in-Ok-write_file.ensures.ok (λ files told same. c.deref.ensures.value ∙ c.in-Ok.ensures))
    (λ files told. tt) (λ word never. absurd never) r.made

pub returns : goal.returns
returns g c =
    let words = map string_bytes c.args.words.now in
    let mid = g.S.Store.state c.read_script.new.store in
    let new = g.S.Store.state c.write_file.new.store in
    let script = c.in_ok-script.script in
    let bounds = c.in_ok-bounds.bounds in
    let r = ready words (g.S.Store.state c.args.store.now) mid script bounds c.requires.form c.in_ok-script.ensures (c.in_ok-bounds.ensures.came (reporting script)).ok in
    let Is : List ℕ → Type 0 = λ bytes. bytes ≡ report_text script bounds in
    let wrote : Wrote c.name_of.result.now Never Always Is mid new (Err c.write_status.result) =
    subst (λ status. Wrote c.name_of.result.now Never Always Is mid new (Err status)) (sym c.write_status.ensures)
    (unwritten c.name_of.result.now Never Always Is mid mid new c.in-Err.fault (reads_nothing mid) c.in-Err.ensures.keeps c.in-Err.ensures.err) in
    commanded form.Report c.name_of.result.now (Err c.write_status.result) c.requires.form (ap Some (sym c.name_of.ensures)) r.way wrote (λ files told. tt) (λ word never. absurd never) r.made
