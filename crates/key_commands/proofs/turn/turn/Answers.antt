use Rattle.std.proofs.Common.{◌≡◌, ℕ, List, inl, inr, map, refl, sym, ◌∙◌, ap, subst}
use Rattle.std.specs.Prelude.{Some, IsSome, option_and_then}
use Rattle.std.specs.String.{string_bytes}
use Rattle.std.proofs.lemmas.Result.{err_from_is_err_and}
use Rattle.outer_io.specs.Store.{StoreState}
use Rattle.set_table.specs.declared.KeyKind.TheVariants.{Turn}
use Rattle.set_table.specs.Sets.{degree_of, special_of}
use Rattle.file_model.specs.DrawnFiles.{drawn_switch_file}
use Rattle.file_model.specs.FileText.{FileContent, IsFile}
use Rattle.file_model.specs.declared.head.Wanted.TheVariants as wanted
use Rattle.command_words.specs.Form.{form_of}
use Rattle.command_words.specs.Line.{word_at}
use Rattle.command_words.specs.Step.{step_named}
use Rattle.command_words.specs.declared.form.Form.TheVariants as form
use Rattle.command_words.specs.declared.step.Step.{Step}
use Rattle.command_words.proofs.Words.{words_say}
use Rattle.command_model.specs.Plan.{element_of, seed_word, too_far, turned_by, without_special}
use Rattle.command_model.specs.Plain.{switched}
use Rattle.command_model.specs.Reading.{Reading, own_file, seed_file, read_word, done, unless, file_with}
use Rattle.command_stages.specs.Stages.{Way}
use Rattle.command_stages.proofs.Ways.{start, with_named, taken_on, not_refused, refused_by, operand_named, stopped_at, stopped_coming, commanded, commanded_stop, reads_then}
use Rattle.key_commands.proofs.SwitchWays.{scanned, special_owes, step_owes, key_made}
use Rattle.key_commands.proofs.turn.turn.Goals as goal

pub unreachable-requires : goal.unreachable-requires
unreachable-requires g c =
    let words = map string_bytes c.args.words.now in
    let none = sym c.in_default.is ∙ c.step_named.ensures.named ∙ ap step_named c.name_of.ensures in
    let named = words_say words form.Turn c.requires.form in
    let some = named.1 in
    cc

-- what is left to read once the set has a special modulus, and once the step is within a half
abbrev by_seed : List (List ℕ) → Step → FileContent → Reading
by_seed words step secret = read_word words 3 seed_file (λ seed. done (file_with (drawn_switch_file Turn (element_of step (degree_of secret.set)) secret (seed_word seed))))

abbrev by_step : List (List ℕ) → Step → FileContent → Reading
by_step words step secret = unless (too_far step (degree_of secret.set)) (by_seed words step secret)

-- no file was read yet
begun : (words : List (List ℕ)) (state : StoreState) (step : Step) → form_of words ≡ Some form.Turn → step_named (word_at words 2) ≡ Some step
    → Way words (read_word words 1 (own_file wanted.Secret) (turned_by words step)) state state
begun words state step is named = with_named (λ step. read_word words 1 (own_file wanted.Secret) (turned_by words step)) named (start form.Turn words state is)

pub returns-in_err-secret : goal.returns-in_err-secret
returns-in_err-secret g c =
    let words = map string_bytes c.args.words.now in
    let named = sym (ap step_named c.name_of.ensures) ∙ sym c.step_named.ensures.named ∙ c.in-Some.is in
    let took = c.in_err-secret.ensures.took in
    let p = err_from_is_err_and c.from_residual.result c.from_residual.ensures.1 in
    rw (p.1, p.2) (commanded_stop c.in_err-secret.field-0.0 took.keeps
    (stopped_at (begun words (g.S.Store.state c.args.store.now) c.in-Some.step c.requires.form named) took.keeps took.err (operand_named form.Turn words 1 c.requires.form (inl refl))))

pub returns-in_err-need_special : goal.returns-in_err-need_special
returns-in_err-need_special g c =
    let words = map string_bytes c.args.words.now in
    let step = c.in-Some.step in
    let named = sym (ap step_named c.name_of.ensures) ∙ sym c.step_named.ensures.named ∙ c.in-Some.is in
    let s = scanned {next = turned_by words step} form.Turn c.requires.form (inl refl) (begun words (g.S.Store.state c.args.store.now) step c.requires.form named) c.in_ok-secret.ensures.took in
    let status = c.in_err-need_special.field-0.0 in
    let refusal = ap without_special s.set ∙ c.in_err-need_special.ensures.err in
    let p = err_from_is_err_and c.from_residual-in_err-need_special.result c.from_residual-in_err-need_special.ensures.1 in
    rw (p.1, p.2) (commanded_stop status s.keeps (stopped_coming (refused_by (by_step words step s.secret) refusal s.way) (inr refl) (λ _. special_owes s.secret.set status refusal)))

pub returns-in_err-element : goal.returns-in_err-element
returns-in_err-element g c =
    let words = map string_bytes c.args.words.now in
    let step = c.in-Some.step in
    let named = sym (ap step_named c.name_of.ensures) ∙ sym c.step_named.ensures.named ∙ c.in-Some.is in
    let s = scanned {next = turned_by words step} form.Turn c.requires.form (inl refl) (begun words (g.S.Store.state c.args.store.now) step c.requires.form named) c.in_ok-secret.ensures.took in
    let way = not_refused (ap without_special s.set ∙ c.in_ok-need_special.ensures.ok) s.way in
    let status = c.in_err-element.field-0.0 in
    let refusal = ap (λ set. too_far step (degree_of set)) s.set ∙ c.in_err-element.ensures.far in
    let p = err_from_is_err_and c.from_residual-in_err-element.result c.from_residual-in_err-element.ensures.1 in
    rw (p.1, p.2) (commanded_stop status s.keeps (stopped_coming (refused_by (by_seed words step s.secret) refusal way) (inr refl) (λ _. step_owes step (degree_of s.secret.set) status refusal)))

pub returns-in_err-seed : goal.returns-in_err-seed
returns-in_err-seed g c =
    let words = map string_bytes c.args.words.now in
    let step = c.in-Some.step in
    let named = sym (ap step_named c.name_of.ensures) ∙ sym c.step_named.ensures.named ∙ c.in-Some.is in
    let s = scanned {next = turned_by words step} form.Turn c.requires.form (inl refl) (begun words (g.S.Store.state c.args.store.now) step c.requires.form named) c.in_ok-secret.ensures.took in
    let way = not_refused (ap (λ set. too_far step (degree_of set)) s.set ∙ c.in_ok-element.ensures.near) (not_refused (ap without_special s.set ∙ c.in_ok-need_special.ensures.ok) s.way) in
    let took = c.in_err-seed.ensures in
    let p = err_from_is_err_and c.from_residual-in_err-seed.result c.from_residual-in_err-seed.ensures.1 in
    rw (p.1, p.2) (commanded_stop c.in_err-seed.field-0.0 (reads_then s.keeps took.keeps)
    (stopped_at way took.keeps took.err (operand_named form.Turn words 3 c.requires.form (inr refl))))

pub returns : goal.returns
returns g c =
    let words = map string_bytes c.args.words.now in
    let old = g.S.Store.state c.args.store.now in
    let step = c.in-Some.step in
    let named = sym (ap step_named c.name_of.ensures) ∙ sym c.step_named.ensures.named ∙ c.in-Some.is in
    let s = scanned {next = turned_by words step} form.Turn c.requires.form (inl refl) (begun words old step c.requires.form named) c.in_ok-secret.ensures.took in
    let took = c.in_ok-seed.ensures in
    let (seed, (same, held)) = took.ok in
    let special = not_refused (ap without_special s.set ∙ c.in_ok-need_special.ensures.ok) s.way in
    let way = taken_on seed (not_refused (ap (λ set. too_far step (degree_of set)) s.set ∙ c.in_ok-element.ensures.near) special) took.keeps held in
    let element : c.in_ok-element.element ≡ element_of step (degree_of s.secret.set) = c.in_ok-element.ensures.value ∙ ap (λ set. element_of step (degree_of set)) (sym s.set) in
    commanded form.Turn c.name_of-2.result.now c.write_drawn.result c.requires.form (ap Some (sym c.name_of-2.ensures)) way (c.write_drawn.ensures s.secret)
    (λ files told. s.same files (sym took.keeps.files ∙ told)) s.again
    (λ bytes is. key_made form.Turn words old Turn (element_of step) s.secret seed bytes s.taken (subst (λ set. IsSome (special_of set)) (sym s.set) c.in_ok-need_special.ensures.some)
    (λ state item made. ap (option_and_then (λ step. switched Turn (element_of step) (state (word_at words 1)))) (sym named) ∙ made)
    (subst (λ drawn. IsFile bytes (drawn_switch_file Turn (element_of step (degree_of s.secret.set)) s.secret (seed_word drawn))) same
    (subst (λ element. IsFile bytes (drawn_switch_file Turn element s.secret (seed_word c.in_ok-seed.seed))) element is)))
