use Rattle.std.proofs.Common.{◌≡◌, inl, inr, map, refl, sym, ◌∙◌, ap, subst}
use Rattle.std.specs.String.{string_bytes}
use Rattle.std.proofs.lemmas.Result.{err_from_is_err_and}
use Rattle.file_model.specs.FileText.{file_text}
use Rattle.file_model.specs.DrawnFiles.{drawn_public_file}
use Rattle.command_words.specs.Line.{word_at}
use Rattle.command_words.specs.declared.form.Form.TheVariants as form
use Rattle.command_model.specs.Plan.{seed_word}
use Rattle.command_stages.specs.Stages.{MayReread}
use Rattle.command_stages.proofs.Ways.{start, taken_on, says_taken, has_content, operand_named, stopped_at, reread, commanded, commanded_stop, reads_then}
use Rattle.key_commands.proofs.MadeItems.{item_published}
use Rattle.key_commands.proofs.public.public.Goals as goal

pub returns-in_err-secret : goal.returns-in_err-secret
returns-in_err-secret g c =
    let words = map string_bytes c.args.words.now in
    let took = c.in_err-secret.ensures.took in
    let p = err_from_is_err_and c.from_residual.result c.from_residual.ensures.1 in
    rw (p.1, p.2) (commanded_stop c.in_err-secret.field-0.0 took.keeps
    (stopped_at (start form.Public words (g.S.Store.state c.args.store.now) c.requires.form) took.keeps took.err (operand_named form.Public words 1 c.requires.form (inl refl))))

pub returns-in_err-seed : goal.returns-in_err-seed
returns-in_err-seed g c =
    let words = map string_bytes c.args.words.now in
    let scan = c.in_ok-secret.ensures.took in
    let (secret, (states, held)) = scan.ok in
    let way = taken_on secret (start form.Public words (g.S.Store.state c.args.store.now) c.requires.form) scan.keeps held in
    let took = c.in_err-seed.ensures in
    let p = err_from_is_err_and c.from_residual-in_err-seed.result c.from_residual-in_err-seed.ensures.1 in
    rw (p.1, p.2) (commanded_stop c.in_err-seed.field-0.0 (reads_then scan.keeps took.keeps)
    (stopped_at way took.keeps took.err (operand_named form.Public words 2 c.requires.form (inr refl))))

pub returns : goal.returns
returns g c =
    let words = map string_bytes c.args.words.now in
    let begun = start form.Public words (g.S.Store.state c.args.store.now) c.requires.form in
    let scan = c.in_ok-secret.ensures.took in
    let (secret, (states, held)) = scan.ok in
    let took = c.in_ok-seed.ensures in
    let (seed, (same, seed_held)) = took.ok in
    let way = taken_on seed (taken_on secret begun scan.keeps held) took.keeps seed_held in
    commanded form.Public (word_at words 3) c.write_drawn.result c.requires.form refl way (c.write_drawn.ensures secret)
    (λ files told. has_content states (held.says files (sym scan.keeps.files ∙ sym took.keeps.files ∙ told)))
    (λ word is. subst (MayReread words (g.S.Store.state c.args.store.now)) (sym is) (reread begun (operand_named form.Public words 1 c.requires.form (inl refl))))
    (λ bytes is.
    let made : bytes ≡ file_text (drawn_public_file secret (seed_word seed)) = is ∙ ap (λ s. file_text (drawn_public_file secret (seed_word s))) same in
    record { written = made; stands = λ files told state stands item is_made. item_published words files state secret seed bytes item stands (says_taken (held.says files told)) made is_made })
