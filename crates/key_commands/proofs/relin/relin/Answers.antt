use Rattle.std.proofs.Common.{List, ℕ, inl, inr, map, refl, sym, ◌∙◌, ap, subst}
use Rattle.std.specs.Prelude.{Some, IsSome}
use Rattle.std.specs.String.{string_bytes}
use Rattle.std.proofs.lemmas.Result.{err_from_is_err_and}
use Rattle.set_table.specs.declared.KeyKind.TheVariants.{Relin}
use Rattle.set_table.specs.Sets.{special_of}
use Rattle.file_model.specs.DrawnFiles.{drawn_switch_file}
use Rattle.file_model.specs.FileText.{FileContent, IsFile}
use Rattle.command_words.specs.declared.form.Form.TheVariants as form
use Rattle.command_model.specs.Plan.{seed_word, without_special}
use Rattle.command_model.specs.Reading.{Reading, seed_file, read_word, done, unless, file_with}
use Rattle.command_stages.proofs.Ways.{start, taken_on, not_refused, refused_by, operand_named, stopped_at, stopped_coming, commanded, commanded_stop, reads_then}
use Rattle.key_commands.proofs.SwitchWays.{scanned, special_owes, key_made}
use Rattle.key_commands.proofs.relin.relin.Goals as goal

-- what is left to read once the set has a special modulus
abbrev by_seed : List (List ℕ) → FileContent → Reading
by_seed words secret = read_word words 2 seed_file (λ seed. done (file_with (drawn_switch_file Relin 0 secret (seed_word seed))))

abbrev by_secret : List (List ℕ) → FileContent → Reading
by_secret words secret = unless (without_special secret.set) (by_seed words secret)

pub returns-in_err-secret : goal.returns-in_err-secret
returns-in_err-secret g c =
    let words = map string_bytes c.args.words.now in
    let took = c.in_err-secret.ensures.took in
    let p = err_from_is_err_and c.from_residual.result c.from_residual.ensures.1 in
    rw (p.1, p.2) (commanded_stop c.in_err-secret.field-0.0 took.keeps
    (stopped_at (start form.Relin words (g.S.Store.state c.args.store.now) c.requires.form) took.keeps took.err (operand_named form.Relin words 1 c.requires.form (inl refl))))

pub returns-in_err-need_special : goal.returns-in_err-need_special
returns-in_err-need_special g c =
    let words = map string_bytes c.args.words.now in
    let s = scanned {next = by_secret words} form.Relin c.requires.form (inl refl) (start form.Relin words (g.S.Store.state c.args.store.now) c.requires.form) c.in_ok-secret.ensures.took in
    let status = c.in_err-need_special.field-0.0 in
    let refusal = ap without_special s.set ∙ c.in_err-need_special.ensures.err in
    let p = err_from_is_err_and c.from_residual-in_err-need_special.result c.from_residual-in_err-need_special.ensures.1 in
    rw (p.1, p.2) (commanded_stop status s.keeps (stopped_coming (refused_by (by_seed words s.secret) refusal s.way) (inr refl) (λ _. special_owes s.secret.set status refusal)))

pub returns-in_err-seed : goal.returns-in_err-seed
returns-in_err-seed g c =
    let words = map string_bytes c.args.words.now in
    let s = scanned {next = by_secret words} form.Relin c.requires.form (inl refl) (start form.Relin words (g.S.Store.state c.args.store.now) c.requires.form) c.in_ok-secret.ensures.took in
    let way = not_refused (ap without_special s.set ∙ c.in_ok-need_special.ensures.ok) s.way in
    let took = c.in_err-seed.ensures in
    let p = err_from_is_err_and c.from_residual-in_err-seed.result c.from_residual-in_err-seed.ensures.1 in
    rw (p.1, p.2) (commanded_stop c.in_err-seed.field-0.0 (reads_then s.keeps took.keeps)
    (stopped_at way took.keeps took.err (operand_named form.Relin words 2 c.requires.form (inr refl))))

pub returns : goal.returns
returns g c =
    let words = map string_bytes c.args.words.now in
    let old = g.S.Store.state c.args.store.now in
    let s = scanned {next = by_secret words} form.Relin c.requires.form (inl refl) (start form.Relin words old c.requires.form) c.in_ok-secret.ensures.took in
    let took = c.in_ok-seed.ensures in
    let (seed, (same, held)) = took.ok in
    let way = taken_on seed (not_refused (ap without_special s.set ∙ c.in_ok-need_special.ensures.ok) s.way) took.keeps held in
    commanded form.Relin c.name_of.result.now c.write_drawn.result c.requires.form (ap Some (sym c.name_of.ensures)) way (c.write_drawn.ensures s.secret)
    (λ files told. s.same files (sym took.keeps.files ∙ told)) s.again
    (λ bytes is. key_made form.Relin words old Relin (λ n. 0) s.secret seed bytes s.taken (subst (λ set. IsSome (special_of set)) (sym s.set) c.in_ok-need_special.ensures.some) (λ state item made. made)
    (subst (λ drawn. IsFile bytes (drawn_switch_file Relin 0 s.secret (seed_word drawn))) same is))
