use Rattle.std.proofs.Common.{◌≡◌, inl, inr, List, ℕ, map, refl, sym, ◌∙◌, ap, subst}
use Rattle.std.specs.String.{string_bytes}
use Rattle.std.proofs.lemmas.Result.{err_from_is_err_and}
use Rattle.set_table.specs.declared.SetName.{SetName}
use Rattle.file_model.specs.FileText.{FileContent}
use Rattle.command_words.specs.Line.{word_at}
use Rattle.command_words.specs.declared.form.Form.TheVariants as form
use Rattle.command_model.specs.Reading.{values_file}
use Rattle.command_model.specs.Plan.{IsFreshCipher}
use Rattle.command_stages.specs.Stages.{MayReread, Took}
use Rattle.command_stages.proofs.Ways.{start, taken_on, says_taken, has_content, operand_named, stopped_at, reread, commanded, commanded_stop, reads_then}
use Rattle.key_commands.proofs.MadeItems.{item_sealed}
use Rattle.key_commands.proofs.encrypt.encrypt.Goals as goal

pub returns-in_err-public : goal.returns-in_err-public
returns-in_err-public g c =
    let words = map string_bytes c.args.words.now in
    let took = c.in_err-public.ensures.took in
    let p = err_from_is_err_and c.from_residual.result c.from_residual.ensures.1 in
    rw (p.1, p.2) (commanded_stop c.in_err-public.field-0.0 took.keeps
    (stopped_at (start form.Encrypt words (g.S.Store.state c.args.store.now) c.requires.form) took.keeps took.err (operand_named form.Encrypt words 1 c.requires.form (inl refl))))

pub returns-in_err-seed : goal.returns-in_err-seed
returns-in_err-seed g c =
    let words = map string_bytes c.args.words.now in
    let scan = c.in_ok-public.ensures.took in
    let (public, (states, held)) = scan.ok in
    let way = taken_on public (start form.Encrypt words (g.S.Store.state c.args.store.now) c.requires.form) scan.keeps held in
    let took = c.in_err-seed.ensures in
    let p = err_from_is_err_and c.from_residual-in_err-seed.result c.from_residual-in_err-seed.ensures.1 in
    rw (p.1, p.2) (commanded_stop c.in_err-seed.field-0.0 (reads_then scan.keeps took.keeps)
    (stopped_at way took.keeps took.err (operand_named form.Encrypt words 2 c.requires.form (inr (inl refl)))))

pub returns-in_err-values : goal.returns-in_err-values
returns-in_err-values g c =
    let words = map string_bytes c.args.words.now in
    let state = g.S.Store.state in
    let scan = c.in_ok-public.ensures.took in
    let (public, (states, held)) = scan.ok in
    let seed_took = c.in_ok-seed.ensures in
    let (seed, (same, seed_held)) = seed_took.ok in
    let way = taken_on seed (taken_on public (start form.Encrypt words (state c.args.store.now) c.requires.form) scan.keeps held) seed_took.keeps seed_held in
    let set : c.in_ok-public.public.set ≡ public.set = sym (ap (λ (content : FileContent). content.set) states.states) in
    let took = subst (λ (z : SetName). Took (word_at words 3) 3 (values_file z) (λ listed v. v.items ≡ listed) (state c.read_seed.new.store) (state c.read_values_operand.new.store)
    c.read_values_operand.result) set c.read_values_operand.ensures.took in
    let p = err_from_is_err_and c.from_residual-in_err-values.result c.from_residual-in_err-values.ensures.1 in
    let err = subst (λ r. Took (word_at words 3) 3 (values_file public.set) (λ listed v. v.items ≡ listed) (state c.read_seed.new.store) (state c.read_values_operand.new.store) r) c.in_err-values.was took in
    rw (p.1, p.2) (commanded_stop c.in_err-values.field-0.0 (reads_then scan.keeps (reads_then seed_took.keeps took.keeps))
    (stopped_at way took.keeps err.err (operand_named form.Encrypt words 3 c.requires.form (inr (inr refl)))))

pub returns : goal.returns
returns g c =
    let words = map string_bytes c.args.words.now in
    let state = g.S.Store.state in
    let begun = start form.Encrypt words (state c.args.store.now) c.requires.form in
    let scan = c.in_ok-public.ensures.took in
    let (public, (states, held)) = scan.ok in
    let seed_took = c.in_ok-seed.ensures in
    let (seed, (same, seed_held)) = seed_took.ok in
    let set : c.in_ok-public.public.set ≡ public.set = sym (ap (λ (content : FileContent). content.set) states.states) in
    let took = subst (λ (z : SetName). Took (word_at words 3) 3 (values_file z) (λ listed v. v.items ≡ listed) (state c.read_seed.new.store) (state c.read_values_operand.new.store)
    c.read_values_operand.result) set c.read_values_operand.ensures.took in
    let ok = subst (λ r. Took (word_at words 3) 3 (values_file public.set) (λ listed v. v.items ≡ listed) (state c.read_seed.new.store) (state c.read_values_operand.new.store) r) c.in_ok-values.was took in
    let (listed, (is_listed, values_held)) = ok.ok in
    let way = taken_on listed (taken_on seed (taken_on public begun scan.keeps held) seed_took.keeps seed_held) took.keeps values_held in
    commanded form.Encrypt (word_at words 4) c.write_sealed.result c.requires.form refl way (c.write_sealed.ensures public)
    (λ files told. has_content states (held.says files (sym scan.keeps.files ∙ sym seed_took.keeps.files ∙ sym took.keeps.files ∙ told)))
    (λ word is. subst (MayReread words (state c.args.store.now)) (sym is) (reread begun (operand_named form.Encrypt words 1 c.requires.form (inl refl))))
    (λ bytes is.
    let values : c.deref.result.now ≡ listed = c.deref.ensures.value ∙ is_listed in
    let fresh = subst (λ (s : List ℕ). IsFreshCipher public listed s bytes) same (subst (λ (v : List ℕ). IsFreshCipher public v c.in_ok-seed.seed bytes) values is) in
    record {
      written = fresh;
      stands = λ files told state stands item is_made. item_sealed words files state public listed seed bytes item stands (says_taken (held.says files told))
          (says_taken (values_held.says files (seed_took.keeps.files ∙ scan.keeps.files ∙ told))) fresh is_made;
    })
