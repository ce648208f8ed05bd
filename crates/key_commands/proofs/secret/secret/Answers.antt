use Rattle.std.proofs.Common.{◌≡◌, ℕ, List, map, refl, sym, ◌∙◌, ap}
use Rattle.std.specs.Prelude.{Some, option_and_then}
use Rattle.std.specs.String.{string_bytes}
use Rattle.std.proofs.lemmas.Result.{err_from_is_err_and}
use Rattle.set_table.specs.declared.SetName.{SetName}
use Rattle.set_table.specs.Sets.{set_named}
use Rattle.outer_io.specs.Store.{StoreState}
use Rattle.file_model.specs.FileText.{file_text}
use Rattle.file_model.specs.DrawnFiles.{drawn_secret_file}
use Rattle.command_words.specs.Form.{form_of}
use Rattle.command_words.specs.Line.{word_at}
use Rattle.command_words.specs.declared.form.Form.TheVariants as form
use Rattle.command_words.proofs.Words.{words_say}
use Rattle.command_model.specs.Reading.{Reading, seed_file, read_word, done, file_with}
use Rattle.command_model.specs.Plan.{seed_word}
use Rattle.command_model.specs.Plain.{drawn}
use Rattle.command_stages.specs.Stages.{Way}
use Rattle.command_stages.proofs.Ways.{start, with_named, taken_on, says_taken, operand_named, stopped_at, commanded, commanded_stop}
use Rattle.key_commands.proofs.MadeItems.{item_drawn}
use Rattle.key_commands.proofs.secret.secret.Goals as goal

pub unreachable-requires : goal.unreachable-requires
unreachable-requires g c =
    let words = map string_bytes c.args.words.now in
    let none = sym c.in_default.is ∙ c.from_text.ensures.named ∙ ap set_named c.name_of.ensures in
    let named = words_say words form.Secret c.requires.form in
    let some = named.1 in
    cc

-- what is left to read once the set is known
abbrev by_seed : List (List ℕ) → SetName → Reading
by_seed words set = read_word words 2 seed_file (λ seed. done (file_with (drawn_secret_file set (seed_word seed))))

-- no file was read yet
begun : (words : List (List ℕ)) (state : StoreState) (set : SetName) → form_of words ≡ Some form.Secret → set_named (word_at words 1) ≡ Some set → Way words (by_seed words set) state state
begun words state set is named = with_named (by_seed words) named (start form.Secret words state is)

pub returns-in_err-seed : goal.returns-in_err-seed
returns-in_err-seed g c =
    let words = map string_bytes c.args.words.now in
    let set : set_named (word_at words 1) ≡ Some c.in-Some.set = sym (ap set_named c.name_of.ensures) ∙ sym c.from_text.ensures.named ∙ c.in-Some.is in
    let took = c.in_err-seed.ensures in
    let p = err_from_is_err_and c.from_residual.result c.from_residual.ensures.1 in
    rw (p.1, p.2) (commanded_stop c.in_err-seed.field-0.0 took.keeps
    (stopped_at (begun words (g.S.Store.state c.args.store.now) c.in-Some.set c.requires.form set) took.keeps took.err (operand_named form.Secret words 2 c.requires.form refl)))

pub returns : goal.returns
returns g c =
    let words = map string_bytes c.args.words.now in
    let set : set_named (word_at words 1) ≡ Some c.in-Some.set = sym (ap set_named c.name_of.ensures) ∙ sym c.from_text.ensures.named ∙ c.in-Some.is in
    let (seed, (same, held)) = c.in_ok-seed.ensures.ok in
    let way = taken_on seed (begun words (g.S.Store.state c.args.store.now) c.in-Some.set c.requires.form set) c.in_ok-seed.ensures.keeps held in
    commanded form.Secret c.name_of-2.result.now c.write_drawn.result c.requires.form (ap Some (sym c.name_of-2.ensures)) way c.write_drawn.ensures (λ files told. tt) (λ word never. absurd never)
    (λ bytes is.
    let made : bytes ≡ file_text (drawn_secret_file c.in-Some.set (seed_word seed)) = is ∙ ap (λ s. file_text (drawn_secret_file c.in-Some.set (seed_word s))) same in
    record {
      written = made;
      stands = λ files told state stands item is_made. item_drawn words files state c.in-Some.set seed bytes item stands (says_taken (held.says files told)) made
          (ap (option_and_then (λ set. drawn set (state (word_at words 2)))) (sym set) ∙ is_made);
    })
