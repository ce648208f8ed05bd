use Rattle.std.proofs.Common.{◌≡◌, ◌⊎◌, inl, inr, ⊎_elim, List, ℕ, map, length, refl, sym, ◌∙◌, ap, subst}
use Rattle.std.specs.Prelude.{Some, None, Ok, Err}
use Rattle.std.specs.String.{string_bytes}
use Rattle.std.proofs.lemmas.Result.{err_from_is_err_and}
use Rattle.std.specs.Option.{ForSome}
use Rattle.outer_io.specs.Store.{Files, StoreState, OnlyReads}
use Rattle.file_model.specs.FileText.{FileContent}
use Rattle.file_model.specs.Heads.{IsHeadOf}
use Rattle.file_model.specs.declared.head.Head.{Head}
use Rattle.file_model.specs.declared.head.Wanted.TheVariants as wanted
use Rattle.command_words.specs.Form.{form_of}
use Rattle.command_words.specs.Line.{word_at}
use Rattle.command_words.specs.declared.form.Form.TheVariants as form
use Rattle.command_model.specs.Reading.{own_file, done, values}
use Rattle.command_model.specs.Plan.{unmatched}
use Rattle.command_model.specs.Answers.{IsOperandOf}
use Rattle.command_stages.specs.Operands.{HasContent}
use Rattle.command_stages.specs.Stages.{MayReread, Took, Way, Wrote}
use Rattle.command_stages.proofs.Causes.{caused_as}
use Rattle.command_stages.proofs.Ways.{MadeFor, start, taken_on, not_refused, refused_by, says_taken, has_content, operand_named, stopped_at, stopped_by, stopped_making, reread, commanded, commanded_stop, reads_then}
use Rattle.command_stages.proofs.Writing.{wrote_file, unwritten}
use Rattle.key_commands.specs.Decrypted.{IsDecryption}
use Rattle.key_commands.proofs.Matching.{unmatched_owes}
use Rattle.key_commands.proofs.OpenedItems.{item_opened}
use Rattle.key_commands.proofs.decrypt.decrypt.Goals as goal

pub returns-in_err-secret : goal.returns-in_err-secret
returns-in_err-secret g c =
    let words = map string_bytes c.args.words.now in
    let took = c.in_err-secret.ensures.took in
    let p = err_from_is_err_and c.from_residual.result c.from_residual.ensures.1 in
    rw (p.1, p.2) (commanded_stop c.in_err-secret.field-0.0 took.keeps
    (stopped_at (start form.Decrypt words (g.S.Store.state c.args.store.now) c.requires.form) took.keeps took.err (operand_named form.Decrypt words 1 c.requires.form (inl refl))))

pub returns-in_err-cipher : goal.returns-in_err-cipher
returns-in_err-cipher g c =
    let words = map string_bytes c.args.words.now in
    let scan = c.in_ok-secret.ensures.took in
    let (secret, (states, held)) = scan.ok in
    let way = taken_on secret (start form.Decrypt words (g.S.Store.state c.args.store.now) c.requires.form) scan.keeps held in
    let took = c.in_err-cipher.ensures.took in
    let p = err_from_is_err_and c.from_residual-in_err-cipher.result c.from_residual-in_err-cipher.ensures.1 in
    rw (p.1, p.2) (commanded_stop c.in_err-cipher.field-0.0 (reads_then scan.keeps took.keeps)
    (stopped_at way took.keeps took.err (operand_named form.Decrypt words 2 c.requires.form (inr refl))))

pub returns-in_err-match_heads : goal.returns-in_err-match_heads
returns-in_err-match_heads g c =
    let words = map string_bytes c.args.words.now in
    let now = g.S.Store.state c.scan_operand-2.new.store in
    let scan = c.in_ok-secret.ensures.took in
    let (secret, (states, held)) = scan.ok in
    let took = c.in_ok-cipher.ensures.took in
    let (cipher, (cipher_states, cipher_held)) = took.ok in
    let way = taken_on cipher (taken_on secret (start form.Decrypt words (g.S.Store.state c.args.store.now) c.requires.form) scan.keeps held) took.keeps cipher_held in
    let status = c.in_err-match_heads.field-0.0 in
    let refusal = c.in_err-match_heads.ensures.err cipher secret cipher_states states in
    let owes = unmatched_owes 2 cipher secret status refusal in
    let p = err_from_is_err_and c.from_residual-in_err-match_heads.result c.from_residual-in_err-match_heads.ensures.1 in
    rw (p.1, p.2) (commanded_stop status (reads_then scan.keeps took.keeps)
    (stopped_by status (refused_by (done (values secret cipher)) refusal way) owes.none
    (caused_as (λ word is. subst (IsOperandOf (form_of words) (length words)) (sym is) (operand_named form.Decrypt words 2 c.requires.form (inr refl))) (owes.caused now now))))

-- a command that has read both files, which match
record Ready (words : List (List ℕ)) (old mid : StoreState) (key source : Head) : Type 0 where
  secret : FileContent
  cipher : FileContent
  keeps : OnlyReads old mid
  way : Way words (done (values secret cipher)) old mid
  same : ForSome mid.files (λ files. HasContent words files 1 key secret × HasContent words files 2 source cipher)
  again : (word : ℕ) → (word ≡ 1) ⊎ (word ≡ 2) → MayReread words old word
  made : (bytes : List ℕ) → IsDecryption secret cipher bytes → MadeFor form.Decrypt words (values secret cipher) old bytes

ready : (words : List (List ℕ)) (old first mid : StoreState) (key source : Head) → form_of words ≡ Some form.Decrypt
    → Took (word_at words 1) 1 (own_file wanted.Secret) (λ content head. IsHeadOf head content) old first (Ok key)
    → Took (word_at words 2) 2 (own_file wanted.Cipher) (λ content head. IsHeadOf head content) first mid (Ok source)
    → ((a b : FileContent) → IsHeadOf source a → IsHeadOf key b → unmatched 2 a b ≡ None) → Ready words old mid key source
ready words old first mid key source is scan other matched =
    let begun = start form.Decrypt words old is in
    let (secret, (states, held)) = scan.ok in
    let (cipher, (cipher_states, cipher_held)) = other.ok in
    let second = taken_on secret begun scan.keeps held in
    record {
      secret = secret;
      cipher = cipher;
      keeps = reads_then scan.keeps other.keeps;
      way = not_refused (matched cipher secret cipher_states states) (taken_on cipher second other.keeps cipher_held);
      same = λ files told.
          let before = sym other.keeps.files ∙ told in
          (has_content states (held.says files (sym scan.keeps.files ∙ before)), has_content cipher_states (cipher_held.says files before));
      again = λ word. ⊎_elim (λ at. subst (MayReread words old) (sym at) (reread begun (operand_named form.Decrypt words 1 is (inl refl))))
          (λ at. subst (MayReread words old) (sym at) (reread second (operand_named form.Decrypt words 2 is (inr refl))));
      made = λ bytes of_them. record {
        written = of_them.text;
        stands = λ files told state stands item is_made. item_opened words files state secret cipher bytes item stands (says_taken (held.says files told))
            (says_taken (cipher_held.says files (scan.keeps.files ∙ told))) of_them is_made;
      };
    }

pub returns-in_err-text : goal.returns-in_err-text
returns-in_err-text g c =
    let words = map string_bytes c.args.words.now in
    let state = g.S.Store.state in
    let r = ready words (state c.args.store.now) (state c.scan_operand.new.store) (state c.scan_operand-2.new.store) c.in_ok-secret.secret c.in_ok-cipher.cipher c.requires.form
    c.in_ok-secret.ensures.took c.in_ok-cipher.ensures.took c.in_ok-match_heads.ensures.ok in
    let made = c.in_err-text.ensures r.secret r.cipher in
    let p = err_from_is_err_and c.from_residual-in_err-text.result c.from_residual-in_err-text.ensures.1 in
    rw (p.1, p.2) (commanded_stop c.in_err-text.field-0.0 (reads_then r.keeps made.keeps) (stopped_making c.in_err-text.field-0.0 r.way made r.same r.again))

pub returns-in-Ok : goal.returns-in-Ok
returns-in-Ok g c =
    let words = map string_bytes c.args.words.now in
    let state = g.S.Store.state in
    let mid = state c.scan_operand-2.new.store in
    let name = c.name_of.result.now in
    let r = ready words (state c.args.store.now) (state c.scan_operand.new.store) mid c.in_ok-secret.secret c.in_ok-cipher.cipher c.requires.form
    c.in_ok-secret.ensures.took c.in_ok-cipher.ensures.took c.in_ok-match_heads.ensures.ok in
    let made = c.in_ok-text.ensures r.secret r.cipher in
    let Again : ℕ → Type 0 = λ w. (w ≡ 1) ⊎ (w ≡ 2) in
    let AreSame : Files → Type 0 = λ files. HasContent words files 1 c.in_ok-secret.secret r.secret × HasContent words files 2 c.in_ok-cipher.cipher r.cipher in
    commanded form.Decrypt name (Ok tt) c.requires.form (ap Some (sym c.name_of.ensures)) r.way
    (wrote_file name Again AreSame (IsDecryption r.secret r.cipher) mid (state c.opened_text.new.store) (state c.write_file.new.store) c.deref.result.now made.keeps
    c.in-Ok.ensures.keeps c.in-Ok.ensures.idle c.in-Ok.ensures.ok (λ files told same. subst (IsDecryption r.secret r.cipher) (sym c.deref.ensures.value) (made.ok files told same)))
    r.same r.again r.made

pub returns : goal.returns
returns g c =
    let words = map string_bytes c.args.words.now in
    let state = g.S.Store.state in
    let mid = state c.scan_operand-2.new.store in
    let new = state c.write_file.new.store in
    let name = c.name_of.result.now in
    let r = ready words (state c.args.store.now) (state c.scan_operand.new.store) mid c.in_ok-secret.secret c.in_ok-cipher.cipher c.requires.form
    c.in_ok-secret.ensures.took c.in_ok-cipher.ensures.took c.in_ok-match_heads.ensures.ok in
    let made = c.in_ok-text.ensures r.secret r.cipher in
    let Again : ℕ → Type 0 = λ w. (w ≡ 1) ⊎ (w ≡ 2) in
    let AreSame : Files → Type 0 = λ files. HasContent words files 1 c.in_ok-secret.secret r.secret × HasContent words files 2 c.in_ok-cipher.cipher r.cipher in
    let wrote : Wrote name Again AreSame (IsDecryption r.secret r.cipher) mid new (Err c.write_status.result) =
    subst (λ status. Wrote name Again AreSame (IsDecryption r.secret r.cipher) mid new (Err status)) (sym c.write_status.ensures)
    (unwritten name Again AreSame (IsDecryption r.secret r.cipher) mid (state c.opened_text.new.store) new c.in-Err.fault made.keeps c.in-Err.ensures.keeps c.in-Err.ensures.err) in
    commanded form.Decrypt name (Err c.write_status.result) c.requires.form (ap Some (sym c.name_of.ensures)) r.way wrote r.same r.again r.made
