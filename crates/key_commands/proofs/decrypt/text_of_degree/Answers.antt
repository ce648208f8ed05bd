use Rattle.std.proofs.Common.{◌≡◌, inl, inr, ℕ, ◌<◌, sym, ap, ◌∙◌, subst, length}
use Rattle.std.proofs.lemmas.Result.{err_from_is_err_and}
use Rattle.set_table.specs.declared.SetName.{SetName}
use Rattle.set_table.specs.Sets.{degree_of, data_of}
use Rattle.file_model.specs.FileText.{FileContent}
use Rattle.bfv_model.specs.Holds.{listed_word, stored_word}
use Rattle.bfv_params.specs.Values.{ContextValue}
use Rattle.command_stages.proofs.Causes.{reads_nothing}
use Rattle.command_stages.proofs.Ways.{reads_then}
use Rattle.command_stages.proofs.Writing.{made_for_memory, unmade_behind}
use Rattle.key_commands.proofs.Decryptions.{decryption_of_contents}
use Rattle.key_commands.proofs.decrypt.text_of_degree.Goals as goal

pub returns-in_err-source : goal.returns-in_err-source
returns-in_err-source g c = λ a b.
    let made = c.in_err-source.ensures.made a in
    let p = err_from_is_err_and c.from_residual.result c.from_residual.ensures.1 in
    rw (p.1, p.2) record {
      keeps = made.keeps;
      ok = tt;
      err = unmade_behind (reads_nothing (g.S.Store.state c.args.store.now)) (λ word is. inl is) (λ files same. same.0) made.err;
      reads = made.reads;
    }

pub returns-in_err-sealed : goal.returns-in_err-sealed
returns-in_err-sealed g c = λ a b.
    let source = c.in_ok-source.ensures.made a in
    let made = c.in_err-sealed.ensures.made b in
    let p = err_from_is_err_and c.from_residual-in_err-sealed.result c.from_residual-in_err-sealed.ensures.1 in
    rw (p.1, p.2) record {
      keeps = reads_then source.keeps made.keeps;
      ok = tt;
      err = unmade_behind source.keeps (λ word is. inr is) (λ files same. same.1) made.err;
      reads = made.reads;
    }

pub returns-in-Ok-decrypted_text : goal.returns-in-Ok-decrypted_text
returns-in-Ok-decrypted_text g c = λ a b.
    let n = g.row.N in
    let ctx = c.in-Ok.ctx in
    let rows = c.in_ok-sealed.sealed.rows in
    let source = c.in_ok-source.ensures.made a in
    let sealed = c.in_ok-sealed.ensures.made b in
    let set : ctx.set ≡ c.args.secret.now.set = ap (λ (x : ContextValue). x.set) c.in-Ok.ensures in
    let same : c.args.cipher.now.set ≡ ctx.set = c.requires.set ∙ sym set in
    record {
      keeps = reads_then source.keeps sealed.keeps;
      ok = λ files told (of_secret, of_cipher).
          let of_set : b.set ≡ ctx.set = ap (λ (x : FileContent). x.set) of_cipher.head_is.states ∙ same in
          let cipher_is = subst
          (λ (z : SetName). (j i k : ℕ) → j < 3 → i < length (data_of z) → k < n → listed_word (length (data_of z)) rows j i k ≡ stored_word n (length (data_of z)) b.words j i k)
          same (sealed.ok files (source.keeps.files ∙ told) of_cipher) in
          decryption_of_contents n ctx.set a b c.in_ok-source.source.small rows c.in-Ok-decrypted_text.text.items (c.requires.degree ∙ ap degree_of (sym set)) of_set
          (source.ok files told of_secret) cipher_is c.in-Ok-decrypted_text.ensures.text c.in-Ok-decrypted_text.ensures.right;
      err = tt;
      reads = tt;
    }

pub returns : goal.returns
returns g c = λ a b. made_for_memory (reads_then (c.in_ok-source.ensures.made a).keeps (c.in_ok-sealed.ensures.made b).keeps)
