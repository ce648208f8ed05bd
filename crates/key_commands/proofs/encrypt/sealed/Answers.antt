use Rattle.std.proofs.Common.{◌≡◌, ℕ, length, ap, subst, ◌∙◌}
use Rattle.std.proofs.lemmas.Result.{err_from_is_err_and}
use Rattle.set_table.specs.declared.SetName.{SetName}
use Rattle.set_table.specs.Sets.{degree_of, data_of}
use Rattle.bfv_params.specs.Values.{ContextValue}
use Rattle.bfv_model.specs.Holds.{listed_word, stored_word}
use Rattle.command_model.specs.Plan.{seed_word}
use Rattle.command_stages.proofs.Writing.{made_for_memory, unmade_before}
use Rattle.key_commands.specs.Encrypted.{IsSealing}
use Rattle.key_commands.proofs.Sealing.{sealing_under}
use Rattle.key_commands.proofs.encrypt.sealed.Goals as goal

pub returns-in_err-key-clause-made : goal.returns-in_err-key-clause-made
returns-in_err-key-clause-made g c = λ content.
    let p = err_from_is_err_and c.from_residual.result c.from_residual.ensures.1 in
    rw (p.1, p.2) (unmade_before (c.in_err-key.ensures.made content))

pub returns-in-Ok-sealed_under-clause-made : goal.returns-in-Ok-sealed_under-clause-made
returns-in-Ok-sealed_under-clause-made g c = λ content.
    let set = c.args.public.now.set in
    let count = length (data_of set) in
    let key = c.in_ok-key.key.rows in
    let cipher = c.in-Ok-sealed_under.cipher.rows in
    let listed = c.args.values.now in
    let words = seed_word c.args.seed.now in
    let set_is : c.in-Ok.ctx.set ≡ set = ap (λ (ctx : ContextValue). ctx.set) c.in-Ok.ensures in
    let again = c.in_ok-key.ensures.made content in
    let under = subst (λ (z : SetName). IsSealing z (listed_word (length (data_of z)) key) listed words (listed_word (length (data_of z)) cipher)) set_is
    c.in-Ok-sealed_under.ensures.sealing in
    record {
      keeps = again.keeps;
      ok = λ files told held. sealing_under set g.row.N (listed_word count key) (stored_word (degree_of set) count content.words) listed words (listed_word count cipher) c.requires.degree
          (λ j i k part row place. again.ok files told held j i k part row place ∙ ap (λ (d : ℕ). stored_word d count content.words j i k) c.requires.degree) under;
      err = tt;
      reads = tt;
    }

pub returns-clause-made : goal.returns-clause-made
returns-clause-made g c = λ content. made_for_memory (c.in_ok-key.ensures.made content).keeps
