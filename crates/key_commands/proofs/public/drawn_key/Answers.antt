use Rattle.std.proofs.Common.{ap}
use Rattle.std.proofs.lemmas.Result.{err_from_is_err_and}
use Rattle.ring_law.specs.Rows.{listed_polynomial}
use Rattle.bfv_model.specs.Holds.{secret_polynomial}
use Rattle.bfv_params.specs.Values.{ContextValue}
use Rattle.command_model.specs.Plan.{seed_word}
use Rattle.command_stages.proofs.Writing.{made_for_memory, unmade_before}
use Rattle.key_commands.proofs.DrawnContents.{drawn_for}
use Rattle.key_commands.proofs.public.drawn_key.Goals as goal

pub returns-in_err-source-clause-made : goal.returns-in_err-source-clause-made
returns-in_err-source-clause-made g c = λ content.
    let p = err_from_is_err_and c.from_residual.result c.from_residual.ensures.1 in
    rw (p.1, p.2) (unmade_before (c.in_err-source.ensures.made content))

pub returns-in-Ok-key_of-clause-made : goal.returns-in-Ok-key_of-clause-made
returns-in-Ok-key_of-clause-made g c = λ content.
    let again = c.in_ok-source.ensures.made content in
    let set = ap (λ (ctx : ContextValue). ctx.set) c.in-Ok.ensures in
    record {
      keeps = again.keeps;
      ok = λ files told held. drawn_for g.row.N c.in-Ok-key_of.public.rows (listed_polynomial c.in_ok-source.source.small) (secret_polynomial content.words) (seed_word c.args.seed.now)
          c.in-Ok.ctx.set c.args.secret.now.set set (again.ok files told held) c.in-Ok-key_of.ensures.words;
      err = tt;
      reads = tt;
    }

pub returns-clause-made : goal.returns-clause-made
returns-clause-made g c = λ content. made_for_memory (c.in_ok-source.ensures.made content).keeps
