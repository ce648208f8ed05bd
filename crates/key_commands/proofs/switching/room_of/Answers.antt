use Rattle.std.proofs.Common.{◌≡◌, ℕ, ◌<◌, subst, sym}
use Rattle.std.proofs.lemmas.Result.{err_from_is_err_and}
use Rattle.ring_law.specs.Rows.{listed_polynomial}
use Rattle.bfv_model.specs.Holds.{secret_polynomial}
use Rattle.bfv_params.specs.Values.{SecretValue}
use Rattle.command_stages.proofs.Writing.{made_for_memory, unmade_before}
use Rattle.key_commands.proofs.switching.room_of.Goals as goal

pub returns-in_err-own-clause-made : goal.returns-in_err-own-clause-made
returns-in_err-own-clause-made g c = λ content.
    let p = err_from_is_err_and c.from_residual.result c.from_residual.ensures.1 in
    rw (p.1, p.2) (unmade_before (c.in_err-own.ensures.made content))

pub returns-in-Ok-filled_room-clause-made : goal.returns-in-Ok-filled_room-clause-made
returns-in-Ok-filled_room-clause-made g c = λ content.
    let again = c.in_ok-own.ensures.made content in
    record {
      keeps = again.keeps;
      ok = λ files told held. subst (λ (s : SecretValue). (k : ℕ) → k < g.row.N → listed_polynomial s.small k ≡ secret_polynomial content.words k) (sym c.in-Ok-filled_room.ensures.secret)
          (again.ok files told held);
      err = tt;
      reads = tt;
    }

pub returns-in-Err-clause-made : goal.returns-in-Err-clause-made
returns-in-Err-clause-made g c = λ content. made_for_memory (c.in_ok-own.ensures.made content).keeps
