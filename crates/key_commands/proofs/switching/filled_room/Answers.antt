use Rattle.std.proofs.Common.{◌+◌, ◌*◌, ℕ, List, length, refl, sym, ◌∙◌, ap, subst}
use Rattle.std.specs.Prelude.{replicate}
use Rattle.std.proofs.lemmas.List.{length-replicate}
use Rattle.set_table.specs.Sets.{data_of}
use Rattle.ring_law.specs.Rows.{listed_polynomial}
use Rattle.rns_poly.specs.Rows.{AreReduced}
use Rattle.rns_poly.specs.Transforms.{AreTransforms}
use Rattle.bfv_model.specs.SwitchKeys.{key_source}
use Rattle.bfv_params.specs.Contexts.{transforms_in}
use Rattle.key_commands.proofs.Decryptions.{at_all_moduli}
use Rattle.key_commands.proofs.switching.filled_room.Goals as goal

pub returns-clause-room : goal.returns-clause-room
returns-clause-room g c =
    let ctx = c.args.ctx in
    let zeros = replicate g.row.N 0 in
    let draw = c.args.draw.now in
    let level = c.data_moduli-level.ensures.count ∙ c.requires.level in
    let lent = ap length c.view_mut.ensures.value in
    let written = c.view_mut.ensures.same_length c.fill_source.new.out (c.fill_source.auto.out ∙ lent) in
    let source = ap length c.in_ok-source.ensures ∙ length-replicate (length c.data_moduli-level.result.now) zeros in
    let reduced = at_all_moduli ctx.set ctx.level (λ moduli _. AreReduced g.row.N moduli c.fill_source.new.out → AreReduced g.row.N (data_of ctx.set) c.fill_source.new.out) c.requires.level (λ all. all)
    c.fill_source.ensures.reduced in
    record {
      ctx_set = refl;
      level = c.requires.level;
      secret_set = c.requires.secret_set;
      transforms = subst (λ (rows : List (List ℕ)). AreTransforms (transforms_in ctx) rows (λ _. key_source draw.kind g.row.N draw.element (listed_polynomial c.args.secret.small))) (sym written)
          c.fill_source.ensures.transforms;
      reduced = subst (AreReduced g.row.N (data_of ctx.set)) (sym written) reduced;
      source_count = ap length written ∙ c.fill_source.auto.out ∙ lent ∙ source ∙ level;
      digit_count = ap length c.in_ok-digit.ensures ∙ length-replicate (2 * (length c.data_moduli-level.result.now + 1)) zeros ∙ ap (λ (n : ℕ). 2 * (n + 1)) level;
      scratch_count = ap length c.in_ok-scratch.ensures ∙ length-replicate c.scratch_rows.result zeros ∙ c.scratch_rows.ensures.value;
    }
