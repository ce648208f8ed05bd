use Rattle.std.proofs.Common.{ℕ, ap, mod-eq_of_lt, subst, sym}
use Rattle.ring_law.specs.Rows.{RowRepresents, row_polynomial}
use Rattle.neg_ntt.specs.Parameters.{Parameters}
use Rattle.slot_batch.proofs.Plaintexts.{slots_of_transform}
use Rattle.slot_batch.proofs.batching.decode.Goals as goal

pub returns : goal.returns
returns g c =
    let modulus = ap (λ (t : Parameters). t.modulus) c.plain_transform.ensures.value in
    slots_of_transform c.args.ctx.now.set g.row.N c.plain_transform.result.now c.read_slots.new.values c.forward.new.row
    (row_polynomial c.args.row.now) c.plain_transform.ensures.degree c.plain_transform.ensures.value
    c.read_slots.ensures.len c.read_slots.ensures.slots
    (c.forward.ensures.transform (row_polynomial c.args.row.now)
    (subst (λ (t : ℕ). RowRepresents g.row.N t c.args.row.now (row_polynomial c.args.row.now)) (sym modulus)
    (λ k inside. sym (mod-eq_of_lt (c.requires k inside)))))
