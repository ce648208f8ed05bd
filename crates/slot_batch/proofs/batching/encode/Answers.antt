use Rattle.std.proofs.Common.{ℕ, arith, rules, sym, ap, subst, ◌∙◌}
use Rattle.ring_law.specs.Rows.{IsReduced, row_polynomial}
use Rattle.set_table.specs.Sets.{plain_of}
use Rattle.neg_ntt.specs.Parameters.{Parameters}
use Rattle.slot_batch.proofs.Plaintexts.{IsReduced-entries, RowRepresents-slots, slots_of_transform}
use Rattle.slot_batch.proofs.batching.encode.Goals as goal

pub inverse-requires : goal.inverse-requires
inverse-requires g c =
    let set = c.args.ctx.now.set in
    let modulus = ap (λ (t : Parameters). t.modulus) c.plain_transform-transform.ensures.value in
    let reduced = IsReduced-entries set g.row.N (plain_of set) c.args.values.now c.write_slots.new.entries c.plain_transform-transform.ensures.degree
    (λ log i e l. sym (c.write_slots.ensures log i e l)) c.requires in
    (omega arith, (search rules, subst (λ (t : ℕ). IsReduced g.row.N t c.write_slots.new.entries) (sym modulus) reduced))

pub returns-clause-slots : goal.returns-clause-slots
returns-clause-slots g c = sym (slots_of_transform c.args.ctx.now.set g.row.N c.plain_transform-transform.result.now c.args.values.now
    c.write_slots.new.entries (row_polynomial c.inverse.new.row) c.plain_transform-transform.ensures.degree
    c.plain_transform-transform.ensures.value c.told-values (λ log i e l. sym (c.write_slots.ensures log i e l)) c.inverse.ensures.transform)

pub returns-clause-reduced : goal.returns-clause-reduced
returns-clause-reduced g c = subst (λ (t : ℕ). IsReduced g.row.N t c.inverse.new.row)
    (ap (λ (t : Parameters). t.modulus) c.plain_transform-transform.ensures.value) c.inverse.ensures.reduced

pub returns-clause-unique : goal.returns-clause-unique
returns-clause-unique g c m same = RowRepresents-slots c.args.ctx.now.set g.row.N c.inverse.new.row m c.plain_transform-transform.ensures.degree
    (returns-clause-reduced g c) (returns-clause-slots g c ∙ sym same)
