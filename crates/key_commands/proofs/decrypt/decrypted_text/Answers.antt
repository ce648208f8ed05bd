use Rattle.std.proofs.Common.{◌≡◌, ◌*◌, ◌≤◌, ap, ◌∙◌, slice_index}
use Rattle.std.proofs.lemmas.Result.{IfOk-weaker}
use Rattle.set_table.specs.Sets.{plain_of}
use Rattle.ring_law.specs.Moduli.{product}
use Rattle.ring_law.specs.Rows.{row_polynomial, listed_polynomial}
use Rattle.bfv_model.specs.Holds.{CipherHolds, listed_word}
use Rattle.bfv_model.specs.Slots.{slots_of}
use Rattle.script_text.specs.Values.{printed_values}
use Rattle.key_commands.proofs.Decryptions.{at_all_moduli, slots_printed, slots_of_row}
use Rattle.key_commands.proofs.decrypt.decrypted_text.Goals as goal

pub returns-clause-text : goal.returns-clause-text
returns-clause-text g c =
    IfOk-weaker c.print_values.result _ _
    (λ text is. slots_printed c.args.ctx.now.set (row_polynomial c.deref.result.now) c.deref-2.result.now text.items (c.deref-2.ensures ∙ c.decode.ensures) is) c.print_values.ensures

pub returns-clause-right : goal.returns-clause-right
returns-clause-right g c = λ m bound holds room.
    let set = c.args.ctx.now.set in
    let at_level = at_all_moduli set c.args.ctx.now.level
    (λ moduli count. CipherHolds g.row.N moduli (plain_of set) (listed_word count c.args.cipher.now.rows) (listed_polynomial c.args.secret.now.small) m bound) c.requires.level holds in
    let room_at_level = at_all_moduli set c.args.ctx.now.level (λ moduli count. 4 * bound ≤ product moduli) c.requires.level room in
    let plain = c.decrypt.ensures.plain m bound at_level room_at_level in
    let decoded : c.deref-2.result.now ≡ slots_of set (row_polynomial c.deref.result.now) = c.deref-2.ensures ∙ c.decode.ensures in
    let same = slots_of_row set g.row.N c.deref.result.now m c.scratch_rows.ensures.degree (λ k below. ap (λ row. slice_index row k) c.deref.ensures ∙ plain k below) in
    IfOk-weaker c.print_values.result _ _ (λ text is. is ∙ ap printed_values (decoded ∙ same)) c.print_values.ensures
