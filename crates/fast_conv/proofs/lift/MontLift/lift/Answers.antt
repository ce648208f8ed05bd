use Rattle.std.proofs.Common.{◌≡◌, ℕ, ◌^◌, ◌∙◌, arith, length, pos, neg_ℤ, ℤ, ◌*ℤ◌, subst, List}
use Rattle.ring_law.specs.Moduli.{product}
use Rattle.ring_law.specs.Rows.{Represents}
use Rattle.bfv_model.specs.Conversions.{IsMontgomeryLift}
use Rattle.fast_conv.specs.Converters.{Conversion}
use Rattle.fast_conv.specs.Rows.{correction_word, input_moduli, output_moduli}
use Rattle.fast_conv.proofs.Columns.{columns_more, correction_of}
use Rattle.fast_conv.proofs.Conversions.{words_of}
use Rattle.fast_conv.proofs.LiftedRows.{rows_lift}
use Rattle.fast_conv.proofs.lift.MontLift.lift.Goals as goal

pub loop-k-preserved : goal.loop-k-preserved
loop-k-preserved g c =
    let qs : List ℕ = input_moduli c.self.inside.inputs.items in
    let last : c.correction-correction.result ≡ correction_word c.self.inside.corrections.items (words_of c.self.inside.inputs.items c.args.from.now c.loop-k.k) =
    rw c.deref-in-loop-k.ensures.value at c.correction-correction.ensures
    ∙ correction_of c.self.inside.inputs.items c.self.inside.corrections.items c.args.from.now c.set_words.new.words c.loop-k.k (rw c.deref.ensures.value at c.set_words.ensures.value) c.self.invariant.1.count in
    columns_more c.self.inside.inputs.items c.self.inside.outputs.items (output_moduli c.self.inside.outputs.items) (2 ^ 32) (pos 1) (pos (product qs)) (neg_ℤ (pos (2 ^ 31) *ℤ pos (product qs)))
    c.args.from.now c.loop-k.to c.set_column.new.to c.set_words.new.words (λ j m. correction_word c.self.inside.corrections.items (words_of c.self.inside.inputs.items c.args.from.now m)) c.loop-k.k
    c.self.invariant.2 (rw c.deref.ensures.value at c.set_words.ensures.value) (rw (c.deref-in-loop-k-2.ensures.value, last) at c.set_column.ensures.set) c.set_column.ensures.rest
    c.loop-k.invariant

pub returns : goal.returns
returns g c =
    let Lifts : Conversion → Type 0 = λ v. (x : ℕ → ℤ) → Represents g.row.N v.from c.args.from.now x
    → (y : ℕ → ℤ) × IsMontgomeryLift g.row.N (product v.from) (2 ^ 32) (length v.from) x y × Represents g.row.N v.to c.loop-k.to y in
    subst Lifts c.self.view_is
    (rows_lift g.row.N (input_moduli c.self.inside.inputs.items) (output_moduli c.self.inside.outputs.items) c.self.inside.inputs.items c.self.inside.corrections.items c.self.inside.outputs.items
    c.args.from.now c.loop-k.to c.self.invariant.0 c.self.invariant.1 c.self.invariant.2 (λ j m within l. c.loop-k.invariant j m within (omega arith)))
