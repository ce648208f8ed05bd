use Rattle.std.proofs.Common.{ℕ, arith, length, pos, ℤ, subst}
use Rattle.ring_law.specs.Moduli.{product}
use Rattle.ring_law.specs.Rows.{Represents}
use Rattle.fast_conv.specs.Converters.{AreFastConversions, Conversion}
use Rattle.fast_conv.specs.Rows.{input_moduli, output_moduli}
use Rattle.fast_conv.proofs.Columns.{columns_more}
use Rattle.fast_conv.proofs.Conversions.{rows_convert}
use Rattle.fast_conv.proofs.convert.FastConv.convert.Goals as goal

pub loop-k-preserved : goal.loop-k-preserved
loop-k-preserved g c =
    columns_more c.self.inside.inputs.items c.self.inside.outputs.items (output_moduli c.self.inside.outputs.items) 1 (pos 1) (pos 0) (pos 0) c.args.from.now c.loop-k.to c.set_column.new.to
    c.set_words.new.words (λ j m. 0) c.loop-k.k c.self.invariant.1 (rw c.deref.ensures.value at c.set_words.ensures.value) (rw c.deref-in-loop-k.ensures.value at c.set_column.ensures.set) c.set_column.ensures.rest
    c.loop-k.invariant

pub returns : goal.returns
returns g c =
    let Converts : Conversion → Type 0 = λ v. (x : ℕ → ℤ) → Represents g.row.N v.from c.args.from.now x
    → (y : ℕ → ℤ) × AreFastConversions g.row.N (product v.from) (length v.from) x y × Represents g.row.N v.to c.loop-k.to y in
    subst Converts c.self.view_is
    (rows_convert g.row.N (input_moduli c.self.inside.inputs.items) (output_moduli c.self.inside.outputs.items) c.self.inside.inputs.items c.self.inside.outputs.items c.args.from.now c.loop-k.to
    c.self.invariant.0 c.self.invariant.1 (λ j m within l. c.loop-k.invariant j m within (omega arith)))
