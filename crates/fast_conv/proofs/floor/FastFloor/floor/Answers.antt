use Rattle.std.proofs.Common.{ℕ, ◌∙◌, ap, arith, length, slice_index, slice_index_or, pos, neg_ℤ, ℤ, subst}
use Rattle.ring_law.specs.Moduli.{product}
use Rattle.ring_law.specs.Residues.{residue}
use Rattle.ring_law.specs.Rows.{Represents, word_at}
use Rattle.fast_conv.specs.Converters.{AreFastFloors, ScaledConversion}
use Rattle.fast_conv.specs.Rows.{combination, input_moduli, no_output, output_moduli}
use Rattle.fast_conv.proofs.Columns.{columns_more}
use Rattle.fast_conv.proofs.FlooredRows.{rows_floor}
use Rattle.fast_conv.proofs.floor.FastFloor.floor.Goals as goal

pub loop-k-preserved : goal.loop-k-preserved
loop-k-preserved g c = record {
  done = columns_more c.self.inside.inputs.items c.self.inside.outputs.items (output_moduli c.self.inside.outputs.items) (product (input_moduli c.self.inside.inputs.items)) (neg_ℤ (pos 1)) (pos c.self.inside.factor) (pos 0)
      c.args.from.now c.loop-k.to c.replace_column.new.to c.set_words.new.words (word_at c.args.to.now) c.loop-k.k c.self.invariant.1 (rw c.deref.ensures.value at c.set_words.ensures.value)
      (λ j within. (rw c.deref-in-loop-k.ensures.value at c.replace_column.ensures.set) j within
      ∙ ap (λ w. residue (slice_index_or c.self.inside.outputs.items j no_output).modulus (combination (slice_index_or c.self.inside.outputs.items j no_output) (slice_index c.set_words.new.words) w)) (c.loop-k.invariant.rest j c.loop-k.k (omega arith)))
      c.replace_column.ensures.rest c.loop-k.invariant.done;
  rest = λ j m later. c.replace_column.ensures.rest j m (omega arith) ∙ c.loop-k.invariant.rest j m (omega arith);
}

pub returns : goal.returns
returns g c =
    let Floors : ScaledConversion → Type 0 = λ v. (d : ℕ → ℤ) → Represents g.row.N v.from c.args.from.now d → Represents g.row.N v.to c.args.to.now d
    → (e : ℕ → ℤ) × AreFastFloors g.row.N (product v.from) v.factor (length v.from) d e × Represents g.row.N v.to c.loop-k.to e in
    subst Floors c.self.view_is
    (rows_floor g.row.N (input_moduli c.self.inside.inputs.items) (output_moduli c.self.inside.outputs.items) c.self.inside.factor c.self.inside.inputs.items c.self.inside.outputs.items
    c.args.from.now c.args.to.now c.loop-k.to c.self.invariant.0 c.self.invariant.1 c.self.invariant.2 (λ j m within l. c.loop-k.invariant.done j m within (omega arith)))
