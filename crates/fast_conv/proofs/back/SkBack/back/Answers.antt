use Rattle.std.proofs.Common.{◌≡◌, ℕ, ◌-◌, ◌*◌, ◌/◌, ◌∙◌, ap, sym, arith, length, pos, neg_ℤ, ◌*ℤ◌, ℤ, subst, List, [], ◌∷◌, ◌++◌}
use Rattle.ring_law.specs.Moduli.{product}
use Rattle.ring_law.specs.Polynomials.{AllWithin}
use Rattle.ring_law.specs.Residues.{residue}
use Rattle.ring_law.specs.Rows.{Represents, word_at}
use Rattle.fast_conv.specs.Converters.{ExactConversion}
use Rattle.fast_conv.specs.Rows.{Input, input_moduli, output_moduli}
use Rattle.fast_conv.proofs.Columns.{columns_more, combination_of}
use Rattle.fast_conv.proofs.ExactRows.{overflow_word, rows_back}
use Rattle.fast_conv.proofs.back.SkBack.back.Goals as goal

pub loop-k-preserved : goal.loop-k-preserved
loop-k-preserved g c =
    let inputs : List Input = c.self.inside.inputs.items in
    let qs : List ℕ = input_moduli inputs in
    let half : ℕ = (c.self.inside.overflow.modulus - 1) / 2 in
    let count : c.self.inside.inputs.len ≡ length inputs = sym c.deref.ensures.len ∙ ap length c.deref.ensures.value in
    let last : c.combine-overflow.result ≡ overflow_word inputs c.self.inside.overflow c.args.from.now c.loop-k.k =
    rw (c.len.ensures, count) at c.combine-overflow.ensures
    ∙ ap (residue c.self.inside.overflow.modulus)
    (combination_of inputs c.args.from.now c.set_words.new.words c.loop-k.k (word_at c.args.from.now (length inputs) c.loop-k.k) c.self.inside.overflow (rw c.deref.ensures.value at c.set_words.ensures.value) c.self.invariant.told.count) in
    columns_more inputs c.self.inside.outputs.items (output_moduli c.self.inside.outputs.items) 1 (pos 1) (neg_ℤ (pos (product qs))) (pos (product qs) *ℤ pos half)
    c.args.from.now c.loop-k.to c.set_column.new.to c.set_words.new.words (λ j m. overflow_word inputs c.self.inside.overflow c.args.from.now m) c.loop-k.k
    c.self.invariant.written (rw c.deref.ensures.value at c.set_words.ensures.value) (rw (c.deref-in-loop-k.ensures.value, last) at c.set_column.ensures.set) c.set_column.ensures.rest
    c.loop-k.invariant

pub returns : goal.returns
returns g c =
    let Back : ExactConversion → Type 0 = λ v. (x : ℕ → ℤ) → AllWithin g.row.N (product v.base * (v.sk / 4)) x → Represents g.row.N (v.base ++ v.sk ∷ []) c.args.from.now x
    → Represents g.row.N v.to c.loop-k.to x in
    subst Back c.self.view_is
    (rows_back g.row.N (input_moduli c.self.inside.inputs.items) (output_moduli c.self.inside.outputs.items) c.self.inside.inputs.items c.self.inside.overflow c.self.inside.outputs.items
    c.args.from.now c.loop-k.to c.self.invariant (λ j m within l. c.loop-k.invariant j m within (omega arith)))
