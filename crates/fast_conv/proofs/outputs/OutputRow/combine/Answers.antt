use Rattle.std.proofs.Common.{◌≡◌, ◌∙◌, ap, subst, length, slice_index, pos, ◌+ℤ◌, ◌*ℤ◌}
use Rattle.ring_law.specs.Sums.{sum_below}
use Rattle.ring_law.specs.Residues.{residue}
use Rattle.fast_conv.specs.Rows.{Output, combination}
use Rattle.fast_conv.proofs.outputs.OutputRow.combine.Goals as goal

pub returns : goal.returns
unfolding combination
returns c =
    let Word : Output → Type 0 = λ r. c.reduce_wide.result ≡ residue r.modulus (combination r (slice_index c.args.words.now) c.args.last) in
    let sum : pos c.sum_of_products-sum.result ≡ sum_below (length c.self.inside.factors.items) (λ i. pos (slice_index c.args.words.now i) *ℤ pos (slice_index c.self.inside.factors.items i)) =
    rw c.deref.ensures.value at c.sum_of_products-sum.ensures.value in
    subst Word c.self.view_is
    (c.reduce_wide.ensures.value ∙ ap (λ z. residue c.self.inside.modulus (z +ℤ pos c.args.last *ℤ pos c.self.inside.last_factor +ℤ pos c.self.inside.added)) sum)
