use Rattle.std.proofs.Common.{◌≡◌, ℕ, suc, ◌+◌, ◌*◌, ◌^◌, ◌<◌, ◌≤◌, ◌∙◌, arith, ap, sym, refl, slice_index, List, pos, ◌+ℤ◌, ◌*ℤ◌}
use Rattle.std.proofs.lemmas.Nat.{mul-lt}
use Rattle.ring_law.specs.Sums.{sum_below}
use Rattle.ring_law.proofs.Sums.{sum_below-suc}
use Rattle.fast_conv.proofs.outputs.sum_of_products.Goals as goal

-- one product more
one_more : (sum i : ℕ) (words factors : List ℕ) → pos sum ≡ sum_below i (λ i. pos (slice_index words i) *ℤ pos (slice_index factors i))
    → pos (sum + slice_index words i * slice_index factors i) ≡ sum_below (i + 1) (λ i. pos (slice_index words i) *ℤ pos (slice_index factors i))
one_more sum i words factors so_far =
    ap (λ z. z +ℤ pos (slice_index words i) *ℤ pos (slice_index factors i)) so_far
    ∙ sym (sum_below-suc i (λ i. pos (slice_index words i) *ℤ pos (slice_index factors i)))
    ∙ ap (λ n. sum_below n (λ i. pos (slice_index words i) *ℤ pos (slice_index factors i))) (more i)
  where
    more : (i : ℕ) → suc i ≡ i + 1
    more i = omega arith

bounded : (sum i w f : ℕ) → sum ≤ i * 2 ^ 122 → w < 2 ^ 61 → f < 2 ^ 61 → sum + w * f ≤ (i + 1) * 2 ^ 122
bounded sum i w f so_far small_w small_f = let l : w * f < 2 ^ 61 * 2 ^ 61 = mul-lt w f (2 ^ 61) (2 ^ 61) small_w small_f in omega arith

pub loop-i-init : goal.loop-i-init
unfolding sum_below
loop-i-init c = record { value = refl; below = omega arith }

pub loop-i-preserved : goal.loop-i-preserved
loop-i-preserved c = record {
  value = one_more c.loop-i.sum c.loop-i.i c.args.words.now c.args.factors.now c.loop-i.invariant.value;
  below = bounded c.loop-i.sum c.loop-i.i (slice_index c.args.words.now c.loop-i.i) (slice_index c.args.factors.now c.loop-i.i) c.loop-i.invariant.below
      (c.requires.words_below c.loop-i.i c.loop-i-test.true) (c.requires.factors_below c.loop-i.i 0 c.loop-i-test.true);
}
