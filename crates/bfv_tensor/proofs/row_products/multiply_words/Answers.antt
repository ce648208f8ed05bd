use Rattle.std.proofs.Common.{ℕ, ◌≡◌, ◌+◌, ◌*◌, ◌%◌, ◌<◌, ◌∙◌, arith, get_or, length-set}
use Rattle.bfv_tensor.proofs.WordProducts.{word_written}
use Rattle.bfv_tensor.proofs.row_products.multiply_words.Goals as goal

pub loop-k-preserved : goal.loop-k-preserved
loop-k-preserved g c =
    let kept = c.loop-k.invariant in
    let k : ℕ = c.loop-k.k in
    let m : ℕ = c.args.m.now in
    let a0 : ℕ → ℕ = λ j. get_or c.args.a.first.now j 0 in
    let a1 : ℕ → ℕ = λ j. get_or c.args.a.second.now j 0 in
    let b0 : ℕ → ℕ = λ j. get_or c.args.b.first.now j 0 in
    let b1 : ℕ → ℕ = λ j. get_or c.args.b.second.now j 0 in
    record {
      first_words = length-set _ _ _ ∙ kept.first_words;
      middle_words = length-set _ _ _ ∙ kept.middle_words;
      last_words = length-set _ _ _ ∙ kept.last_words;
      first = word_written (λ j w. w ≡ (a0 j * b0 j) % m) c.loop-k.first k c.mul.result (omega (arith, kept.first_words)) kept.first c.mul.ensures.value;
      middle = word_written (λ j w. w ≡ (a0 j * b1 j + a1 j * b0 j) % m) c.loop-k.middle k c.sum_of_two_products.result (omega (arith, kept.middle_words)) kept.middle
          c.sum_of_two_products.ensures.value;
      last = word_written (λ j w. w ≡ (a1 j * b1 j) % m) c.loop-k.last k c.mul-in-loop-k.result (omega (arith, kept.last_words)) kept.last c.mul-in-loop-k.ensures.value;
      first_reduced = word_written (λ j w. w < m) c.loop-k.first k c.mul.result (omega (arith, kept.first_words)) kept.first_reduced c.mul.ensures.below;
      middle_reduced = word_written (λ j w. w < m) c.loop-k.middle k c.sum_of_two_products.result (omega (arith, kept.middle_words)) kept.middle_reduced
          c.sum_of_two_products.ensures.below;
      last_reduced = word_written (λ j w. w < m) c.loop-k.last k c.mul-in-loop-k.result (omega (arith, kept.last_words)) kept.last_reduced c.mul-in-loop-k.ensures.below;
    }
