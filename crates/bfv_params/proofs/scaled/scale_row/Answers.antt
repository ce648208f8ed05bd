use Rattle.std.proofs.Common.{◌≡◌, ℕ, ◌*◌, ◌+◌, ◌/◌, ◌%◌, ◌<◌, arith, sym, subst, ◌∙◌, ap, slice_index}
use Rattle.std.specs.Int.{IsGcd}
use Rattle.std.proofs.lemmas.List.{length-set}
use Rattle.ring_law.specs.Moduli.{product}
use Rattle.bfv_model.specs.Plaintexts.{scaled_plain}
use Rattle.bfv_params.proofs.ScaledPlaintexts.{product_multiple, scaled_is, word_written}
use Rattle.bfv_params.proofs.scaled.scale_row.Goals as goal

pub quotient_word-requires : goal.quotient_word-requires
quotient_word-requires g c = subst (λ m. IsGcd c.args.t.now m 1) (sym c.modulus-modulus.ensures) c.requires.coprime

pub loop-k-preserved : goal.loop-k-preserved
loop-k-preserved g c =
    let q : ℕ = product c.args.base.now in
    let t : ℕ = c.args.t.now in
    let M : ℕ = c.modulus-modulus.result.now in
    let M_is : M ≡ slice_index c.args.base.now c.args.i = c.modulus-modulus.ensures in
    let m : ℕ = slice_index c.args.plain.now c.loop-k.k in
    let multiple : q % M ≡ 0 = rw M_is (product_multiple c.args.base.now c.args.i c.requires.place) in
    let positive : 0 < t = omega (arith, c.value.ensures.modulus.from_three, c.value.ensures.value) in
    let quotient : c.factor-quotient.result.w ≡ q / t % M = c.factor-quotient.ensures.w ∙ c.quotient_word.ensures.value q multiple c.product_mod-rest.ensures.value in
    let Word : ℕ → ℕ → Type 0 = λ rest divisor. c.scaled_word.result ≡ (c.factor-quotient.result.w * m + (rest * m + divisor / 2) / divisor) % M in
    let word : Word (q % t) t = subst (λ rest. Word rest t) c.product_mod-rest.ensures.value (subst (Word c.product_mod-rest.result) c.value.ensures.value c.scaled_word.ensures) in
    let scaled : c.scaled_word.result ≡ scaled_plain q t m % M = scaled_is q t M m c.factor-quotient.result.w c.scaled_word.result positive quotient word in
    record {
      words = length-set c.loop-k.out c.loop-k.k c.scaled_word.result ∙ c.loop-k.invariant.words;
      scaled = word_written (λ j. scaled_plain q t (slice_index c.args.plain.now j) % slice_index c.args.base.now c.args.i) c.loop-k.out c.loop-k.k c.scaled_word.result
          (omega (arith, c.loop-k.invariant.words, c.loop-k-test.true)) c.loop-k.invariant.scaled (scaled ∙ ap (λ (x : ℕ). scaled_plain q t m % x) M_is);
    }
