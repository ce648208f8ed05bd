use Rattle.std.proofs.Common.{◌≡◌, ℕ, ◌+◌, ◌*◌, ◌/◌, ◌%◌, ap, ◌∙◌, refl, arith}
use Rattle.word_mod.proofs.Reciprocal.{high_product_is}
use Rattle.word_mod.proofs.high_product.Goals as goal

pub returns : goal.returns
returns c =
    let a : ℕ = c.args.a in
    let b : ℕ = c.args.b in
    let w : ℕ = 0x1_0000_0000_0000_0000 in
    let split_a : a / w * w + a % w ≡ a = omega arith in
    let split_b : b / w * w + b % w ≡ b = omega arith in
    let high = high_product_is w (a / w) (a % w) (b / w) (b % w) _ _ (omega arith) refl refl in
    high
    ∙ ap (λ (x : ℕ). x * (b / w * w + b % w) / (w * w)) split_a
    ∙ ap (λ (x : ℕ). a * x / (w * w)) split_b
