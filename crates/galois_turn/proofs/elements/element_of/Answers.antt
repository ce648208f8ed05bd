use Rattle.std.proofs.Common.{◌≡◌, ℕ, suc, ◌+◌, ◌*◌, ◌%◌, ◌^◌, ◌<◌, ◌∙◌, sym, ap, arith, mod-lt}
use Rattle.std.proofs.Math.Nat.{dvd-mul_right, mod-mod_of_dvd, pow-suc}
use Rattle.std.proofs.lemmas.Nat.{mul-mod_second}
use Rattle.galois_turn.proofs.StepElements.{power_apart_from_one}
use Rattle.galois_turn.proofs.elements.element_of.Goals as goal

pub loop-i-preserved : goal.loop-i-preserved
loop-i-preserved c =
    let order : ℕ = 2 * c.args.n in
    let positive : 0 < order = omega arith in record {
      value = ap (λ e. 3 * e % order) c.loop-i.invariant.value ∙ mul-mod_second 3 (3 ^ c.loop-i.i) order ∙ ap (λ p. p % order) (three 3 c.loop-i.i);
      odd = mod-mod_of_dvd 2 (3 * c.loop-i.element) (dvd-mul_right 2 c.args.n) ∙ odd_thrice c.loop-i.element c.loop-i.invariant.odd;
      below = mod-lt (3 * c.loop-i.element) positive;
    }
  where
    three : (x i : ℕ) → x * x ^ i ≡ x ^ (i + 1)
    three x i = flip x (x ^ i) ∙ sym (pow-suc x i) ∙ ap (λ e. x ^ e) (more i)
      where
        flip : (a b : ℕ) → a * b ≡ b * a
        flip a b = omega arith

        more : (i : ℕ) → suc i ≡ i + 1
        more i = omega arith

    odd_thrice : (e : ℕ) → e % 2 ≡ 1 → 3 * e % 2 ≡ 1
    odd_thrice e odd = omega arith

pub returns-clause-element : goal.returns-clause-element
returns-clause-element c =
    let all : c.loop-i.i ≡ c.args.step = omega arith in
    let value : c.loop-i.element ≡ 3 ^ c.args.step % (2 * c.args.n) = c.loop-i.invariant.value ∙ ap (λ i. 3 ^ i % (2 * c.args.n)) all in
    let apart = λ (is_one : c.loop-i.element ≡ 1). power_apart_from_one c.args.n c.args.step c.requires.degree c.requires.some c.requires.below (sym value ∙ is_one) in
    let odd = c.loop-i.invariant.odd in
    (odd, above c.loop-i.element odd apart, c.loop-i.invariant.below)
  where
    above : (e : ℕ) → e % 2 ≡ 1 → (e ≡ 1 → ⊥) → 1 < e
    above e odd apart = omega arith
