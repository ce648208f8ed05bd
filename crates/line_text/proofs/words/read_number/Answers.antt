use Rattle.std.proofs.Common.{◌≡◌, ℕ, ◌+◌, ◌*◌, ◌-◌, min, List, take, get_or, sym, ap, ◌∙◌, arith}
use Rattle.std.proofs.lemmas.List.{take_all}
use Rattle.std.proofs.lemmas.List.Sums.{fold_more}
use Rattle.std.specs.Io.Iter.{u64_saturate}
use Rattle.line_text.specs.Names.{written_number}
use Rattle.line_text.proofs.words.read_number.Goals as goal

-- numbers cut down at every step are the whole number cut down once
cut_down : (whole units most number tenfold next : ℕ) → number ≡ min whole most → tenfold ≡ min (number * 10) most → next ≡ min (tenfold + units) most → next ≡ min (10 * whole + units) most
cut_down whole units most number tenfold next is_number is_tenfold is_next = omega arith

pub loop-digit-preserved : goal.loop-digit-preserved
loop-digit-preserved c =
    let more : written_number (take (c.loop-digit.digit-index + 1) c.args.digits.now) ≡ 10 * written_number (take c.loop-digit.digit-index c.args.digits.now) + (get_or c.args.digits.now c.loop-digit.digit-index 0 - 48)
    = fold_more (λ so_far digit. 10 * so_far + (digit - 48)) 0 c.args.digits.now c.loop-digit.digit-index 0 c.loop-digit-test.true in
    let units : c.from-units.result ≡ get_or c.args.digits.now c.loop-digit.digit-index 0 - 48 = c.from-units.ensures ∙ c.saturating_sub.ensures in
    cut_down (written_number (take c.loop-digit.digit-index c.args.digits.now)) c.from-units.result 18446744073709551615 _ _ _ c.loop-digit.invariant c.saturating_mul.ensures c.saturating_add-number.ensures
    ∙ ap (λ (u : ℕ). min (10 * written_number (take c.loop-digit.digit-index c.args.digits.now) + u) 18446744073709551615) units
    ∙ ap (λ (n : ℕ). min n 18446744073709551615) (sym more)

pub returns : goal.returns
returns c = c.loop-digit.invariant ∙ ap (λ (digits : List ℕ). u64_saturate (written_number digits)) (take_all c.loop-digit.digit-index c.args.digits.now c.loop-digit-test.false)
