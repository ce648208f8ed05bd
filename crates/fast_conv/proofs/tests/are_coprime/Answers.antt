use Rattle.std.proofs.Common.{◌≡◌, ℕ, ◌∙◌, arith, slice_index, subst}
use Rattle.std.specs.Int.{IsGcd}
use Rattle.std.proofs.lemmas.List.{get_or_default}
use borrow.Author.Count.{below_more}
use Rattle.ring_law.specs.Moduli.{product}
use Rattle.fast_conv.proofs.tests.are_coprime.Goals as goal

pub loop-p-preserved : goal.loop-p-preserved
loop-p-preserved c =
    let Coprime : ℕ → Type 0 = λ p. IsGcd (product c.args.base.now) p 1 in
    let item : c.p-item.result ≡ slice_index c.args.moduli.now c.loop-p.p-index = c.p-item.is ∙ get_or_default c.args.moduli.now c.loop-p.p-index c.p-item.result 0 (omega arith) in
    below_more (λ j. Coprime (slice_index c.args.moduli.now j)) c.loop-p.p-index c.loop-p.invariant (subst Coprime item (c.is_coprime.ensures c.if-not-is_coprime.false))

pub returns : goal.returns
returns c = λ _ j within. c.loop-p.invariant j (omega arith)
