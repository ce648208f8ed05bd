use Rattle.std.proofs.Common.{ℕ, length, slice_index, arith}
use borrow.Author.Count.{below_more}
use Rattle.word_mod.specs.Moduli.{IsModulus}
use Rattle.res_base.specs.Bases.{CoprimeFromTo}
use Rattle.res_base.proofs.Coprimality.{PairwiseCoprime-from_places, All-from_places}
use Rattle.res_base.proofs.base.first_not_coprime.Goals as goal

pub loop-i-preserved : goal.loop-i-preserved
loop-i-preserved c =
    let Coprime : ℕ → Type 0 = λ k. CoprimeFromTo c.args.moduli.now k (length c.args.moduli.now) in
    let Modulus : ℕ → Type 0 = λ k. IsModulus (slice_index c.args.moduli.now k) in
    record {
      coprime = below_more Coprime c.loop-i.i c.loop-i.invariant.coprime c.in_default.ensures.none;
      each = below_more Modulus c.loop-i.i c.loop-i.invariant.each c.first_not_coprime_to.ensures.modulus;
    }

pub returns-clause-coprime : goal.returns-clause-coprime
returns-clause-coprime c = PairwiseCoprime-from_places c.args.moduli.now (λ k within. c.loop-i.invariant.coprime k (omega arith))

pub returns-clause-each : goal.returns-clause-each
returns-clause-each c = All-from_places c.args.moduli.now (λ k within. c.loop-i.invariant.each k (omega arith))
