use Rattle.std.proofs.Common.{◌≡◌, ◌<◌, ℕ, true, ◌∙◌, arith, subst, slice_index}
use Rattle.std.proofs.lemmas.List.{get_or_default}
use borrow.Author.Count.{below_more}
use Rattle.word_mod.specs.Moduli.{IsModulus}
use Rattle.res_base.specs.Bases.{AreCoprime}
use Rattle.res_base.proofs.Coprimality.{tells_places}
use Rattle.res_base.proofs.base.first_not_coprime_to.Goals as goal

pub loop-j-preserved : goal.loop-j-preserved
loop-j-preserved c =
    let first : c.value-a.result ≡ slice_index c.args.moduli.now c.args.i =
    c.value-a.ensures.value ∙ c.index-moduli-i.is ∙ get_or_default c.args.moduli.now c.args.i c.index-moduli-i.result 0 c.requires in
    let second : c.index-moduli-j.result ≡ slice_index c.args.moduli.now c.loop-j.j =
    c.index-moduli-j.is ∙ get_or_default c.args.moduli.now c.loop-j.j c.index-moduli-j.result 0 c.loop-j-test.true in
    let tells = tells_places c.args.moduli.now c.args.i c.loop-j.j c.value-a.result c.index-moduli-j.result c.is_coprime.result first second c.is_coprime.ensures in
    let AfterFirst : ℕ → Type 0 = λ j. c.args.i < j → AreCoprime c.args.moduli.now c.args.i j in
    below_more AfterFirst c.loop-j.j c.loop-j.invariant (λ _. tells.0 c.if-not-is_coprime.false)

pub returns-then-not-is_coprime-clause-some : goal.returns-then-not-is_coprime-clause-some
returns-then-not-is_coprime-clause-some c =
    let first : c.value-a.result ≡ slice_index c.args.moduli.now c.args.i =
    c.value-a.ensures.value ∙ c.index-moduli-i.is ∙ get_or_default c.args.moduli.now c.args.i c.index-moduli-i.result 0 c.requires in
    let second : c.index-moduli-j.result ≡ slice_index c.args.moduli.now c.loop-j.j =
    c.index-moduli-j.is ∙ get_or_default c.args.moduli.now c.loop-j.j c.index-moduli-j.result 0 c.loop-j-test.true in
    let tells = tells_places c.args.moduli.now c.args.i c.loop-j.j c.value-a.result c.index-moduli-j.result c.is_coprime.result first second c.is_coprime.ensures in
    record {
      ordered = omega arith;
      in_list = c.loop-j-test.true;
      not_coprime = λ coprime. (let test : c.is_coprime.result ≡ true = tells.1 coprime in cc);
      least = c.loop-j.invariant;
    }

pub returns-clause-none : goal.returns-clause-none
returns-clause-none c = λ j within after. c.loop-j.invariant j (omega arith) after

pub returns-clause-modulus : goal.returns-clause-modulus
returns-clause-modulus c =
    subst IsModulus (c.index-moduli-i.is ∙ get_or_default c.args.moduli.now c.args.i c.index-moduli-i.result 0 c.requires) c.value-a.ensures.modulus

pub returns-then-not-is_coprime-clause-modulus : goal.returns-then-not-is_coprime-clause-modulus
returns-then-not-is_coprime-clause-modulus c =
    subst IsModulus (c.index-moduli-i.is ∙ get_or_default c.args.moduli.now c.args.i c.index-moduli-i.result 0 c.requires) c.value-a.ensures.modulus
