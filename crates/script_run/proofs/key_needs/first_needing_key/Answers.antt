use Rattle.std.proofs.Common.{rules, arith, ◌≡◌, ◌<◌, ℕ, true, false, ◌∙◌, subst, length, get_or, ⊎_elim}
use Rattle.std.proofs.lemmas.Bool.{cases_lt}
use Rattle.set_table.specs.Sets.{degree_of}
use Rattle.script_run.proofs.KeyNeeds.{asks, asks_read, first_is, no_step, none_is, none_needed}
use Rattle.script_run.proofs.key_needs.first_needing_key.Goals as goal

pub returns-then-needs_key-clause-first : goal.returns-then-needs_key-clause-first
returns-then-needs_key-clause-first c =
    let script = c.args.script.now in
    let below : c.loop-i.i < length script.steps = omega (arith, c.loop-i-test.true, c.steps-i-end.ensures.value) in
    let test : c.needs_key.result ≡ true = search rules in
    first_is (degree_of script.set) script.steps c.loop-i.i below c.loop-i.invariant
    (asks_read (degree_of script.set) script.steps c.loop-i.i c.step.result c.needs_key.result below c.step.ensures (c.needs_key.ensures (degree_of script.set)) ∙ test)

pub loop-i-preserved : goal.loop-i-preserved
loop-i-preserved c =
    let script = c.args.script.now in
    let below : c.loop-i.i < length script.steps = omega (arith, c.loop-i-test.true, c.steps-i-end.ensures.value) in
    let test : c.needs_key.result ≡ false = search rules in
    λ k lower. ⊎_elim (λ before. c.loop-i.invariant k before)
    (λ last. subst (λ (j : ℕ). asks (degree_of script.set) (get_or script.steps j no_step).op ≡ false) (omega (arith, lower, last))
    (asks_read (degree_of script.set) script.steps c.loop-i.i c.step.result c.needs_key.result below c.step.ensures (c.needs_key.ensures (degree_of script.set)) ∙ test))
    (cases_lt k c.loop-i.i)

pub returns-clause-first : goal.returns-clause-first
returns-clause-first c =
    let script = c.args.script.now in
    none_is (degree_of script.set) script.steps (λ k below. c.loop-i.invariant k (omega (arith, below, c.loop-i-test.false, c.steps-i-end.ensures.value)))

pub returns-clause-none : goal.returns-clause-none
returns-clause-none c =
    let script = c.args.script.now in
    λ _. none_needed (degree_of script.set) script.steps (λ k below. c.loop-i.invariant k (omega (arith, below, c.loop-i-test.false, c.steps-i-end.ensures.value)))
