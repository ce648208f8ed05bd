use Rattle.std.proofs.Common.{◌≡◌, ◌+◌, ◌<◌, ℕ, zero, suc, length, true, false, refl, subst, ap, arith}
use Rattle.script_text.specs.Scripts.{keys_needed}
use Rattle.set_table.specs.Sets.{degree_of}
use Rattle.noise_check.proofs.Scripts.{needs_from, needs_from-step, needs_from-end, step_needs, read, no_step}
use Rattle.noise_check.proofs.checking.switches.Goals as goal

pub returns-then-is_switch : goal.returns-then-is_switch
returns-then-is_switch c =
    let within : c.loop-i.i < length c.args.script.now.steps = omega arith in
    let operation = read (λ step. c.step.result ≡ step.op) c.args.script.now.steps c.loop-i.i no_step within c.step.ensures in
    let needed = (c.if-is_switch.ensures (degree_of c.args.script.now.set)).0 refl in
    let some = subst (λ op. 0 < length (keys_needed (degree_of c.args.script.now.set) op)) operation needed in
    let all = step_needs c.args.script.now c.loop-i.i within in
    ((λ yes. omega arith), (λ any. refl))

pub loop-i-preserved : goal.loop-i-preserved
loop-i-preserved c =
    let within : c.loop-i.i < length c.args.script.now.steps = omega arith in
    let operation = read (λ step. c.step.result ≡ step.op) c.args.script.now.steps c.loop-i.i no_step within c.step.ensures in
    let none = no_key (length (keys_needed (degree_of c.args.script.now.set) c.step.result)) (c.if-is_switch.ensures (degree_of c.args.script.now.set)).1 in
    let same = ap (λ op. length (keys_needed (degree_of c.args.script.now.set) op)) operation in
    let next = needs_from-step c.args.script.now c.loop-i.i within in
    let before = c.loop-i.invariant in
    by (needs_from c.args.script.now c.loop-i.i) (needs_from c.args.script.now (c.loop-i.i + 1)) _ _ _ next same none before
  where
    no_key : (n : ℕ) → (0 < n → false ≡ true) → n ≡ 0
    no_key zero none = omega arith
    no_key (suc n) none = let wrong = none (omega arith) in cc

    by : (here next key own all : ℕ) → here ≡ key + next → own ≡ key → own ≡ 0 → here ≡ all → next ≡ all
    by here next key own all step same none before = omega arith

pub returns : goal.returns
returns c =
    let all = needs_from-end c.args.script.now c.loop-i.i (omega arith) in
    let same = c.loop-i.invariant in
    ((λ yes. cc), (λ any. absurd (none (needs_from c.args.script.now c.loop-i.i) _ same all any)))
  where
    none : (here all : ℕ) → here ≡ all → here ≡ 0 → 0 < all → ⊥
    none here all same end some = omega arith
