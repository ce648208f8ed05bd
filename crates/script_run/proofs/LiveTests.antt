-- The test of live registers.
use Rattle.std.proofs.Common.{arith, ◌≡◌, ◌⊎◌, ◌==◌, ℕ, zero, suc, ◌+◌, ◌≤◌, Bool, true, false, ◌||◌, nat_lt, refl, sym, ap, ◌∙◌, ⊎_elim, inl, inr, List, [], ◌∷◌, drop, Some}
use Rattle.std.specs.Prelude.{◌↔◌, Contains, IsTrue, slice_get}
use Rattle.std.specs.List.{list_any}
use Rattle.std.proofs.lemmas.Bool.{and_parts, and_from}
use Rattle.std.proofs.lemmas.Bool.Decides.{nat_tests}
use Rattle.script_text.specs.declared.script.Step.{Step}
use Rattle.script_text.specs.Scripts.{Script, operands_of}
use Rattle.script_run.specs.Registers.{Live, input_count, is_live, is_read_from}

same_from : (x y : ℕ) → (x == y) ≡ true → x ≡ y
same_from x y test = grind (arith, nat_tests)

same_test : (x y : ℕ) → x ≡ y → (x == y) ≡ true
same_test x y is = grind (arith, nat_tests)

-- one of two tests that hold together or alone
either : (a b : Bool) → a || b ≡ true → (a ≡ true) ⊎ (b ≡ true)
either true b test = inl refl
either false b test = inr test

first_holds : (a b : Bool) → a ≡ true → a || b ≡ true
first_holds a b is = rw is refl

second_holds : (a b : Bool) → b ≡ true → a || b ≡ true
second_holds true b is = refl
second_holds false b is = is

-- a number that is among others
among : (r : ℕ) (xs : List ℕ) → list_any (λ x. r == x) xs ≡ true → Contains xs r
among r [] test = absurd cc
among r (x ∷ xs) test = ⊎_elim
    (λ here. (0, omega arith, sym (same_from r x here)))
    (λ later. let (k, below, is) = among r xs later in (suc k, omega (arith, below), is))
    (either (r == x) (list_any (λ y. r == y) xs) test)

found : (r : ℕ) (xs : List ℕ) → Contains xs r → list_any (λ x. r == x) xs ≡ true
found r [] (k, below, is) = absurd (omega (arith, below))
found r (x ∷ xs) (zero, below, is) = first_holds (r == x) (list_any (λ y. r == y) xs) (same_test r x (sym is))
found r (x ∷ xs) (suc k, below, is) = second_holds (r == x) (list_any (λ y. r == y) xs) (found r xs (k, omega (arith, below), is))

-- the test of one step
abbrev reads : ℕ → Step → Bool
reads r step = list_any (λ operand. r == operand) (operands_of step.op)

-- a step from place i on that reads the register
abbrev Reading : ℕ → List Step → ℕ → Type 0
Reading r steps i = (j : ℕ) × (step : Step) × (i ≤ j) × (slice_get steps j ≡ Some step) × Contains (operands_of step.op) r

reading : (r : ℕ) (steps : List Step) (i : ℕ) → list_any (reads r) (drop i steps) ≡ true → Reading r steps i
reading r [] zero test = absurd cc
reading r [] (suc i) test = absurd cc
reading r (step ∷ steps) zero test = ⊎_elim
    (λ here. (0, step, omega arith, refl, among r (operands_of step.op) here))
    (λ later. let (j, other, from, is, read) = reading r steps zero later in (suc j, other, omega arith, is, read))
    (either (reads r step) (list_any (reads r) steps) test)
reading r (step ∷ steps) (suc i) test =
    let (j, other, from, is, read) = reading r steps i test in
    (suc j, other, omega (arith, from), is, read)

tested : (r : ℕ) (steps : List Step) (i j : ℕ) (step : Step) → i ≤ j → slice_get steps j ≡ Some step → Contains (operands_of step.op) r → list_any (reads r) (drop i steps) ≡ true
tested r [] i j step from is read = absurd cc
tested r (first ∷ steps) zero zero step from is read =
    let same : first ≡ step = cc in
    first_holds (reads r first) (list_any (reads r) steps) (ap (reads r) same ∙ found r (operands_of step.op) read)
tested r (first ∷ steps) zero (suc j) step from is read =
    second_holds (reads r first) (list_any (reads r) steps) (tested r steps zero j step (omega arith) is read)
tested r (first ∷ steps) (suc i) zero step from is read = absurd (omega (arith, from))
tested r (first ∷ steps) (suc i) (suc j) step from is read = tested r steps i j step (omega (arith, from)) is read

live_from : (script : Script) (i r : ℕ) → is_live script i r ≡ true → Live script i r
live_from script i r test =
    let both = and_parts (nat_lt r (input_count script + i)) ((i == 0) || ((r == script.output) || is_read_from script i r)) test in
    record {
      defined = grind (arith, nat_tests, both.0);
      needed = ⊎_elim
          (λ start. inl (same_from i 0 start))
          (λ later. inr (⊎_elim (λ output. inl (same_from r script.output output)) (λ read. inr (reading r script.steps i read)) (either (r == script.output) (is_read_from script i r) later)))
          (either (i == 0) ((r == script.output) || is_read_from script i r) both.1);
    }

live_test : (script : Script) (i r : ℕ) → Live script i r → is_live script i r ≡ true
live_test script i r live =
    let defined = live.defined in
    and_from (nat_lt r (input_count script + i)) ((i == 0) || ((r == script.output) || is_read_from script i r)) (grind (arith, nat_tests, defined))
    (⊎_elim
    (λ start. first_holds (i == 0) ((r == script.output) || is_read_from script i r) (same_test i 0 start))
    (λ later. second_holds (i == 0) ((r == script.output) || is_read_from script i r)
    (⊎_elim
    (λ output. first_holds (r == script.output) (is_read_from script i r) (same_test r script.output output))
    (λ (j, step, from, is, read). second_holds (r == script.output) (is_read_from script i r) (tested r script.steps i j step from is read))
    later))
    live.needed)

pub tested_live : (script : Script) (i r : ℕ) → IsTrue (is_live script i r) ↔ Live script i r
tested_live script i r = (live_from script i r, live_test script i r)
