-- Live registers, and what a step reads.
use Rattle.std.proofs.Common.{arith, ◌≡◌, ◌≢◌, ◌⊎◌, ℕ, zero, suc, ◌+◌, ◌<◌, ◌≤◌, None, refl, subst, ◌∙◌, ⊎_elim, inl, inr, List, [], ◌∷◌, length, slice_index, Some}
use Rattle.std.specs.Prelude.{Contains, IfSome, Option, slice_get}
use Rattle.std.specs.List.{AllByRecursion}
use Rattle.std.proofs.lemmas.Bool.{cases_lt}
use Rattle.script_text.specs.declared.script.Op.{Op}
use Rattle.script_text.specs.declared.script.Step.{Step}
use Rattle.script_text.specs.Scripts.{Script, operands_of, plain_operand_of}
use Rattle.script_text.specs.Evaluating.{IsWithin}
use Rattle.script_run.specs.Registers.{IsPlan, Live, input_count}
use Rattle.script_run.specs.Steps.{OnOperands, OnPlain}

-- what holds of all elements of a list, and of each
all_of : {P : ℕ → Type 0} (xs : List ℕ) → ((x : ℕ) → Contains xs x → P x) → AllByRecursion P xs
all_of [] each = tt
all_of (x ∷ xs) each = (each x (0, omega arith, refl), all_of xs (λ y (i, below, is). each y (suc i, omega (arith, below), is)))

pub one_of : (P : ℕ → Type 0) (xs : List ℕ) (x : ℕ) → AllByRecursion P xs → Contains xs x → P x
one_of P [] x all (i, below, is) = absurd (omega (arith, below))
one_of P (y ∷ xs) x all (zero, below, is) = subst P is all.0
one_of P (y ∷ xs) x all (suc i, below, is) = one_of P xs x all.1 (i, omega (arith, below), is)

pub all_weaker : {P Q : ℕ → Type 0} (xs : List ℕ) → ((x : ℕ) → P x → Q x) → AllByRecursion P xs → AllByRecursion Q xs
all_weaker [] weaker all = tt
all_weaker {P} {Q} (x ∷ xs) weaker all = (weaker x all.0, all_weaker {P = P} {Q = Q} xs weaker all.1)

pub some_weaker : {P Q : ℕ → Type 0} (found : Option ℕ) → ((x : ℕ) → P x → Q x) → IfSome found P → IfSome found Q
some_weaker None weaker some = tt
some_weaker (Some x) weaker some = weaker x some

-- a fact of each register that an operation reads is one of its operands
pub on_reads : (op : Op) (P : ℕ → Type 0) → ((r : ℕ) → Contains (operands_of op) r → P r) → OnOperands op P
on_reads op P each = all_of {P = P} (operands_of op) each

-- the same among more plain inputs and registers
pub within_more : (t plains registers more others : ℕ) (op : Op) → plains ≤ more → registers ≤ others → IsWithin t plains registers op → IsWithin t more others op
within_more t plains registers more others op p r within = (
  all_weaker {P = λ x. x < registers} {Q = λ x. x < others} (operands_of op) (λ x below. omega (arith, below, r)) within.0,
  some_weaker {P = λ x. x < plains} {Q = λ x. x < more} (plain_operand_of op) (λ x below. omega (arith, below, p)) within.1,
  within.2,
)

-- a fact of each plain input is one of that which an operation reads
pub on_plain : (t plains registers : ℕ) (op : Op) (P : ℕ → Type 0) → IsWithin t plains registers op → ((p : ℕ) → p < plains → P p) → OnPlain op P
on_plain t plains registers op P within each = some_weaker {P = λ x. x < plains} {Q = P} (plain_operand_of op) each within.1

-- what a step reads is live before it
pub operand_live : (script : Script) (i : ℕ) (op : Op) (step : Step) (t plains r : ℕ) → slice_get script.steps i ≡ Some step → op ≡ step.op
    → IsWithin t plains (input_count script + i) op → Contains (operands_of op) r → Live script i r
operand_live script i op step t plains r is same within reads = record {
  defined = one_of (λ x. x < input_count script + i) (operands_of op) r within.0 reads;
  needed = inr (inr (i, step, omega arith, is, subst (λ (o : Op). Contains (operands_of o) r) same reads));
}

-- a register that is live after a step was live before, or is the step's result
pub live_before : (script : Script) (i r : ℕ) → Live script (suc i) r → Live script i r ⊎ (r ≡ input_count script + i)
live_before script i r live = ⊎_elim
    (λ before. inl (record {
      defined = before;
      needed = ⊎_elim (λ start. absurd (omega (arith, start))) (λ later. inr (⊎_elim (λ output. inl output) (λ (j, step, from, is, reads). inr (j, step, omega (arith, from), is, reads)) later)) live.needed;
    }))
    (λ not_before. let defined = live.defined in inr (omega (arith, defined, not_before)))
    (cases_lt r (input_count script + i))

-- the output is live in the end
pub output_live : (script : Script) (i r : ℕ) → script.output < input_count script + length script.steps → length script.steps ≤ i → r ≡ script.output → Live script i r
output_live script i r below ended is = record { defined = omega arith; needed = inr (inl is) }

-- the places of a step's operands
pub operands_there : (script : Script) (plan : List ℕ) (count i : ℕ) (op : Op) (step : Step) (t plains out : ℕ) → IsPlan script plan count → i < length script.steps
    → slice_get script.steps i ≡ Some step → op ≡ step.op → IsWithin t plains (input_count script + i) op → out ≡ slice_index plan (input_count script + i)
    → OnOperands op (λ r. (slice_index plan r < count) × (slice_index plan r ≢ out))
operands_there script plan count i op step t plains out planned below is same within place = on_reads op _ (λ r reads.
    let live = operand_live script i op step t plains r is same within reads in
    let defined = live.defined in
    let size = planned.size in
    (planned.within r (omega arith), λ equal. planned.result i r below live (equal ∙ place)))

-- the step at a place
pub step_found : (steps : List Step) (i : ℕ) (op : Op) → i < length steps → IfSome (slice_get steps i) (λ step. op ≡ step.op) → (step : Step) × (slice_get steps i ≡ Some step) × (op ≡ step.op)
step_found [] i op below is = absurd (omega arith)
step_found (first ∷ steps) zero op below is = (first, refl, is)
step_found (first ∷ steps) (suc i) op below is = step_found steps i op (omega arith) is
