-- One step of a run.
use Rattle.std.specs.Prelude.{◌≡◌, ◌≢◌, ℕ, ◌+◌, ◌-◌, ◌<◌, ℤ, List, [], length, slice_index, slice_index_or, nat_lt, if◌then◌else◌, IfSome}
use Rattle.std.specs.List.{AllByRecursion}
use Rattle.set_table.specs.Sets.{plain_of, degree_of}
use Rattle.script_text.specs.declared.script.Op.{Op}
use Rattle.script_text.specs.declared.script.Shape.{Shape}
use Rattle.script_text.specs.Scripts.{operands_of, parts_taken, shape_at, shape_made, plain_operand_of}
use Rattle.script_text.specs.Value.{value_made}
use Rattle.noise_check.specs.ExactBounds.{exact_bound}
use Rattle.bfv_params.specs.Values.{CipherValue, ContextValue}
use Rattle.bfv_params.specs.Ciphers.{IsCipherOf}
use Rattle.script_run.specs.Places.{cipher_at}
use Rattle.key_switch.specs.Providers.{Digits}
use Rattle.script_run.specs.Runs.{Carries}
use Rattle.script_run.specs.Premises.{StepPremise}

-- P holds of each register that the operation reads
abbrev pub OnOperands : Op → (ℕ → Type 0) → Type 0
OnOperands op P = AllByRecursion P (operands_of op)

-- P holds of the plain input that the operation reads, if it reads one
abbrev pub OnPlain : Op → (ℕ → Type 0) → Type 0
OnPlain op P = IfSome (plain_operand_of op) P

-- each operand, which is given by its register, has the parts that the operation takes
abbrev pub HaveTakenParts : Op → (ℕ → CipherValue) → Type 0
HaveTakenParts op operand = IfSome (parts_taken op) (λ n. OnOperands op (λ r. (operand r).parts ≡ n))

-- what an operation's result carries, if each operand, which is given by its register, carries these values within this bound and
-- what the operation asks is so
abbrev pub ResultCarries : ℕ → ContextValue → (Digits → Type 0) → Op → List (List ℕ) → (ℕ → CipherValue) → CipherValue → Type 0
ResultCarries n ctx told op plains operand result =
    (s : ℕ → ℤ) (lists values : List (List ℕ)) (bounds : List ℕ)
    → StepPremise n ctx told s bounds op
    → OnPlain op (λ p. slice_index_or plains p [] ≡ slice_index_or lists p [])
    → OnOperands op (λ r. Carries n ctx s (operand r) (slice_index_or values r []) (slice_index bounds r))
    → Carries n ctx s result (value_made (degree_of ctx.set) (plain_of ctx.set) lists values op) (exact_bound ctx.set bounds op)

-- how many parts it has, if the operands have so many
abbrev pub ResultHasParts : Op → (ℕ → CipherValue) → CipherValue → Type 0
ResultHasParts op operand result =
    (shapes : List Shape) → OnOperands op (λ r. (operand r).parts ≡ (shape_at shapes r).parts) → result.parts ≡ (shape_made shapes op).parts

-- A step was done: nothing but the result's place changed, which has the operation's result.
pub record StepDone (n : ℕ) (ctx : ContextValue) (told : Digits → Type 0) (op : Op) (plan : List ℕ) (plains : List (List ℕ)) (out : ℕ) (old new : List CipherValue) : Type 0 where
  pub size : length new ≡ length old
  pub others : (p : ℕ) → p ≢ out → cipher_at new p ≡ cipher_at old p
  pub of_context : IsCipherOf ctx (cipher_at new out)
  pub room : (cipher_at new out).room ≡ (cipher_at old out).room
  pub parts : ResultHasParts op (λ r. cipher_at old (slice_index plan r)) (cipher_at new out)
  pub carries : ResultCarries n ctx told op plains (λ r. cipher_at old (slice_index plan r)) (cipher_at new out)

-- the cipher at a place of a list that is split before and after one place
abbrev pub other_at : List CipherValue → List CipherValue → ℕ → CipherValue
other_at front back p = if nat_lt p (length front) then cipher_at front p else cipher_at back (p - (length front + 1))

-- a place of such a list
pub record IsOther (front back : List CipherValue) (p : ℕ) : Type 0 where
  pub apart : p ≢ length front
  pub inside : p < length front + 1 + length back
