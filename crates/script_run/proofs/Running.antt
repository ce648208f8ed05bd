-- What the places hold while a script runs.
use Rattle.std.proofs.Common.{arith, ◌≡◌, ℕ, ℤ, suc, ◌+◌, ◌<◌, ◌≤◌, refl, sym, ap, subst, ◌∙◌, ⊎_elim, List, [], length, take, replicate, slice_index, slice_index_or, Some}
use Rattle.std.specs.Prelude.{IfSome, slice_get}
use Rattle.std.proofs.lemmas.Bool.{cases_eq}
use Rattle.std.proofs.lemmas.List.{length-replicate}
use Rattle.set_table.specs.declared.SetName.{SetName}
use Rattle.set_table.specs.Sets.{degree_of, plain_of}
use Rattle.bfv_params.specs.Values.{CipherValue, ContextValue}
use Rattle.bfv_params.specs.Ciphers.{IsCipherOf}
use Rattle.script_text.specs.declared.script.Op.{Op}
use Rattle.script_text.specs.declared.script.Step.{Step}
use Rattle.script_text.specs.declared.script.Shape.{Shape}
use Rattle.script_text.specs.Scripts.{Script, IsSound, registers, input_shape, shape_at, shape_made, is_cipher, is_plain, operands_of, parts_taken, plain_inputs}
use Rattle.script_text.specs.Value.{lists_of, value_made, value_of}
use Rattle.script_text.specs.Evaluating.{IsWithin}
use Rattle.script_text.proofs.StepsMade.{fits_at}
use Rattle.script_run.proofs.Inputs.{lists_counted}
use Rattle.noise_check.specs.ExactBounds.{exact_bound, exact_bounds}
use Rattle.script_run.specs.Registers.{IsPlan, Live, input_count}
use Rattle.script_run.specs.Places.{cipher_at}
use Rattle.key_switch.specs.Providers.{Digits}
use Rattle.script_run.specs.Runs.{Carries, InputsCarry}
use Rattle.script_run.specs.Premises.{RunPremise}
use Rattle.script_run.specs.Steps.{HaveTakenParts, OnOperands, StepDone}
use Rattle.script_run.proofs.Registers.{registers-before, registers-result, registers-end}
use Rattle.script_run.proofs.Premises.{bounds_before, step_premise}
use Rattle.script_run.proofs.Live.{live_before, on_plain, on_reads, one_of, operand_live, output_live, some_weaker}

-- what the registers before step i are to have: shapes, values and bounds
abbrev pub shapes_before : Script → ℕ → List Shape
shapes_before script i = registers shape_made (replicate (input_count script) input_shape) (take i script.steps)

abbrev pub values_before : SetName → Script → List (List ℕ) → ℕ → List (List ℕ)
values_before set script lists i =
    registers (value_made (degree_of set) (plain_of set) (lists_of is_plain script.inputs lists)) (lists_of is_cipher script.inputs lists) (take i script.steps)

-- i steps were done on the places: those of the live registers have what they are to have
pub record Ran (n : ℕ) (ctx : ContextValue) (told : Digits → Type 0) (script : Script) (plan : List ℕ) (plains : List (List ℕ)) (old : List CipherValue) (i : ℕ) (places : List CipherValue) : Type 0 where
  pub size : length places ≡ length old
  pub of_context : (p : ℕ) → p < length places → IsCipherOf ctx (cipher_at places p)
  pub rooms : (p : ℕ) → (cipher_at places p).room ≡ (cipher_at old p).room
  pub parts : (r : ℕ) → Live script i r → (cipher_at places (slice_index plan r)).parts ≡ (shape_at (shapes_before script i) r).parts
  pub carries : (s : ℕ → ℤ) (lists : List (List ℕ)) (bounds : List ℕ) → InputsCarry n ctx s script plan old plains lists bounds → RunPremise n ctx told s script bounds → (r : ℕ) → Live script i r
      → Carries n ctx s (cipher_at places (slice_index plan r)) (slice_index_or (values_before ctx.set script lists i) r []) (slice_index (bounds_before ctx.set script bounds i) r)

-- the operands of a step have the parts that it takes
pub taken_in : (n : ℕ) (ctx : ContextValue) (told : Digits → Type 0) (script : Script) (plan : List ℕ) (plains : List (List ℕ)) (old : List CipherValue) (i : ℕ) (places : List CipherValue) (op : Op) (step : Step) (t count : ℕ)
    → Ran n ctx told script plan plains old i places → IsSound script → slice_get script.steps i ≡ Some step → op ≡ step.op → IsWithin t count (input_count script + i) op
    → HaveTakenParts op (λ r. cipher_at places (slice_index plan r))
taken_in n ctx told script plan plains old i places op step t count ran sound is same within =
    let fits = fits_at script.set (length (plain_inputs script.inputs)) (replicate (input_count script) input_shape) script.steps i step sound.fit is in
    let taken : IfSome (parts_taken op) (λ number. OnOperands op (λ r. (shape_at (shapes_before script i) r).parts ≡ number))
    = subst (λ (o : Op). IfSome (parts_taken o) (λ number. OnOperands o (λ r. (shape_at (shapes_before script i) r).parts ≡ number))) (sym same) fits.taken in
    some_weaker (parts_taken op) (λ number shapes. on_reads op _ (λ r reads.
    ran.parts r (operand_live script i op step t count r is same within reads) ∙ one_of (λ r. (shape_at (shapes_before script i) r).parts ≡ number) (operands_of op) r shapes reads)) taken

-- one step more
module _ (n : ℕ) (ctx : ContextValue) (told : Digits → Type 0) (script : Script) (plan : List ℕ) (plains : List (List ℕ)) (old : List CipherValue) (i : ℕ) (places new : List CipherValue) (op : Op) (step : Step) (out : ℕ)
    (of_context : script.set ≡ ctx.set) (planned : IsPlan script plan (length old)) (below : i < length script.steps) (is : slice_get script.steps i ≡ Some step) (same : op ≡ step.op)
    (within : IsWithin (plain_of ctx.set) (length (plain_inputs script.inputs)) (input_count script + i) op) (place : out ≡ slice_index plan (input_count script + i))
    (done : StepDone n ctx told op plan plains out places new) (ran : Ran n ctx told script plan plains old i places) where
  before : (r : ℕ) → Live script i r → cipher_at new (slice_index plan r) ≡ cipher_at places (slice_index plan r)
  before r live = done.others (slice_index plan r) (λ equal. planned.result i r below live (equal ∙ place))

  here : (r : ℕ) → r ≡ input_count script + i → cipher_at new (slice_index plan r) ≡ cipher_at new out
  here r result = ap (cipher_at new) (ap (slice_index plan) result ∙ sym place)

  parts_next : (r : ℕ) → Live script (suc i) r → (cipher_at new (slice_index plan r)).parts ≡ (shape_at (shapes_before script (suc i)) r).parts
  parts_next r live = ⊎_elim
      (λ live_then. ap (λ (c : CipherValue). c.parts) (before r live_then) ∙ ran.parts r live_then
      ∙ sym (ap (λ (shape : Shape). shape.parts) (registers-before shape_made (replicate (input_count script) input_shape) script.steps i step below is r (record { parts = 0 }) (subst (λ (k : ℕ). r < k + i) (sym (length-replicate {A = Shape} (input_count script) input_shape)) live_then.defined))))
      (λ result. ap (λ (c : CipherValue). c.parts) (here r result)
      ∙ done.parts (shapes_before script i) (on_reads op _ (λ t reads. ran.parts t (operand_live script i op step _ _ t is same within reads)))
      ∙ ap (λ (o : Op). (shape_made (shapes_before script i) o).parts) same
      ∙ sym (ap (λ (shape : Shape). shape.parts) (registers-result shape_made (replicate (input_count script) input_shape) script.steps i step below is r (record { parts = 0 }) (result ∙ ap (λ (k : ℕ). k + i) (sym (length-replicate {A = Shape} (input_count script) input_shape))))))
      (live_before script i r live)

  carries_next : (s : ℕ → ℤ) (lists : List (List ℕ)) (bounds : List ℕ) → InputsCarry n ctx s script plan old plains lists bounds → RunPremise n ctx told s script bounds → (r : ℕ) → Live script (suc i) r
      → Carries n ctx s (cipher_at new (slice_index plan r)) (slice_index_or (values_before ctx.set script lists (suc i)) r []) (slice_index (bounds_before ctx.set script bounds (suc i)) r)
  carries_next s lists bounds carry premise r live = ⊎_elim
      (λ live_then. carried (sym (before r live_then))
      (sym (registers-before value start script.steps i step below is r [] (subst (λ (k : ℕ). r < k + i) (sym lists_count) live_then.defined)))
      (sym (registers-before bound bounds script.steps i step below is r 0 (subst (λ (k : ℕ). r < k + i) (sym carry.bounded) live_then.defined)))
      (ran.carries s lists bounds carry premise r live_then))
      (λ result. carried (sym (here r result))
      (ap (value (values_before ctx.set script lists i)) same ∙ sym (registers-result value start script.steps i step below is r [] (result ∙ ap (λ (k : ℕ). k + i) (sym lists_count))))
      (ap (bound (bounds_before ctx.set script bounds i)) same ∙ sym (registers-result bound bounds script.steps i step below is r 0 (result ∙ ap (λ (k : ℕ). k + i) (sym carry.bounded))))
      (done.carries s (lists_of is_plain script.inputs lists) (values_before ctx.set script lists i) (bounds_before ctx.set script bounds i)
      (step_premise n ctx told s script bounds i op step _ _ of_context carry.bounded premise below is same within)
      (on_plain _ _ _ op _ within carry.values)
      (on_reads op _ (λ t reads. ran.carries s lists bounds carry premise t (operand_live script i op step _ _ t is same within reads)))))
      (live_before script i r live)
    where
      value : List (List ℕ) → Op → List ℕ
      value = value_made (degree_of ctx.set) (plain_of ctx.set) (lists_of is_plain script.inputs lists)

      bound : List ℕ → Op → ℕ
      bound = exact_bound ctx.set

      start : List (List ℕ)
      start = lists_of is_cipher script.inputs lists

      lists_count : length start ≡ input_count script
      lists_count = lists_counted is_cipher script.inputs lists carry.listed

      carried : {x y : CipherValue} {v w : List ℕ} {b c : ℕ} → x ≡ y → v ≡ w → b ≡ c → Carries n ctx s x v b → Carries n ctx s y w c
      carried {x} {y} {v} {w} {b} {c} ciphers values numbers h =
          subst (λ k. Carries n ctx s y w k) numbers (subst (λ z. Carries n ctx s y z b) values (subst (λ z. Carries n ctx s z v b) ciphers h))

  pub ran_next : Ran n ctx told script plan plains old (suc i) new
  ran_next = record {
    size = done.size ∙ ran.size;
    of_context = λ p inside. ⊎_elim (λ out_is. subst (IsCipherOf ctx) (sym (ap (cipher_at new) out_is)) done.of_context)
        (λ other. subst (IsCipherOf ctx) (sym (done.others p other)) (ran.of_context p (let size = done.size in omega arith))) (cases_eq p out);
    rooms = λ p. ⊎_elim (λ out_is. ap (λ (k : ℕ). (cipher_at new k).room) out_is ∙ done.room ∙ sym (ap (λ (k : ℕ). (cipher_at places k).room) out_is) ∙ ran.rooms p)
        (λ other. ap (λ (c : CipherValue). c.room) (done.others p other) ∙ ran.rooms p) (cases_eq p out);
    parts = parts_next;
    carries = carries_next;
  }

-- after the last step the output carries the script's value
module _ (n : ℕ) (ctx : ContextValue) (told : Digits → Type 0) (script : Script) (plan : List ℕ) (plains : List (List ℕ)) (old places : List CipherValue) (i place : ℕ)
    (sound : script.output < input_count script + length script.steps) (ended : length script.steps ≤ i) (is : place ≡ slice_index plan script.output)
    (ran : Ran n ctx told script plan plains old i places) where
  live : Live script i script.output
  live = output_live script i script.output sound ended refl

  pub carries_end : script.set ≡ ctx.set → (s : ℕ → ℤ) (lists : List (List ℕ)) (bounds : List ℕ) → InputsCarry n ctx s script plan old plains lists bounds → RunPremise n ctx told s script bounds
      → Carries n ctx s (cipher_at places place) (value_of script lists) (slice_index (exact_bounds script bounds) script.output)
  unfolding exact_bounds
  carries_end same s lists bounds carry premise =
      subst (λ p. Carries n ctx s (cipher_at places p) (value_of script lists) (slice_index (registers (exact_bound script.set) bounds script.steps) script.output)) (sym is)
      (subst (λ set. Carries n ctx s (cipher_at places (slice_index plan script.output))
      (slice_index_or (registers (value_made (degree_of set) (plain_of set) (lists_of is_plain script.inputs lists)) (lists_of is_cipher script.inputs lists) script.steps) script.output [])
      (slice_index (registers (exact_bound set) bounds script.steps) script.output)) (sym same)
      (subst (λ values. Carries n ctx s (cipher_at places (slice_index plan script.output)) (slice_index_or values script.output []) (slice_index (registers (exact_bound ctx.set) bounds script.steps) script.output))
      (registers-end (value_made (degree_of ctx.set) (plain_of ctx.set) (lists_of is_plain script.inputs lists)) (lists_of is_cipher script.inputs lists) script.steps i ended)
      (subst (λ numbers. Carries n ctx s (cipher_at places (slice_index plan script.output)) (slice_index_or (values_before ctx.set script lists i) script.output []) (slice_index numbers script.output))
      (registers-end (exact_bound ctx.set) bounds script.steps i ended)
      (ran.carries s lists bounds carry premise script.output live))))
