-- What the results of operations carry.
use Rattle.std.proofs.Common.{◌≡◌, ℕ, ◌*◌, ◌+◌, ◌%◌, ℤ, pos, neg_ℤ, ◌-ℤ◌, ap, ap₂, ◌∙◌, List, slice_index}
use Rattle.set_table.specs.Sets.{degree_of, plain_of}
use Rattle.ring_law.specs.Sums.{values_below}
use Rattle.ring_law.specs.Residues.{residue}
use Rattle.ring_law.specs.Rows.{natural_polynomial}
use Rattle.bfv_model.specs.Slots.{slots_of}
use Rattle.bfv_model.specs.Plaintexts.{plain_sum, plain_difference, plain_negative, plain_multiple, plain_product}
use Rattle.bfv_params.specs.Values.{CipherValue, ContextValue}
use Rattle.bfv_params.specs.Ciphers.{HoldsIn}
use Rattle.script_run.specs.Runs.{Carries}
use Rattle.script_run.proofs.SlotValues.{slots-plain_sum, slots-plain_difference, slots-plain_negative, slots-plain_multiple, slots-plain_product}

-- the first operand's plaintext m has the values v
module _ (n : ℕ) (ctx : ContextValue) (out : CipherValue) (s : ℕ → ℤ) (bound : ℕ) (m : ℕ → ℕ) (v : List ℕ) (one : slots_of ctx.set (natural_polynomial m) ≡ v) where
  pub sum_carries : (other : ℕ → ℕ) (w : List ℕ) → slots_of ctx.set (natural_polynomial other) ≡ w → HoldsIn n ctx out s (plain_sum (plain_of ctx.set) m other) bound
      → Carries n ctx s out (values_below (degree_of ctx.set) (λ i. (slice_index v i + slice_index w i) % plain_of ctx.set)) bound
  sum_carries other w two holds = record {
    plaintext = plain_sum (plain_of ctx.set) m other;
    slots = slots-plain_sum ctx.set m other ∙ ap₂ (λ (x y : List ℕ). values_below (degree_of ctx.set) (λ i. (slice_index x i + slice_index y i) % plain_of ctx.set)) one two;
    holds = holds;
  }

  pub difference_carries : (other : ℕ → ℕ) (w : List ℕ) → slots_of ctx.set (natural_polynomial other) ≡ w → HoldsIn n ctx out s (plain_difference (plain_of ctx.set) m other) bound
      → Carries n ctx s out (values_below (degree_of ctx.set) (λ i. residue (plain_of ctx.set) (pos (slice_index v i) -ℤ pos (slice_index w i)))) bound
  difference_carries other w two holds = record {
    plaintext = plain_difference (plain_of ctx.set) m other;
    slots = slots-plain_difference ctx.set m other ∙ ap₂ (λ (x y : List ℕ). values_below (degree_of ctx.set) (λ i. residue (plain_of ctx.set) (pos (slice_index x i) -ℤ pos (slice_index y i)))) one two;
    holds = holds;
  }

  pub negative_carries : HoldsIn n ctx out s (plain_negative (plain_of ctx.set) m) bound
      → Carries n ctx s out (values_below (degree_of ctx.set) (λ i. residue (plain_of ctx.set) (neg_ℤ (pos (slice_index v i))))) bound
  negative_carries holds = record {
    plaintext = plain_negative (plain_of ctx.set) m;
    slots = slots-plain_negative ctx.set m ∙ ap (λ (x : List ℕ). values_below (degree_of ctx.set) (λ i. residue (plain_of ctx.set) (neg_ℤ (pos (slice_index x i))))) one;
    holds = holds;
  }

  pub multiple_carries : (k : ℕ) → HoldsIn n ctx out s (plain_multiple (plain_of ctx.set) (pos k) m) bound
      → Carries n ctx s out (values_below (degree_of ctx.set) (λ i. slice_index v i * k % plain_of ctx.set)) bound
  multiple_carries k holds = record {
    plaintext = plain_multiple (plain_of ctx.set) (pos k) m;
    slots = slots-plain_multiple ctx.set k m ∙ ap (λ (x : List ℕ). values_below (degree_of ctx.set) (λ i. slice_index x i * k % plain_of ctx.set)) one;
    holds = holds;
  }

  pub product_carries : (other : ℕ → ℕ) (w : List ℕ) → slots_of ctx.set (natural_polynomial other) ≡ w → HoldsIn n ctx out s (plain_product (degree_of ctx.set) (plain_of ctx.set) m other) bound
      → Carries n ctx s out (values_below (degree_of ctx.set) (λ i. slice_index v i * slice_index w i % plain_of ctx.set)) bound
  product_carries other w two holds = record {
    plaintext = plain_product (degree_of ctx.set) (plain_of ctx.set) m other;
    slots = slots-plain_product ctx.set m other ∙ ap₂ (λ (x y : List ℕ). values_below (degree_of ctx.set) (λ i. slice_index x i * slice_index y i % plain_of ctx.set)) one two;
    holds = holds;
  }
