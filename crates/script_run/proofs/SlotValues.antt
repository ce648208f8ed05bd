-- The slots of the results of linear operations on plaintexts.
use Rattle.std.proofs.Common.{◌≡◌, ◌<◌, ℕ, ◌*◌, ◌+◌, ◌%◌, ℤ, pos, neg_ℤ, ◌+ℤ◌, ◌-ℤ◌, ◌*ℤ◌, sym, ap, ap₂, ◌∙◌, lit<, slice_index}
use Rattle.std.proofs.Math.Nat.{mul_comm}
use Rattle.set_table.specs.declared.SetName.{SetName}
use Rattle.set_table.specs.declared.SetName.TheVariants.{One16, Toy16, S4096, S8192, S16384}
use Rattle.set_table.specs.Sets.{degree_of, plain_of}
use Rattle.set_table.specs.Roots.{plain_root_of}
use Rattle.ring_law.specs.Sums.{values_below}
use Rattle.ring_law.specs.Residues.{residue}
use Rattle.ring_law.specs.Rows.{natural_polynomial}
use Rattle.ring_law.specs.Polynomials.{ring_sum, ring_negative, ring_product}
use Rattle.ring_law.specs.Transform.{evaluation}
use Rattle.ring_law.proofs.Congruence.{Congruent-add, Congruent-mul, Congruent-neg, Congruent-refl, Congruent-sym}
use Rattle.ring_law.proofs.Residues.{Congruent-residue, residue-add, residue_equal}
use Rattle.ring_law.proofs.Evaluation.{evaluation_add, evaluation_neg, evaluation_scale}
use Rattle.ring_law.proofs.Values.{get_or-values_below, values_below_ext}
use Rattle.bfv_model.specs.Slots.{slot, slot_power, slots, slots_of}
use Rattle.bfv_model.specs.Plaintexts.{plain_sum, plain_difference, plain_negative, plain_multiple, plain_product}
use Rattle.bfv_model.proofs.SlotSets.{slots-congruent, slots-ring_product}

plain_of-positive : (set : SetName) → 0 < plain_of set
plain_of-positive One16 = lit< tt
plain_of-positive Toy16 = lit< tt
plain_of-positive S4096 = lit< tt
plain_of-positive S8192 = lit< tt
plain_of-positive S16384 = lit< tt

-- the value of a polynomial at slot i
abbrev value_at : SetName → ℕ → (ℕ → ℤ) → ℤ
value_at set i a = evaluation (degree_of set) (plain_root_of set) (slot_power (degree_of set) i) a

slot_is : (set : SetName) (a : ℕ → ℤ) (i : ℕ) → i < degree_of set → slice_index (slots_of set a) i ≡ residue (plain_of set) (value_at set i a)
unfolding slots slot
slot_is set a i below = get_or-values_below (degree_of set) (slot (degree_of set) (plain_of set) (plain_root_of set) a) i 0 below

-- the slots of a polynomial that was reduced modulo t
slots_are : (set : SetName) (a : ℕ → ℤ) (f : ℕ → ℕ) → ((i : ℕ) → i < degree_of set → residue (plain_of set) (value_at set i a) ≡ f i)
    → slots_of set (λ k. pos (residue (plain_of set) (a k))) ≡ values_below (degree_of set) f
unfolding slots slot
slots_are set a f each =
    slots-congruent set (λ k. pos (residue (plain_of set) (a k))) a
    (record { at = λ k below. Congruent-sym (plain_of set) (Congruent-residue (plain_of set) (a k) (plain_of-positive set)) })
    ∙ values_below_ext (degree_of set) (slot (degree_of set) (plain_of set) (plain_root_of set) a) f each

pub slots-plain_sum : (set : SetName) (m other : ℕ → ℕ)
    → slots_of set (natural_polynomial (plain_sum (plain_of set) m other))
    ≡ values_below (degree_of set) (λ i. (slice_index (slots_of set (natural_polynomial m)) i + slice_index (slots_of set (natural_polynomial other)) i) % plain_of set)
slots-plain_sum set m other = slots_are set (ring_sum (natural_polynomial m) (natural_polynomial other)) _ (λ i below.
    ap (residue t) (evaluation_add (degree_of set) (plain_root_of set) (slot_power (degree_of set) i) (natural_polynomial m) (natural_polynomial other))
    ∙ residue-add t (value_at set i (natural_polynomial m)) (value_at set i (natural_polynomial other)) (plain_of-positive set)
    ∙ ap₂ (λ v w. (v + w) % t) (sym (slot_is set (natural_polynomial m) i below)) (sym (slot_is set (natural_polynomial other) i below)))
  where
    t : ℕ
    t = plain_of set

pub slots-plain_difference : (set : SetName) (m other : ℕ → ℕ)
    → slots_of set (natural_polynomial (plain_difference (plain_of set) m other))
    ≡ values_below (degree_of set) (λ i. residue (plain_of set) (pos (slice_index (slots_of set (natural_polynomial m)) i) -ℤ pos (slice_index (slots_of set (natural_polynomial other)) i)))
slots-plain_difference set m other = slots_are set (ring_sum (natural_polynomial m) (ring_negative (natural_polynomial other))) _ (λ i below.
    ap (residue t) (evaluation_add (degree_of set) (plain_root_of set) (slot_power (degree_of set) i) (natural_polynomial m) (ring_negative (natural_polynomial other))
    ∙ ap (λ y. value_at set i (natural_polynomial m) +ℤ y) (evaluation_neg (degree_of set) (plain_root_of set) (slot_power (degree_of set) i) (natural_polynomial other)))
    ∙ residue_equal t _ _ (plain_of-positive set)
    (Congruent-add t (Congruent-residue t (value_at set i (natural_polynomial m)) (plain_of-positive set))
    (Congruent-neg t (Congruent-residue t (value_at set i (natural_polynomial other)) (plain_of-positive set))))
    ∙ ap₂ (λ v w. residue t (pos v -ℤ pos w)) (sym (slot_is set (natural_polynomial m) i below)) (sym (slot_is set (natural_polynomial other) i below)))
  where
    t : ℕ
    t = plain_of set

pub slots-plain_negative : (set : SetName) (m : ℕ → ℕ)
    → slots_of set (natural_polynomial (plain_negative (plain_of set) m))
    ≡ values_below (degree_of set) (λ i. residue (plain_of set) (neg_ℤ (pos (slice_index (slots_of set (natural_polynomial m)) i))))
slots-plain_negative set m = slots_are set (ring_negative (natural_polynomial m)) _ (λ i below.
    ap (residue t) (evaluation_neg (degree_of set) (plain_root_of set) (slot_power (degree_of set) i) (natural_polynomial m))
    ∙ residue_equal t _ _ (plain_of-positive set) (Congruent-neg t (Congruent-residue t (value_at set i (natural_polynomial m)) (plain_of-positive set)))
    ∙ ap (λ v. residue t (neg_ℤ (pos v))) (sym (slot_is set (natural_polynomial m) i below)))
  where
    t : ℕ
    t = plain_of set

pub slots-plain_multiple : (set : SetName) (c : ℕ) (m : ℕ → ℕ)
    → slots_of set (natural_polynomial (plain_multiple (plain_of set) (pos c) m))
    ≡ values_below (degree_of set) (λ i. slice_index (slots_of set (natural_polynomial m)) i * c % plain_of set)
slots-plain_multiple set c m = slots_are set (λ k. pos c *ℤ natural_polynomial m k) _ (λ i below.
    ap (residue t) (evaluation_scale (degree_of set) (plain_root_of set) (slot_power (degree_of set) i) (pos c) (natural_polynomial m))
    ∙ residue_equal t _ _ (plain_of-positive set)
    (Congruent-mul t (Congruent-refl t (pos c)) (Congruent-residue t (value_at set i (natural_polynomial m)) (plain_of-positive set)))
    ∙ ap (λ y. y % t) (mul_comm c (residue t (value_at set i (natural_polynomial m))))
    ∙ ap (λ v. v * c % t) (sym (slot_is set (natural_polynomial m) i below)))
  where
    t : ℕ
    t = plain_of set

pub slots-plain_product : (set : SetName) (m other : ℕ → ℕ)
    → slots_of set (natural_polynomial (plain_product (degree_of set) (plain_of set) m other))
    ≡ values_below (degree_of set) (λ i. slice_index (slots_of set (natural_polynomial m)) i * slice_index (slots_of set (natural_polynomial other)) i % plain_of set)
slots-plain_product set m other = slots_are set (ring_product (degree_of set) (natural_polynomial m) (natural_polynomial other)) _ (λ i below.
    sym (slot_is set (ring_product (degree_of set) (natural_polynomial m) (natural_polynomial other)) i below)
    ∙ slots-ring_product set (natural_polynomial m) (natural_polynomial other) i below)
