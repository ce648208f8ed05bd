-- Slots and transforms in the sets.
use Rattle.std.proofs.Common.{◌≡◌, ℕ, ℤ, suc, ◌^◌, ◌<◌, pos, neg_ℤ, refl, sym, ap, ◌∙◌, subst, arith, List, length, slice_index}
use Rattle.set_table.specs.declared.SetName.{SetName}
use Rattle.set_table.specs.declared.SetName.TheVariants.{One16, Toy16, S4096, S8192, S16384}
use Rattle.set_table.specs.Sets.{degree_of, plain_of}
use Rattle.set_table.specs.Roots.{plain_root_of}
use Rattle.ring_law.specs.Residues.{Congruent, residue}
use Rattle.ring_law.specs.Rows.{IsReduced, RowRepresents, row_polynomial}
use Rattle.ring_law.specs.Transform.{IsTransform, evaluation}
use Rattle.ring_law.proofs.Residues.{Congruent-residue, residue_lt}
use Rattle.ring_law.proofs.Values.{get_or-values_below, values_below-get_or}
use Rattle.neg_ntt.specs.Parameters.{IsTransformBy, Parameters}
use Rattle.bfv_model.specs.Slots.{slot, slot_place, slot_power, slots, slots_of}
use Rattle.bfv_model.proofs.SlotPlaces.{slot-transform_entry, slot_place_lt, slot_place_reached}
use Rattle.bfv_model.proofs.SlotSets.{slots-congruent, slots-once, slots_exist}
use Rattle.bfv_params.specs.Transforms.{transform_of}

-- the degree of a set is 2^(u + 2), and its transform modulo t has the root of its slots
record IsTransformOfSlots (set : SetName) (t : Parameters) (u : ℕ) : Type 0 where
  degree : degree_of set ≡ 2 ^ suc (suc u)
  root : t.root ≡ plain_root_of set
  log_degree : t.log_degree ≡ suc (suc u)

transform_is_of_slots : (set : SetName) → (u : ℕ) × IsTransformOfSlots set (transform_of set (plain_of set)) u
transform_is_of_slots One16 = (2, record { degree = refl; root = refl; log_degree = refl })
transform_is_of_slots Toy16 = (2, record { degree = refl; root = refl; log_degree = refl })
transform_is_of_slots S4096 = (10, record { degree = refl; root = refl; log_degree = refl })
transform_is_of_slots S8192 = (11, record { degree = refl; root = refl; log_degree = refl })
transform_is_of_slots S16384 = (12, record { degree = refl; root = refl; log_degree = refl })

-- no plaintext modulus is 0
pub plain_positive : (set : SetName) → 0 < plain_of set
plain_positive set = let exist = slots_exist set in omega (arith, exist.odd)

-- word i of the values is the entry at the place of slot i
abbrev pub AtPlaces : ℕ → List ℕ → List ℕ → Type 0
AtPlaces n values entries = (log i : ℕ) → n ≡ 2 ^ suc (suc log) → i < n
    → slice_index values i ≡ slice_index entries (slot_place (suc (suc log)) i)

slots_from_transform : (t x u : ℕ) → 0 < t → Congruent t (pos (x ^ 2 ^ suc (suc u))) (neg_ℤ (pos 1)) → (values entries : List ℕ) (a : ℕ → ℤ)
    → length values ≡ 2 ^ suc (suc u)
    → ((i : ℕ) → i < 2 ^ suc (suc u) → slice_index values i ≡ slice_index entries (slot_place (suc (suc u)) i))
    → IsTransform t (suc (suc u)) x entries a → values ≡ slots (2 ^ suc (suc u)) t x a
unfolding slots
slots_from_transform t x u some minus_one values entries a len at transform =
    sym (values_below-get_or (2 ^ suc (suc u)) (slot (2 ^ suc (suc u)) t x a) values 0 len (λ i below.
    at i below ∙ transform (slot_place (suc (suc u)) i) (slot_place_lt u i) ∙ sym (slot-transform_entry t x u some minus_one a i below)))

-- values at the places of a transform modulo t are the slots of what was transformed
pub slots_of_transform : (set : SetName) (n : ℕ) (t : Parameters) (values entries : List ℕ) (a : ℕ → ℤ) → n ≡ degree_of set
    → t ≡ transform_of set (plain_of set) → length values ≡ n → AtPlaces n values entries → IsTransformBy t entries a
    → values ≡ slots_of set a
slots_of_transform set n t values entries a degree is_listed len at transform = from (transform_is_of_slots set)
  where
    from : (u : ℕ) × IsTransformOfSlots set (transform_of set (plain_of set)) u → values ≡ slots_of set a
    from (u, h) =
        let power : n ≡ 2 ^ suc (suc u) = degree ∙ h.degree in
        let listed = subst (λ (t : Parameters). IsTransformBy t entries a) is_listed transform in
        let rooted = subst (λ (x : ℕ). IsTransform (plain_of set) (transform_of set (plain_of set)).log_degree x entries a) h.root listed in
        let whole = subst (λ (k : ℕ). IsTransform (plain_of set) k (plain_root_of set) entries a) h.log_degree rooted in
        subst (λ (m : ℕ). values ≡ slots m (plain_of set) (plain_root_of set) a) (sym h.degree)
        (slots_from_transform (plain_of set) (plain_root_of set) u (plain_positive set)
        (subst (λ (m : ℕ). Congruent (plain_of set) (pos (plain_root_of set ^ m)) (neg_ℤ (pos 1))) h.degree (slots_exist set).minus_one)
        values entries a (len ∙ power) (λ i below. at u i power (omega arith)) whole)

-- entries with reduced values at the places of all slots are reduced
pub IsReduced-entries : (set : SetName) (n bound : ℕ) (values entries : List ℕ) → n ≡ degree_of set → AtPlaces n values entries
    → IsReduced n bound values → IsReduced n bound entries
IsReduced-entries set n bound values entries degree at reduced k inside = from (transform_is_of_slots set)
  where
    from : (u : ℕ) × IsTransformOfSlots set (transform_of set (plain_of set)) u → slice_index entries k < bound
    from (u, h) = by (slot_place_reached u k (omega arith))
      where
        power : n ≡ 2 ^ suc (suc u)
        power = degree ∙ h.degree

        by : (i : ℕ) × (i < 2 ^ suc (suc u)) × (slot_place (suc (suc u)) i ≡ k) → slice_index entries k < bound
        by (i, below, is) =
            subst (λ (v : ℕ). v < bound) (at u i power (omega arith) ∙ ap (slice_index entries) is) (reduced i (omega arith))

-- a reduced row represents each polynomial that has its slots
pub RowRepresents-slots : (set : SetName) (n : ℕ) (row : List ℕ) (m : ℕ → ℤ) → n ≡ degree_of set → IsReduced n (plain_of set) row
    → slots_of set (row_polynomial row) ≡ slots_of set m → RowRepresents n (plain_of set) row m
RowRepresents-slots set n row m degree below same k inside =
    slots-once set (slice_index row) (λ i. residue (plain_of set) (m i)) (λ i l. below i (omega arith))
    (λ i l. residue_lt (plain_of set) (m i) positive) (same ∙ slots-congruent set m (λ i. pos (residue (plain_of set) (m i)))
    (record { at = λ i l. Congruent-residue (plain_of set) (m i) positive })) k (omega arith)
  where
    positive : 0 < plain_of set
    positive = plain_positive set

-- slots are reduced
pub IsReduced-slots_of : (set : SetName) (m : ℕ → ℤ) → IsReduced (degree_of set) (plain_of set) (slots_of set m)
unfolding slots slot
IsReduced-slots_of set m k inside =
    let t = plain_of set in
    let x = plain_root_of set in
    let n = degree_of set in
    subst (λ (v : ℕ). v < t) (sym (get_or-values_below n (slot n t x m) k 0 inside))
    (residue_lt t (evaluation n x (slot_power n k) m) (plain_positive set))
