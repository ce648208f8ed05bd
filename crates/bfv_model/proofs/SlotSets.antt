-- The laws of the slots in each set.
use Rattle.std.proofs.Common.{List, ap, ap₂, arith, get_or, length, lit<, neg_ℤ, pos, refl, set, slice_index, subst, suc, sym, ℕ, ℤ, ◌%◌, ◌*◌, ◌+◌, ◌-◌, ◌/◌, ◌<◌, ◌^◌, ◌∙◌, ◌≡◌}
use Rattle.set_table.specs.Roots.{plain_root_of}
use Rattle.set_table.specs.Sets.{degree_of, plain_of}
use Rattle.set_table.specs.declared.SetName.{SetName}
use Rattle.set_table.specs.declared.SetName.TheVariants.{One16, S16384, S4096, S8192, Toy16}
use Rattle.ring_law.specs.Polynomials.{CongruentPolynomials, ring_product, ring_sum, ring_turn}
use Rattle.ring_law.specs.Residues.{Congruent}
use Rattle.ring_law.specs.Rows.{natural_polynomial}
use Rattle.ring_law.proofs.Congruence.{Congruent-equal, Congruent-sym, Congruent-trans}
use Rattle.ring_law.proofs.Residues.{Congruent-mod}
use Rattle.ring_law.proofs.Values.{get_or-values_below, length-values_below, values_below-get_or}
use Rattle.ring_law.specs.Lists.{exchanged, turned_left}
use Rattle.bfv_model.specs.Slots.{slot, slots, slots_of}
use Rattle.bfv_model.proofs.ProductIdentity.{values}
use Rattle.bfv_model.proofs.SlotLaws.{plaintext_once, plaintext_with, plaintext_with_lt, slot-plaintext_with, slot-ring_product, slot-ring_sum, slot_congruent}
use Rattle.bfv_model.proofs.SlotLists.{slots-swap, slots-turn}
use Rattle.bfv_model.proofs.SlotPowers.{half_degree, modulus_less_one}

-- the degree is a power of two from 4 on, t is odd, and the n-th power of the root is -1
pub record SlotsExist (set : SetName) : Type 0 where
  pub log : ℕ
  pub half : ℕ
  pub degree : 2 ^ suc (suc log) ≡ degree_of set
  pub odd : plain_of set ≡ 2 * half + 1
  pub minus_one : Congruent (plain_of set) (pos (plain_root_of set ^ degree_of set)) (neg_ℤ (pos 1))

pub minus_one_from : (t y : ℕ) → 0 < t → y % t ≡ t - 1 → Congruent t (pos y) (neg_ℤ (pos 1))
minus_one_from t y positive is =
    Congruent-trans t (Congruent-sym t (Congruent-mod t y positive))
    (Congruent-trans t (Congruent-equal t (ap pos is)) (modulus_less_one t positive))

-- each set has them
pub slots_exist : (set : SetName) → SlotsExist set
slots_exist One16 = record { log = 2; half = 128; degree = refl; odd = refl; minus_one = minus_one_from 257 (136 ^ 16) (lit< tt) refl }
slots_exist Toy16 = record { log = 2; half = 128; degree = refl; odd = refl; minus_one = minus_one_from 257 (136 ^ 16) (lit< tt) refl }
slots_exist S4096 = record {
  log = 10;
  half = 32768;
  degree = refl;
  odd = refl;
  minus_one = minus_one_from 65537 (6561 ^ 4096)
      (lit< tt) refl;
}
slots_exist S8192 = record {
  log = 11;
  half = 32768;
  degree = refl;
  odd = refl;
  minus_one = minus_one_from 65537 (81 ^ 8192)
      (lit< tt) refl;
}
slots_exist S16384 = record {
  log = 12;
  half = 32768;
  degree = refl;
  odd = refl;
  minus_one = minus_one_from 65537 (9 ^ 16384)
      (lit< tt) refl;
}

-- a law of the slots at a power of two, at the degree of a set
at_degree : (set : SetName) (P : ℕ → Type 0)
    → ((log half : ℕ) → plain_of set ≡ 2 * half + 1 → Congruent (plain_of set) (pos (plain_root_of set ^ 2 ^ suc (suc log))) (neg_ℤ (pos 1))
    → P (2 ^ suc (suc log))) → P (degree_of set)
at_degree set P law =
    let s = slots_exist set in
    subst P s.degree (law s.log s.half s.odd (subst (λ (n : ℕ). Congruent (plain_of set) (pos (plain_root_of set ^ n)) (neg_ℤ (pos 1))) (sym s.degree) s.minus_one))

-- the slots of a sum, of a negative and of a product
pub slots-ring_sum : (set : SetName) (a b : ℕ → ℤ) (i : ℕ) → i < degree_of set
    → slice_index (slots_of set (ring_sum a b)) i ≡ (slice_index (slots_of set a) i + slice_index (slots_of set b) i) % plain_of set
unfolding slots
slots-ring_sum set a b i =
    at_degree set (λ (n : ℕ). i < n → slice_index (slots n t x (ring_sum a b)) i ≡ (slice_index (slots n t x a) i + slice_index (slots n t x b) i) % t) (λ log half odd minus_one below.
    get_or-values_below (2 ^ suc (suc log)) (slot (2 ^ suc (suc log)) t x (ring_sum a b)) i 0 below
    ∙ slot-ring_sum t x log half odd minus_one a b i
    ∙ ap₂ (λ v w. (v + w) % t) (sym (get_or-values_below (2 ^ suc (suc log)) (slot (2 ^ suc (suc log)) t x a) i 0 below))
    (sym (get_or-values_below (2 ^ suc (suc log)) (slot (2 ^ suc (suc log)) t x b) i 0 below)))
  where
    t : ℕ
    t = plain_of set

    x : ℕ
    x = plain_root_of set

pub slots-ring_product : (set : SetName) (a b : ℕ → ℤ) (i : ℕ) → i < degree_of set
    → slice_index (slots_of set (ring_product (degree_of set) a b)) i ≡
    (slice_index (slots_of set a) i * slice_index (slots_of set b) i) % plain_of set
unfolding slots
slots-ring_product set a b i =
    at_degree set (λ (n : ℕ). i < n → slice_index (slots n t x (ring_product n a b)) i ≡ (slice_index (slots n t x a) i * slice_index (slots n t x b) i) % t) (λ log half odd minus_one below.
    get_or-values_below (2 ^ suc (suc log)) (slot (2 ^ suc (suc log)) t x (ring_product (2 ^ suc (suc log)) a b)) i 0 below
    ∙ slot-ring_product t x log half odd minus_one a b i below
    ∙ ap₂ (λ v w. (v * w) % t) (sym (get_or-values_below (2 ^ suc (suc log)) (slot (2 ^ suc (suc log)) t x a) i 0 below))
    (sym (get_or-values_below (2 ^ suc (suc log)) (slot (2 ^ suc (suc log)) t x b) i 0 below)))
  where
    t : ℕ
    t = plain_of set

    x : ℕ
    x = plain_root_of set

-- only the coefficients modulo t count
pub slots-congruent : (set : SetName) (a b : ℕ → ℤ) → CongruentPolynomials (plain_of set) (degree_of set) a b
    → slots_of set a ≡ slots_of set b
unfolding slots
slots-congruent set a b =
    at_degree set (λ (n : ℕ). CongruentPolynomials (plain_of set) n a b → slots n (plain_of set) (plain_root_of set) a ≡ slots n (plain_of set) (plain_root_of set) b) (λ log half odd minus_one same.
    values_below-get_or (2 ^ suc (suc log)) (slot (2 ^ suc (suc log)) (plain_of set) (plain_root_of set) a)
    (slots (2 ^ suc (suc log)) (plain_of set) (plain_root_of set) b) 0
    (length-values_below (2 ^ suc (suc log)) (slot (2 ^ suc (suc log)) (plain_of set) (plain_root_of set) b))
    (λ k below. sym (slot_congruent (plain_of set) (plain_root_of set) log half odd minus_one a b k same ∙ sym (get_or-values_below (2 ^ suc (suc log)) (slot (2 ^ suc (suc log)) (plain_of set) (plain_root_of set) b) k 0 below))))

-- the turn by 3^step turns both halves left
pub slots-ring_turn : (set : SetName) (step : ℕ) (a : ℕ → ℤ) → step < degree_of set / 2
    → slots_of set (ring_turn (degree_of set) (3 ^ step % (2 * degree_of set)) a) ≡ turned_left (degree_of set / 2) step (slots_of set a)
slots-ring_turn set step a =
    at_degree set (λ (n : ℕ). step < n / 2 → slots n (plain_of set) (plain_root_of set) (ring_turn n (3 ^ step % (2 * n)) a) ≡ turned_left (n / 2) step (slots n (plain_of set) (plain_root_of set) a)) (λ log half odd minus_one below.
    slots-turn (plain_of set) (plain_root_of set) log half odd minus_one step a (omega (arith, half_degree log))
    ∙ ap (λ h. turned_left h step (slots (2 ^ suc (suc log)) (plain_of set) (plain_root_of set) a)) (sym (half_degree log)))

-- the turn by 2n - 1 exchanges the halves
pub slots-ring_swap : (set : SetName) (a : ℕ → ℤ)
    → slots_of set (ring_turn (degree_of set) (2 * degree_of set - 1) a) ≡ exchanged (degree_of set / 2) (slots_of set a)
slots-ring_swap set a =
    at_degree set (λ (n : ℕ). slots n (plain_of set) (plain_root_of set) (ring_turn n (2 * n - 1) a) ≡ exchanged (n / 2) (slots n (plain_of set) (plain_root_of set) a)) (λ log half odd minus_one.
    slots-swap (plain_of set) (plain_root_of set) log half odd minus_one a
    ∙ ap (λ h. exchanged h (slots (2 ^ suc (suc log)) (plain_of set) (plain_root_of set) a)) (sym (half_degree log)))

-- plaintexts with equal slots are equal
pub slots-once : (set : SetName) (m v : ℕ → ℕ) → ((k : ℕ) → k < degree_of set → m k < plain_of set)
    → ((k : ℕ) → k < degree_of set → v k < plain_of set) → slots_of set (natural_polynomial m) ≡ slots_of set (natural_polynomial v)
    → (k : ℕ) → k < degree_of set → m k ≡ v k
unfolding slots
slots-once set m v =
    at_degree set (λ (n : ℕ). ((k : ℕ) → k < n → m k < plain_of set) → ((k : ℕ) → k < n → v k < plain_of set)
    → slots n (plain_of set) (plain_root_of set) (natural_polynomial m) ≡ slots n (plain_of set) (plain_root_of set)
    (natural_polynomial v) → (k : ℕ) → k < n → m k ≡ v k) (λ log half odd minus_one small_m small_v same.
    plaintext_once (plain_of set) (plain_root_of set) log half odd minus_one m v small_m small_v (λ i below.
    sym (get_or-values_below (2 ^ suc (suc log))
    (slot (2 ^ suc (suc log)) (plain_of set) (plain_root_of set) (natural_polynomial m)) i 0 below)
    ∙ ap (λ l. get_or l i 0) same
    ∙ get_or-values_below (2 ^ suc (suc log))
    (slot (2 ^ suc (suc log)) (plain_of set) (plain_root_of set) (natural_polynomial v)) i 0 below))

-- n values below t are the slots of a plaintext
pub slots-exist : (set : SetName) (values : List ℕ) → length values ≡ degree_of set
    → ((i : ℕ) → i < degree_of set → slice_index values i < plain_of set)
    → (m : ℕ → ℕ) × ((k : ℕ) → m k < plain_of set) × (slots_of set (natural_polynomial m) ≡ values)
unfolding slots
slots-exist set values =
    at_degree set (λ (n : ℕ). length values ≡ n → ((i : ℕ) → i < n → slice_index values i < plain_of set)
    → (m : ℕ → ℕ) × ((k : ℕ) → m k < plain_of set) × (slots n (plain_of set) (plain_root_of set) (natural_polynomial m) ≡ values))
    (λ log half odd minus_one len small.
    let m = plaintext_with (plain_of set) (plain_root_of set) log half odd minus_one (λ i. slice_index values i) in (
      m,
      plaintext_with_lt (plain_of set) (plain_root_of set) log half odd minus_one (λ i. slice_index values i),
      values_below-get_or (2 ^ suc (suc log))
          (slot (2 ^ suc (suc log)) (plain_of set) (plain_root_of set) (natural_polynomial m)) values 0 len
          (λ k below. sym (slot-plaintext_with (plain_of set) (plain_root_of set) log half odd minus_one (λ i. slice_index values i) k below (small k below))),
    ))
