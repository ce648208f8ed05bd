-- The definitions read on two ciphers that were worked out by hand: each holds 5 in every slot, under every secret.
use Rattle.std.proofs.Common.{[], ap, arith, div-add-mod', get_or, lit<, lit≤, mod-eq_of_lt, mod-lt, nat_abs, pos, refl, replicate, set, slice_index, subst, suc, sym, take, zero, zero-add, zero-mul, ℕ, ℤ, ◌%◌, ◌*ℤ◌, ◌*◌, ◌++◌, ◌+ℤ◌, ◌+◌, ◌-ℤ◌, ◌-◌, ◌/◌, ◌<◌, ◌^◌, ◌∙◌, ◌∷◌, ◌≡◌, ◌≢◌, ◌≤◌}
use Rattle.std.proofs.Math.Nat.{mod-one, pow-zero}
use Rattle.std.proofs.lemmas.Int.{ints}
use Rattle.std.proofs.lemmas.List.{get_or-append_right, get_or-replicate, get_or_append_left, length-replicate}
use Rattle.set_table.specs.Roots.{plain_root_of}
use Rattle.set_table.specs.Sets.{data_of, degree_of, plain_of}
use Rattle.set_table.specs.declared.SetName.{SetName}
use Rattle.set_table.specs.declared.SetName.TheVariants.{One16, Toy16}
use Rattle.bound_num.specs.Bound.{bit_length, bound_value, digits_within, down, spacing}
use Rattle.ring_law.specs.Moduli.{product}
use Rattle.ring_law.specs.Polynomials.{AllWithin, ring_product}
use Rattle.ring_law.specs.Residues.{residue}
use Rattle.ring_law.specs.Rows.{natural_polynomial}
use Rattle.ring_law.specs.Transform.{evaluation}
use Rattle.ring_law.proofs.Congruence.{Congruent-equal}
use Rattle.ring_law.proofs.RingSolver.{identity2, literal, ◌⊖◌, ◌⊗◌}
use Rattle.ring_law.proofs.Sums.{sum_below_single}
use Rattle.ring_law.proofs.Values.{values_below-get_or}
use Rattle.ring_law.proofs.WholeNumbers.{int_mul_one, int_zero_mul}
use Rattle.file_model.specs.Bytes.{word_bytes}
use Rattle.file_model.specs.FileText.{KeepsRules, head_text}
use Rattle.file_model.specs.WorkedRows.{one16_cipher, one16_front, toy16_cipher, HoldsInEachSlot}
use Rattle.bfv_model.specs.Holds.{CipherHolds, Holds, phase, stored_word, zero_polynomial}
use Rattle.bfv_model.specs.Limit.{limit}
use Rattle.bfv_model.specs.Slots.{slot, slot_power, slots, slots_of}
use Rattle.bfv_model.proofs.Noise.{Holds-from_congruent, phase_of_two_parts, ring_product_zero}
use Rattle.bfv_model.proofs.Sets.{degree_pos}

-- the polynomial whose coefficients are c and then zeros
abbrev pub only_first : ℕ → ℕ → ℕ
only_first c zero = c
only_first c (suc k) = 0

abbrev only_first_noise : ℤ → ℕ → ℤ
only_first_noise x zero = x
only_first_noise x (suc k) = pos 0

pub get_or-only_first : (c n k : ℕ) → get_or (c ∷ replicate n 0) k 0 ≡ only_first c k
get_or-only_first c n zero = refl
get_or-only_first c n (suc k) = zeros n k
  where
    zeros : (n k : ℕ) → get_or {A = ℕ} (replicate n 0) k 0 ≡ 0
    zeros zero k = refl
    zeros (suc n) zero = refl
    zeros (suc n) (suc k) = zeros n k

only_first_lt : (c t k : ℕ) → c < t → only_first c k < t
only_first_lt c t zero small = small
only_first_lt c t (suc k) small = omega arith

only_first_noise_within : (n W : ℕ) (x : ℤ) → nat_abs x ≤ W → AllWithin n W (only_first_noise x)
only_first_noise_within n W x near zero below = near
only_first_noise_within n W x near (suc k) below = omega arith

noise_of_constant : (q t w c k : ℕ)
    → pos t *ℤ pos (only_first w k) -ℤ pos q *ℤ pos (only_first c k) ≡ only_first_noise (pos t *ℤ pos w -ℤ pos q *ℤ pos c) k
noise_of_constant q t w c zero = refl
noise_of_constant q t w c (suc k) = identity2 (λ t q. t ⊗ literal (pos 0) ⊖ q ⊗ literal (pos 0)) (λ t q. literal (pos 0)) refl (pos t)
    (pos q)

-- a cipher whose first part is the number w, and whose others are 0
pub Holds-constant : (n q t w c W : ℕ) (s : ℕ → ℤ) → 0 < t * q → c < t → nat_abs (pos t *ℤ pos w -ℤ pos q *ℤ pos c) ≤ W
    → Holds n q t (natural_polynomial (only_first w)) zero_polynomial zero_polynomial s (only_first c) W
Holds-constant n q t w c W s whole small near =
    Holds-from_congruent (only_first_noise (pos t *ℤ pos w -ℤ pos q *ℤ pos c)) whole (λ k _. only_first_lt c t k small) (λ k below.
    Congruent-equal (t * q) (ap (λ x. pos t *ℤ x -ℤ pos q *ℤ pos (only_first c k)) (first_part k) ∙ noise_of_constant q t w c k))
    (only_first_noise_within n W (pos t *ℤ pos w -ℤ pos q *ℤ pos c) near)
  where
    no_more : (x y : ℤ) → y ≡ pos 0 → x +ℤ y ≡ x
    no_more x y none = omega (arith, ints)

    first_part : (k : ℕ) → phase n (natural_polynomial (only_first w)) zero_polynomial zero_polynomial s k ≡ pos (only_first w k)
    first_part k = phase_of_two_parts n (natural_polynomial (only_first w)) zero_polynomial s k ∙ no_more (pos (only_first w k))
        (ring_product n zero_polynomial s k) (ring_product_zero n s k)

evaluation-only_first : (n x e c : ℕ) → 0 < n → evaluation n x e (natural_polynomial (only_first c)) ≡ pos c
unfolding evaluation
evaluation-only_first n x e c positive =
    sum_below_single n 0 (λ i. pos (only_first c i) *ℤ pos (x ^ (i * e))) positive (λ i below other. others i other)
    ∙ ap (λ p. pos c *ℤ pos p) (ap (λ z. x ^ z) (zero-mul e) ∙ pow-zero x) ∙ int_mul_one (pos c)
  where
    others : (i : ℕ) → i ≢ 0 → pos (only_first c i) *ℤ pos (x ^ (i * e)) ≡ pos 0
    others zero other = absurd (other refl)
    others (suc i) other = int_zero_mul (pos (x ^ (suc i * e)))

-- the slots of the number c
pub slots-only_first : (set : SetName) (c : ℕ) → c < plain_of set
    → slots_of set (natural_polynomial (only_first c)) ≡ replicate (degree_of set) c
unfolding slots slot
slots-only_first set c small =
    values_below-get_or (degree_of set) (slot (degree_of set) (plain_of set) (plain_root_of set) (natural_polynomial (only_first c)))
    (replicate (degree_of set) c) 0 (length-replicate (degree_of set) c)
    (λ i below. sym (ap (residue (plain_of set)) (evaluation-only_first (degree_of set) (plain_root_of set) (slot_power (degree_of set) i) c (degree_pos set))
    ∙ mod-eq_of_lt small ∙ sym (get_or-replicate (degree_of set) i c 0 below)))

-- words that are zero but for the first
only_first_reduced : (w n q i : ℕ) → w < q → get_or (w ∷ replicate n 0) i 0 < q
only_first_reduced w n q i small = subst (λ x. x < q) (sym (get_or-only_first w n i)) (only_first_lt w q i small)

one_modulus : (q i : ℕ) → slice_index (q ∷ []) (i / 16 % 1) ≡ q
one_modulus q i = ap (λ j. slice_index (q ∷ []) j) (mod-one (i / 16))

-- ---- the cipher of one16
-- it keeps the rules of a file
pub one16_rules : KeepsRules one16_cipher
unfolding one16_cipher limit down spacing bit_length digits_within bound_value
one16_rules = record {
  set = refl;
  parts = refl;
  element = refl;
  key_id = refl;
  bound = refl;
  count = refl;
  reduced = λ i below. subst (λ q. get_or (700949358316277 ∷ replicate 31 0) i 0 < q) (sym (one_modulus 0x7fffffffe90001 i))
      (only_first_reduced 700949358316277 31 0x7fffffffe90001 i (lit< tt));
}

-- the first part is the number x, the others are 0
abbrev number_part : ℕ → ℕ → ℕ → ℕ
number_part x zero k = only_first x k
number_part x (suc j) k = 0

number_part_lt : (x q j k : ℕ) → x < q → number_part x j k < q
number_part_lt x q zero k small = only_first_lt x q k small
number_part_lt x q (suc j) k small = omega arith

only_first_mod : (w x q k : ℕ) → w ≡ x % q → 0 < q → only_first w k ≡ only_first x k % q
only_first_mod w x q zero is positive = is
only_first_mod w x q (suc k) is positive = sym (mod-eq_of_lt positive)

one_row : (w q j i k : ℕ) → w < q → i < 1 → get_or (w ∷ replicate 31 0) ((j * 1 + i) * 16 + k) 0 ≡ number_part w j k % q
one_row w q zero i k small row =
    let place : (0 * 1 + i) * 16 + k ≡ k = omega arith in
    get_or-only_first w 31 ((0 * 1 + i) * 16 + k) ∙ ap (only_first w) place ∙ only_first_mod w w q k (sym (mod-eq_of_lt small))
    (omega arith)
one_row w q (suc j) i k small row =
    let place : (suc j * 1 + i) * 16 + k ≡ suc (15 + j * 16 + i * 16 + k) = omega arith in
    get_or-only_first w 31 ((suc j * 1 + i) * 16 + k) ∙ ap (only_first w) place ∙ sym (mod-eq_of_lt (omega arith))

-- and holds 5 within the bound that its head states
one16_words : (s : ℕ → ℤ) → CipherHolds 16 (data_of One16) 257 (stored_word 16 1 one16_cipher.words) s (only_first 5) 257
unfolding one16_cipher product
one16_words s = record {
  part = number_part 700949358316277;
  below = λ j k _ _. number_part_lt 700949358316277 0x7fffffffe90001 j k (lit< tt);
  represents = λ j _ i k row _. one_modulus_row j i k row;
  holds = Holds-constant 16 0x7fffffffe90001 257 700949358316277 5 257 s (lit< tt) (lit< tt) (lit≤ tt);
}
  where
    one_modulus_row : (j i k : ℕ) → i < 1
        → get_or (700949358316277 ∷ replicate 31 0) ((j * 1 + i) * 16 + k) 0 ≡ number_part 700949358316277 j k % slice_index
        (0x7fffffffe90001 ∷ []) i
    one_modulus_row j zero k row = one_row 700949358316277 0x7fffffffe90001 j zero k (lit< tt) row
    one_modulus_row j (suc i) k row = absurd (omega arith)

pub one16_holds : (s : ℕ → ℤ) → HoldsInEachSlot one16_cipher 5 s
unfolding one16_cipher bound_value
one16_holds s = record { plaintext = only_first 5; slots = slots-only_first One16 5 (lit< tt); holds = one16_words s }

-- ---- the cipher of toy16
two_rows_first : (a b k : ℕ) → k < 16 → get_or ((a ∷ replicate 15 0) ++ (b ∷ replicate 47 0)) k 0 ≡ only_first a k
two_rows_first a b k below = get_or_append_left (a ∷ replicate 15 0) (b ∷ replicate 47 0) 0 k below ∙ get_or-only_first a 15 k

two_rows_further : (a b k : ℕ) → get_or ((a ∷ replicate 15 0) ++ (b ∷ replicate 47 0)) (16 + k) 0 ≡ only_first b k
two_rows_further a b k =
    let rest : 16 + k - 16 ≡ k = omega arith in
    get_or-append_right (a ∷ replicate 15 0) (b ∷ replicate 47 0) 16 (16 + k) 0 refl (omega arith) ∙ ap
    (λ i. get_or (b ∷ replicate 47 0) i 0) rest ∙ get_or-only_first b 47 k

two_rows : (a b q p x j i k : ℕ) → a ≡ x % q → b ≡ x % p → 0 < q → 0 < p → i < 2 → k < 16
    → get_or ((a ∷ replicate 15 0) ++ (b ∷ replicate 47 0)) ((j * 2 + i) * 16 + k) 0 ≡ number_part x j k % slice_index (q ∷ p ∷ []) i
two_rows a b q p x zero zero k first second q_positive p_positive row below =
    ap (λ i. get_or ((a ∷ replicate 15 0) ++ (b ∷ replicate 47 0)) i 0) (zero-add k) ∙ two_rows_first a b k below
    ∙ only_first_mod a x q k first q_positive
two_rows a b q p x zero (suc zero) k first second q_positive p_positive row below = two_rows_further a b k
    ∙ only_first_mod b x p k second p_positive
two_rows a b q p x zero (suc (suc i)) k first second q_positive p_positive row below = absurd (omega arith)
two_rows a b q p x (suc j) i k first second q_positive p_positive row below =
    let place : (suc j * 2 + i) * 16 + k ≡ 16 + suc (15 + j * 32 + i * 16 + k) = omega arith in
    ap (λ z. get_or ((a ∷ replicate 15 0) ++ (b ∷ replicate 47 0)) z 0) place ∙ two_rows_further a b (suc (15 + j * 32 + i * 16 + k))
    ∙ none i row
  where
    none : (i : ℕ) → i < 2 → 0 ≡ 0 % slice_index (q ∷ p ∷ []) i
    none zero row = sym (mod-eq_of_lt q_positive)
    none (suc zero) row = sym (mod-eq_of_lt p_positive)
    none (suc (suc i)) row = absurd (omega arith)

two_moduli_pos : (q p i : ℕ) → 0 < q → 0 < p → i < 2 → 0 < slice_index (q ∷ p ∷ []) i
two_moduli_pos q p zero q_positive p_positive row = q_positive
two_moduli_pos q p (suc zero) q_positive p_positive row = p_positive
two_moduli_pos q p (suc (suc i)) q_positive p_positive row = absurd (omega arith)

-- each word is that of a row of a part
two_rows_reduced : (a b q p x i : ℕ) → a ≡ x % q → b ≡ x % p → 0 < q → 0 < p
    → get_or ((a ∷ replicate 15 0) ++ (b ∷ replicate 47 0)) i 0 < slice_index (q ∷ p ∷ []) (i / 16 % 2)
two_rows_reduced a b q p x i first second q_positive p_positive =
    let row : i / 16 % 2 < 2 = mod-lt (i / 16) (lit< tt) in
    let place : (i / 16 / 2 * 2 + i / 16 % 2) * 16 + i % 16 ≡ i =
    ap (λ h. h * 16 + i % 16) (div-add-mod' (i / 16) 2) ∙ div-add-mod' i 16 in
    subst (λ w. w < slice_index (q ∷ p ∷ []) (i / 16 % 2))
    (sym (two_rows a b q p x (i / 16 / 2) (i / 16 % 2) (i % 16) first second q_positive p_positive row (mod-lt i (lit< tt)))
    ∙ ap (λ n. get_or ((a ∷ replicate 15 0) ++ (b ∷ replicate 47 0)) n 0) place)
    (mod-lt (number_part x (i / 16 / 2) (i % 16)) (two_moduli_pos q p (i / 16 % 2) q_positive p_positive row))

-- it keeps the rules of a file
pub toy16_rules : KeepsRules toy16_cipher
unfolding toy16_cipher limit down spacing bit_length digits_within bound_value
toy16_rules = record {
  set = refl;
  parts = refl;
  element = refl;
  key_id = refl;
  bound = refl;
  count = refl;
  reduced = λ i below. two_rows_reduced 2601179211035 2772309401632 0x7fffffd8001 0x7fffffc8001 1505277217832478270958548 i refl refl (lit< tt) (lit< tt);
}

-- and holds 5 within the bound that its head states
toy16_words : (s : ℕ → ℤ) → CipherHolds 16 (data_of Toy16) 257 (stored_word 16 2 toy16_cipher.words) s (only_first 5) 257
unfolding toy16_cipher product
toy16_words s = record {
  part = number_part 1505277217832478270958548;
  below = λ j k _ _. number_part_lt 1505277217832478270958548 (0x7fffffd8001 * (0x7fffffc8001 * 1)) j k (lit< tt);
  represents = λ j _ i k row below. two_rows 2601179211035 2772309401632 0x7fffffd8001 0x7fffffc8001 1505277217832478270958548 j i k refl refl (lit< tt) (lit< tt) row below;
  holds = Holds-constant 16 (0x7fffffd8001 * (0x7fffffc8001 * 1)) 257 1505277217832478270958548 5 257 s (lit< tt) (lit< tt) (lit≤ tt);
}

pub toy16_holds : (s : ℕ → ℤ) → HoldsInEachSlot toy16_cipher 5 s
unfolding toy16_cipher bound_value
toy16_holds s = record { plaintext = only_first 5; slots = slots-only_first Toy16 5 (lit< tt); holds = toy16_words s }

-- the first bytes of the file of one16
pub one16_begins : take 72 (head_text one16_cipher ++ word_bytes one16_cipher.words) ≡ one16_front
unfolding head_text word_bytes one16_cipher one16_front
one16_begins = refl
