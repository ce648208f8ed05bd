-- The scaled plaintext in words: q*m / t by the quotient and the rest of q by t.
use Rattle.std.proofs.Common.{◌≡◌, ℕ, ◌+◌, ◌-◌, ◌*◌, ◌/◌, ◌%◌, ◌<◌, pos, neg_ℤ, ◌+ℤ◌, ◌*ℤ◌, arith, refl, sym, subst, ◌∙◌, ap, List, length, slice_index, set, inl, inr}
use Rattle.std.proofs.lemmas.Int.{ints}
use Rattle.std.proofs.lemmas.Bool.{cases_lt}
use Rattle.std.proofs.lemmas.List.{get_or-set_other, get_or-set_same}
use Rattle.std.proofs.Math.Nat.{add-mod-mod, div-add-mod, mod-add-mod, mod-eq_of_lt, mul-add-div, mul-mod_right, mul_comm}
use Rattle.std.proofs.lemmas.Nat.{mul-mod_first}
use Rattle.ring_law.specs.Moduli.{product, product_of_others}
use Rattle.ring_law.specs.Residues.{Congruent, residue}
use Rattle.ring_law.proofs.ChineseRemainder.{mul-product_of_others}
use Rattle.ring_law.proofs.Congruence.{Congruent-mul, Congruent-quotient, Congruent-refl, Congruent-trans}
use Rattle.ring_law.proofs.Residues.{Congruent-from_residues, residue-neg, residue_equal}
use Rattle.ring_law.proofs.RingSolver.{identity2, minus, ◌⊗◌}
use Rattle.bfv_model.specs.Plaintexts.{scaled_plain}

-- the sum of two residues
pub reduced_sum : (M w m x first second sum : ℕ) → first ≡ m * w % M → second ≡ x % M → sum ≡ (first + second) % M → sum ≡ (w * m + x) % M
reduced_sum M w m x first second sum first_is second_is sum_is =
    sum_is ∙ ap (λ (a : ℕ). (a + second) % M) first_is ∙ ap (λ (b : ℕ). (m * w % M + b) % M) second_is
    ∙ mod-add-mod (m * w) M (x % M) ∙ add-mod-mod (m * w) x M ∙ ap (λ (a : ℕ). (a + x) % M) (mul_comm m w)

scaled_split : (q t m : ℕ) → 0 < t → scaled_plain q t m ≡ q / t * m + (q % t * m + t / 2) / t
scaled_split q t m positive =
    let parts : q * m + t / 2 ≡ t * (q / t * m) + (q % t * m + t / 2) =
    (let whole : t * (q / t) + q % t ≡ q = div-add-mod q t in subst (λ (x : ℕ). x * m + t / 2 ≡ t * (q / t * m) + (q % t * m + t / 2)) whole (omega arith)) in
    ap (λ (x : ℕ). x / t) parts ∙ mul-add-div positive (q / t * m) (q % t * m + t / 2)

-- the word of a coefficient, where w is the quotient modulo M
pub scaled_is : (q t M m w word : ℕ) → 0 < t → w ≡ q / t % M → word ≡ (w * m + (q % t * m + t / 2) / t) % M → word ≡ scaled_plain q t m % M
scaled_is q t M m w word positive w_is word_is =
    let rounded : ℕ = (q % t * m + t / 2) / t in
    word_is ∙ ap (λ (x : ℕ). (x * m + rounded) % M) w_is
    ∙ sym (mod-add-mod (q / t % M * m) M rounded) ∙ ap (λ (x : ℕ). (x + rounded) % M) (mul-mod_first (q / t) m M) ∙ mod-add-mod (q / t * m) M rounded
    ∙ ap (λ (x : ℕ). x % M) (sym (scaled_split q t m positive))

opposite_sum : (a b c : ℕ) → a + b ≡ c → pos a ≡ neg_ℤ (pos b) +ℤ pos c
opposite_sum a b c sum = omega (arith, ints)

-- the quotient by t of a multiple q of M, modulo M, from the rest and an inverse v of t
pub quotient_found : (q t M v rest product found : ℕ) → 1 < M → q % M ≡ 0 → rest ≡ q % t → v * t % M ≡ 1 → product ≡ rest % M * v % M → found ≡ (M - product) % M → found ≡ q / t % M
quotient_found q t M v rest product found above multiple rest_is inverse product_is found_is =
    let positive : 0 < M = omega arith in
    let y : ℕ = q / t in
    let whole : t * y + rest ≡ q = rw rest_is (div-add-mod q t) in
    let times : M * (q / M) + q % M ≡ q = div-add-mod q M in
    let opposite : Congruent M (pos (y * t)) (neg_ℤ (pos rest)) = record { quotient = pos (q / M); equation = opposite_sum (y * t) rest (q / M * M) (omega arith) } in
    let one : Congruent M (pos v *ℤ pos t) (pos 1) = Congruent-from_residues M (pos (v * t)) (pos 1) positive (inverse ∙ sym (mod-eq_of_lt above)) in
    let divided : Congruent M (pos y) (pos (y * t) *ℤ pos v) = Congruent-quotient M t (pos y) (pos (y * t)) (pos v) refl one in
    let negated : Congruent M (pos y) (neg_ℤ (pos rest) *ℤ pos v) = Congruent-trans M divided (Congruent-mul M opposite (Congruent-refl M (pos v))) in
    let same : neg_ℤ (pos rest) *ℤ pos v ≡ neg_ℤ (pos (rest * v)) = identity2 (λ a b. minus a ⊗ b) (λ a b. minus (a ⊗ b)) refl (pos rest) (pos v) in
    found_is ∙ ap (λ (x : ℕ). (M - x) % M) (product_is ∙ mul-mod_first rest v M)
    ∙ sym (residue-neg M (pos (rest * v)) positive) ∙ ap (residue M) (sym same) ∙ sym (residue_equal M (pos y) (neg_ℤ (pos rest) *ℤ pos v) positive negated)

-- the product of a list is a multiple of each of its numbers
pub product_multiple : (qs : List ℕ) (i : ℕ) → i < length qs → product qs % slice_index qs i ≡ 0
product_multiple qs i within =
    ap (λ (x : ℕ). x % slice_index qs i) (sym (mul-product_of_others qs i within)) ∙ mul-mod_right (slice_index qs i) (product_of_others qs i)

-- one more word is written
pub word_written : (f : ℕ → ℕ) (row : List ℕ) (k word : ℕ) → k < length row → ((j : ℕ) → j < k → slice_index row j ≡ f j) → word ≡ f k →
    (j : ℕ) → j < k + 1 → slice_index (set row k word) j ≡ f j
word_written f row k word within before now j less = elim (cases_lt j k) [
  | inl earlier ↦ get_or-set_other row k j word 0 (λ same. omega arith) ∙ before j earlier
  | inr later ↦ (let same : j ≡ k = omega arith in
      let P : ℕ → Type 0 = λ m. slice_index (set row k word) m ≡ f m in
      subst P (sym same) (get_or-set_same row k word 0 within ∙ now))
]
