-- The words of rounding, as residues.
use Rattle.std.proofs.Common.{◌≡◌, ℕ, ◌+◌, ◌-◌, ◌*◌, ◌%◌, ◌<◌, ◌≤◌, ℤ, pos, neg_ℤ, ◌+ℤ◌, ◌-ℤ◌, ◌*ℤ◌, nat_abs, arith, refl, sym, subst, ap, ◌∙◌, List, length, set, slice_index, below_more, get_or-set_other, get_or-set_same}
use Rattle.std.proofs.Math.Nat.{mod-eq_of_lt}
use Rattle.std.proofs.lemmas.Nat.{mul-mod_second}
use Rattle.std.proofs.lemmas.Int.{ints}
use Rattle.ring_law.specs.Residues.{Congruent, centred_residue, residue}
use Rattle.ring_law.proofs.Congruence.{Congruent-equal, Congruent-mul, Congruent-neg, Congruent-refl, Congruent-sym, Congruent-trans}
use Rattle.ring_law.proofs.Residues.{Congruent-from_residues, Congruent-mod, Congruent-negative_mod, Congruent-residue, centred_residue_unique, residue-mul, residue_add, residue_sub}
use Rattle.behz_decrypt.specs.declared.rounding.Rounding.{Rounding}
use Rattle.behz_decrypt.specs.Rounding.{AreConstants, IsRounded}
use Rattle.ring_law.proofs.RingSolver.{identity3, literal, minus, ◌⊗◌}

-- an error of at most half of g is its own centred residue
pub small_error_taken : (t g a e taken word : ℕ) → a < t → e < g → 2 * e ≤ g → taken ≡ e % t → word ≡ (a + (t - taken)) % t
    → word ≡ residue t (pos a -ℤ centred_residue g (pos e))
small_error_taken t g a e taken word a_below e_below half taken_is word_is =
    let centred : centred_residue g (pos e) ≡ pos e =
    centred_residue_unique g (pos e) (pos e) (omega arith) (Congruent-refl g (pos e)) half (λ tie. refl) in
    residue_sub t a e word (pos a) (omega arith) (sym (mod-eq_of_lt a_below)) (word_is ∙ ap (λ (r : ℕ). (a + (t - r)) % t) taken_is)
    ∙ ap (λ (d : ℤ). residue t (pos a -ℤ d)) (sym centred)

-- a greater one stands for a negative number
pub great_error_taken : (t g a e rest taken word : ℕ) → a < t → e < g → g < 2 * e → rest ≡ g - e → taken ≡ rest % t → word ≡ (a + taken) % t
    → word ≡ residue t (pos a -ℤ centred_residue g (pos e))
great_error_taken t g a e rest taken word a_below e_below half rest_is taken_is word_is =
    let same : Congruent g (pos e) (neg_ℤ (pos rest)) = record { quotient = pos 1; equation = around g e rest (omega arith) } in
    let small : 2 * nat_abs (neg_ℤ (pos rest)) < g = size g rest (omega arith) in
    let centred : centred_residue g (pos e) ≡ neg_ℤ (pos rest) =
    centred_residue_unique g (pos e) (neg_ℤ (pos rest)) (omega arith) same (omega arith) (λ tie. absurd (omega arith)) in
    residue_add t a rest word (pos a) (omega arith) (sym (mod-eq_of_lt a_below)) (word_is ∙ ap (λ (r : ℕ). (a + r) % t) taken_is)
    ∙ ap (residue t) (twice_negative a rest) ∙ ap (λ (d : ℤ). residue t (pos a -ℤ d)) (sym centred)
  where
    around : (g e rest : ℕ) → e + rest ≡ g → pos e ≡ neg_ℤ (pos rest) +ℤ pos 1 *ℤ pos g
    around g e rest sum = omega (arith, ints)

    size : (g rest : ℕ) → 2 * rest < g → 2 * nat_abs (neg_ℤ (pos rest)) < g
    size g rest less = omega (arith, ints)

    twice_negative : (a rest : ℕ) → pos a +ℤ pos rest ≡ pos a -ℤ neg_ℤ (pos rest)
    twice_negative a rest = omega (arith, ints)

-- a word that is 1 modulo m
pub Congruent-one : (m a : ℕ) → 1 < m → a % m ≡ 1 → Congruent m (pos a) (pos 1)
Congruent-one m a above one = Congruent-from_residues m (pos a) (pos 1) (omega arith) (one ∙ sym (mod-eq_of_lt above))

-- the negative w of an inverse v of q
pub negative_inverse_is : (m q v w : ℕ) → 1 < m → v < m → v * (q % m) % m ≡ 1 → w ≡ (m - v) % m → Congruent m (pos w *ℤ pos q) (neg_ℤ (pos 1))
negative_inverse_is m q v w above below one w_is =
    let inverse : Congruent m (pos (v * q)) (pos 1) = Congruent-one m (v * q) above (sym (mul-mod_second v q m) ∙ one) in
    let negative : Congruent m (pos w) (neg_ℤ (pos v)) =
    Congruent-trans m (Congruent-equal m (ap pos (w_is ∙ ap (λ (r : ℕ). (m - r) % m) (sym (mod-eq_of_lt below)))))
    (Congruent-trans m (Congruent-mod m (m - v % m) (omega arith)) (Congruent-negative_mod m v (omega arith))) in
    Congruent-trans m (Congruent-mul m negative (Congruent-refl m (pos q)))
    (Congruent-trans m (Congruent-equal m (identity3 (λ v q z. minus v ⊗ q) (λ v q z. minus (v ⊗ q)) refl (pos v) (pos q) (pos 0)))
    (Congruent-neg m inverse))

-- the product with it of the residue of y is -y / q
pub quotient_is : (m q w x word : ℕ) (y : ℤ) → 0 < m → Congruent m (pos w *ℤ pos q) (neg_ℤ (pos 1)) → x ≡ residue m y → word ≡ x * w % m
    → Congruent m (pos word *ℤ pos q) (neg_ℤ y)
quotient_is m q w x word y positive unit x_is word_is =
    let number : Congruent m (pos x) y = Congruent-trans m (Congruent-equal m (ap pos x_is)) (Congruent-sym m (Congruent-residue m y positive)) in
    let product : Congruent m (pos word) (pos x *ℤ pos w) = Congruent-trans m (Congruent-equal m (ap pos word_is)) (Congruent-mod m (x * w) positive) in
    Congruent-trans m (Congruent-mul m product (Congruent-refl m (pos q)))
    (Congruent-trans m (Congruent-equal m (identity3 (λ x w q. (x ⊗ w) ⊗ q) (λ x w q. x ⊗ (w ⊗ q)) refl (pos x) (pos w) (pos q)))
    (Congruent-trans m (Congruent-mul m number unit)
    (Congruent-equal m (identity3 (λ y a b. y ⊗ minus (literal (pos 1))) (λ y a b. minus y) refl y (pos 0) (pos 0)))))

-- the last product
pub divided_is : (t exact v word : ℕ) (d : ℤ) → 0 < t → exact ≡ residue t d → word ≡ exact * v % t → word ≡ residue t (d *ℤ pos v)
divided_is t exact v word d positive exact_is word_is =
    word_is ∙ ap (λ (x : ℕ). x * v % t) exact_is ∙ sym (mul-mod_second (residue t d) v t) ∙ sym (residue-mul t d (pos v) positive)

-- the word is below t, and what rounding makes of a number with these residues
abbrev pub Rounds : Rounding → ℕ → ℕ → ℕ → Type 0
Rounds c in_plain in_gamma word = (word < c.plain) × ((q : ℕ) (y : ℤ) → AreConstants q c.plain c.gamma c
    → in_plain ≡ residue c.plain y → in_gamma ≡ residue c.gamma y → IsRounded q c.plain c.gamma y word)

-- at the moduli that the constants are made for
pub rounded_at : (q t p : ℕ) (c : Rounding) (in_plain in_gamma word : ℕ) (y : ℤ) → AreConstants q t p c → Rounds c in_plain in_gamma word
    → in_plain ≡ residue t y → in_gamma ≡ residue p y → IsRounded q t p y word
rounded_at q t p c in_plain in_gamma word y constants rounds plain_is gamma_is =
    let own : AreConstants q c.plain c.gamma c = subst (λ m. AreConstants q c.plain m c) (sym constants.gamma_is)
    (subst (λ m. AreConstants q m p c) (sym constants.plain_is) constants) in
    subst (λ m. IsRounded q t m y word) constants.gamma_is (subst (λ m. IsRounded q m c.gamma y word) constants.plain_is
    (rounds.1 q y own (subst (λ m. in_plain ≡ residue m y) (sym constants.plain_is) plain_is)
    (subst (λ m. in_gamma ≡ residue m y) (sym constants.gamma_is) gamma_is)))

-- one more word is written
pub word_written : (P : ℕ → ℕ → Type 0) (row : List ℕ) (k word : ℕ) → k < length row → ((j : ℕ) → j < k → P j (slice_index row j)) → P k word
    → (j : ℕ) → j < k + 1 → P j (slice_index (set row k word) j)
word_written P row k word within before now = below_more (λ j. P j (slice_index (set row k word) j)) k
    (λ j less. subst (P j) (sym (get_or-set_other row k j word 0 (λ same. absurd (omega arith)))) (before j less))
    (subst (P k) (sym (get_or-set_same row k word 0 within)) now)
