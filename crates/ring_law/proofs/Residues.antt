-- Residues and centred residues.
use Rattle.std.proofs.Common.{◌≡◌, ℕ, suc, ◌+◌, ◌-◌, ◌*◌, ◌%◌, ◌/◌, ◌<◌, ◌≤◌, refl, sym, ap, ◌∙◌, arith, ℤ, pos, negsuc, neg_ℤ, ◌+ℤ◌, ◌-ℤ◌, nat_abs, div-add-mod', mod-lt, mod-eq_of_lt, Bool, true, false, cond, nat_le, ⊎_elim, leb-true, leb-false, ◌*ℤ◌, subst}
use Rattle.std.proofs.lemmas.Int.{ints}
use Rattle.std.proofs.lemmas.Bool.{cases_lt}
use Rattle.ring_law.specs.Residues.{Congruent, centred_residue, nearest_to_zero, residue}
use Rattle.ring_law.proofs.RingSolver.{identity1, identity2, literal, ◌⊕◌, ◌⊖◌, ◌⊗◌}
use Rattle.ring_law.proofs.Congruence.{Congruent-add, Congruent-equal, Congruent-mul, Congruent-near, Congruent-neg, Congruent-refl, Congruent-sym, Congruent-trans}

-- a residue is below its modulus
pub residue_lt : (m : ℕ) (x : ℤ) → 0 < m → residue m x < m
residue_lt m (pos a) h = mod-lt a h
residue_lt m (negsuc a) h = omega arith

-- and congruent to its number
pub Congruent-residue : (m : ℕ) (x : ℤ) → 0 < m → Congruent m x (pos (residue m x))
Congruent-residue m (pos a) h = record { quotient = pos (a / m); equation = ap pos (turn (div-add-mod' a m)) }
  where
    turn : {q : ℕ} → a / m * m + a % m ≡ q → q ≡ a % m + a / m * m
    turn e = omega arith
Congruent-residue m (negsuc a) h =
    record {
      quotient = negsuc (a / m);
      equation = let e = div-add-mod' a m in let l = mod-lt a h in let o : suc (a / m) * m ≡ a / m * m + m = omega arith in omega (arith, ints);
    }

-- residues of congruent numbers are equal
pub residue_equal : (m : ℕ) (x y : ℤ) → 0 < m → Congruent m x y → residue m x ≡ residue m y
residue_equal m x y h c =
    ap nat_abs (Congruent-near m (pos (residue m x)) (pos (residue m y))
    (Congruent-trans m (Congruent-sym m (Congruent-residue m x h)) (Congruent-trans m c (Congruent-residue m y h)))
    (let a = residue_lt m x h in let b = residue_lt m y h in omega (arith, ints)))

-- numbers with equal residues are congruent
pub Congruent-from_residues : (m : ℕ) (x y : ℤ) → 0 < m → residue m x ≡ residue m y → Congruent m x y
Congruent-from_residues m x y h e =
    Congruent-trans m (Congruent-residue m x h) (Congruent-trans m (Congruent-equal m (ap pos e)) (Congruent-sym m (Congruent-residue m y h)))

-- the remainder is congruent to its number
pub Congruent-mod : (q m : ℕ) → 0 < q → Congruent q (pos (m % q)) (pos m)
Congruent-mod q m h = Congruent-sym q (Congruent-residue q (pos m) h)

-- the residue is the one word below q that is congruent
pub residue_unique : (q : ℕ) (z : ℤ) (r : ℕ) → r < q → Congruent q (pos r) z → r ≡ residue q z
residue_unique q z r l h = sym (mod-eq_of_lt l) ∙ residue_equal q (pos r) z (some q r l) h
  where
    some : (q r : ℕ) → r < q → 0 < q
    some q r l = omega arith

-- q less a reduced number is congruent to its negative
pub Congruent-negative_mod : (q m : ℕ) → 0 < q → Congruent q (pos (q - m % q)) (neg_ℤ (pos m))
Congruent-negative_mod q m h =
    Congruent-trans q (Congruent-equal q (split q (m % q) (let l = mod-lt m h in omega arith)))
    (Congruent-trans q (Congruent-add q whole (Congruent-neg q (Congruent-mod q m h))) (Congruent-equal q (zero_add (neg_ℤ (pos m)))))
  where
    whole : Congruent q (pos q) (pos 0)
    whole = record { quotient = pos 1; equation = identity1 (λ q. q) (λ q. literal (pos 0) ⊕ literal (pos 1) ⊗ q) refl (pos q) }

    split : (q r : ℕ) → r ≤ q → pos (q - r) ≡ pos q +ℤ neg_ℤ (pos r)
    split q r l = omega (arith, ints)

    zero_add : (z : ℤ) → pos 0 +ℤ z ≡ z
    zero_add z = omega (arith, ints)

-- the residues of a sum, a product and a negative, from those of the numbers
pub residue-add : (q : ℕ) (x y : ℤ) → 0 < q → residue q (x +ℤ y) ≡ (residue q x + residue q y) % q
residue-add q x y h =
    residue_equal q (x +ℤ y) (pos (residue q x) +ℤ pos (residue q y)) h (Congruent-add q (Congruent-residue q x h) (Congruent-residue q y h))

pub residue-mul : (q : ℕ) (x y : ℤ) → 0 < q → residue q (x *ℤ y) ≡ (residue q x * residue q y) % q
residue-mul q x y h =
    residue_equal q (x *ℤ y) (pos (residue q x) *ℤ pos (residue q y)) h (Congruent-mul q (Congruent-residue q x h) (Congruent-residue q y h))

pub residue-neg : (q : ℕ) (x : ℤ) → 0 < q → residue q (neg_ℤ x) ≡ (q - residue q x) % q
residue-neg q x h = residue_equal q (neg_ℤ x) (pos (q - residue q x)) h
    (Congruent-trans q (Congruent-neg q (Congruent-residue q x h))
    (Congruent-sym q
    (subst (λ r. Congruent q (pos (q - r)) (neg_ℤ (pos (residue q x)))) (mod-eq_of_lt (residue_lt q x h)) (Congruent-negative_mod q (residue q x) h))))

-- one step of a sum, and one of a difference, whose terms are reduced modulo q
pub residue_add : (q sum term word : ℕ) (z : ℤ) → 0 < q → sum ≡ residue q z → word ≡ (sum + term % q) % q → word ≡ residue q (z +ℤ pos term)
residue_add q sum term word z h e d =
    d ∙ residue_unique q (z +ℤ pos term) ((sum + term % q) % q) (mod-lt (sum + term % q) h)
    (Congruent-trans q (Congruent-mod q (sum + term % q) h)
    (Congruent-add q (Congruent-trans q (Congruent-equal q (ap pos e)) (Congruent-sym q (Congruent-residue q z h))) (Congruent-mod q term h)))

pub residue_sub : (q sum term word : ℕ) (z : ℤ) → 0 < q → sum ≡ residue q z → word ≡ (sum + (q - term % q)) % q →
    word ≡ residue q (z +ℤ neg_ℤ (pos term))
residue_sub q sum term word z h e d =
    d ∙ residue_unique q (z +ℤ neg_ℤ (pos term)) ((sum + (q - term % q)) % q) (mod-lt (sum + (q - term % q)) h)
    (Congruent-trans q (Congruent-mod q (sum + (q - term % q)) h)
    (Congruent-add q (Congruent-trans q (Congruent-equal q (ap pos e)) (Congruent-sym q (Congruent-residue q z h))) (Congruent-negative_mod q term h)))

-- a residue less the modulus is congruent to it
Congruent-nearest_to_zero : (m r : ℕ) → Congruent m (pos r) (nearest_to_zero m r)
Congruent-nearest_to_zero m r = by (nat_le (2 * r) m)
  where
    by : (t : Bool) → Congruent m (pos r) (cond t (pos r) (pos r -ℤ pos m))
    by true = Congruent-refl m (pos r)
    by false = record { quotient = pos 1; equation = identity2 (λ r m. r) (λ r m. r ⊖ m ⊕ literal (pos 1) ⊗ m) refl (pos r) (pos m) }

-- a centred residue is congruent to its number
pub Congruent-centred_residue : (m : ℕ) (x : ℤ) → 0 < m → Congruent m x (centred_residue m x)
unfolding centred_residue
Congruent-centred_residue m x h = Congruent-trans m (Congruent-residue m x h) (Congruent-nearest_to_zero m (residue m x))

-- -m < 2 * centred ≤ m, told by absolute values
pub centred_residue_size : (m : ℕ) (x : ℤ) → 0 < m → 2 * nat_abs (centred_residue m x) ≤ m
unfolding centred_residue
centred_residue_size m x h = by (nat_le (2 * residue m x) m) refl
  where
    by : (t : Bool) → nat_le (2 * residue m x) m ≡ t → 2 * nat_abs (cond t (pos (residue m x)) (pos (residue m x) -ℤ pos m)) ≤ m
    by true e = leb-true (2 * residue m x) m e
    by false e = let a = leb-false (2 * residue m x) m e in let b = residue_lt m x h in omega (arith, ints)

-- a number of less than half m in absolute value is its own centred residue, and that of what is congruent to it
pub centred_residue_small : (m : ℕ) (x y : ℤ) → Congruent m x y → 2 * nat_abs y < m → centred_residue m x ≡ y
centred_residue_small m x y c l =
    Congruent-near m (centred_residue m x) y (Congruent-trans m (Congruent-sym m (Congruent-centred_residue m x (some m y l))) c)
    (let a = centred_residue_size m x (some m y l) in omega (arith, ints))
  where
    some : (m : ℕ) (y : ℤ) → 2 * nat_abs y < m → 0 < m
    some m y l = omega arith

-- it has the least absolute value of all that are congruent
pub centred_residue_least : (m : ℕ) (x y : ℤ) → 0 < m → Congruent m x y → nat_abs (centred_residue m x) ≤ nat_abs y
centred_residue_least m x y h c = ⊎_elim (λ l. absurd (clash l)) (λ l. l) (cases_lt (nat_abs y) (nat_abs (centred_residue m x)))
  where
    clash : nat_abs y < nat_abs (centred_residue m x) → ⊥
    clash l =
        let a = centred_residue_size m x h in
        let s : 2 * nat_abs y < m = omega arith in
        let e = ap nat_abs (centred_residue_small m x y c s) in
        omega arith

-- the tie goes to the positive one
pub centred_residue_tie : (m : ℕ) (x : ℤ) → 0 < m → 2 * nat_abs (centred_residue m x) ≡ m → centred_residue m x ≡ pos (nat_abs (centred_residue m x))
unfolding centred_residue
centred_residue_tie m x h = by (nat_le (2 * residue m x) m) refl
  where
    by : (t : Bool) → nat_le (2 * residue m x) m ≡ t → 2 * nat_abs (cond t (pos (residue m x)) (pos (residue m x) -ℤ pos m)) ≡ m →
        cond t (pos (residue m x)) (pos (residue m x) -ℤ pos m) ≡ pos (nat_abs (cond t (pos (residue m x)) (pos (residue m x) -ℤ pos m)))
    by true e s = refl
    by false e s = absurd (let a = leb-false (2 * residue m x) m e in let b = residue_lt m x h in omega (arith, ints))

-- the one congruent number of absolute value at most m / 2, positive in a tie
pub centred_residue_unique : (m : ℕ) (x y : ℤ) → 0 < m → Congruent m x y → 2 * nat_abs y ≤ m → (2 * nat_abs y ≡ m → y ≡ pos (nat_abs y)) →
    centred_residue m x ≡ y
centred_residue_unique m x y h c l tie = ⊎_elim
    (λ (a : nat_abs (centred_residue m x -ℤ y) < m). Congruent-near m (centred_residue m x) y
    (Congruent-trans m (Congruent-sym m (Congruent-centred_residue m x h)) c) a)
    (λ (a : m ≤ nat_abs (centred_residue m x -ℤ y)).
    let s = centred_residue_size m x h in
    let p : 2 * nat_abs (centred_residue m x) ≡ m = omega (arith, ints) in
    let q : 2 * nat_abs y ≡ m = omega (arith, ints) in
    let u = centred_residue_tie m x h p in
    let v = tie q in
    u ∙ ap pos (half p q) ∙ sym v)
    (cases_lt (nat_abs (centred_residue m x -ℤ y)) m)
  where
    half : {a b : ℕ} → 2 * a ≡ m → 2 * b ≡ m → a ≡ b
    half p q = omega arith
