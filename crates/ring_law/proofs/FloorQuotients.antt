-- Division of whole numbers rounded down.
use Rattle.std.proofs.Common.{◌≡◌, ℕ, suc, ◌+◌, ◌*◌, ◌%◌, ◌/◌, ◌<◌, ◌≤◌, sym, ap, ◌∙◌, arith, ℤ, pos, negsuc, ◌+ℤ◌, ◌*ℤ◌, nat_abs, div-add-mod', mod-lt, mul-le-mul_left, ⊎_elim}
use Rattle.std.proofs.Math.Nat.{div-le_of_le-mul, div-lt_iff_lt-mul, zero-mod}
use Rattle.std.proofs.lemmas.Int.{ints}
use Rattle.std.proofs.lemmas.Bool.{cases_lt}
use Rattle.ring_law.specs.Residues.{floor_quotient, residue}
use Rattle.ring_law.proofs.Congruence.{int_mul_cancel_left}
use Rattle.ring_law.proofs.Residues.{residue_equal}

-- ---- division rounded down
-- a number is its residue and its quotient times m
pub floor_quotient_equation : (m : ℕ) (x : ℤ) → 0 < m → x ≡ pos (residue m x) +ℤ floor_quotient m x *ℤ pos m
floor_quotient_equation m (pos a) h = ap pos (let e = div-add-mod' a m in turn e)
  where
    turn : {q : ℕ} → a / m * m + a % m ≡ q → q ≡ a % m + a / m * m
    turn e = omega arith
floor_quotient_equation m (negsuc a) h =
    let e = div-add-mod' a m in let l = mod-lt a h in let o : suc (a / m) * m ≡ a / m * m + m = omega arith in omega (arith, ints)

-- a bound that holds after multiplication by p, but for less than p
pub le_from_scaled : (p y a b : ℕ) → 0 < p → p * y ≤ p * a + b → b < p → y ≤ a
le_from_scaled p y a b h l s =
    ⊎_elim (λ (g : a < y). absurd (let m : p * suc a ≤ p * y = mul-le-mul_left p g in omega arith)) (λ (g : y ≤ a). g) (cases_lt a y)

-- the floor of a number of absolute value at most m * h
pub floor_quotient_size : (m h : ℕ) (x : ℤ) → 0 < m → nat_abs x ≤ m * h → nat_abs (floor_quotient m x) ≤ h
floor_quotient_size m h (pos a) s l = div-le_of_le-mul m l
floor_quotient_size m h (negsuc a) s l = (div-lt_iff_lt-mul s).1 (turn l)
  where
    turn : suc a ≤ m * h → a < h * m
    turn l = omega arith

-- an exact quotient
pub floor_quotient_exact : (m : ℕ) (z y : ℤ) → 0 < m → z ≡ y *ℤ pos m → z ≡ floor_quotient m z *ℤ pos m
floor_quotient_exact m z y h e =
    floor_quotient_equation m z h
    ∙ ap (λ r. pos r +ℤ floor_quotient m z *ℤ pos m)
    (residue_equal m z (pos 0) h (record { quotient = y; equation = e ∙ zero_add (y *ℤ pos m) }) ∙ zero-mod m)
    ∙ sym (zero_add (floor_quotient m z *ℤ pos m))
  where
    zero_add : (a : ℤ) → a ≡ pos 0 +ℤ a
    zero_add a = omega (arith, ints)

-- and there is one such
pub floor_quotient_unique : (m : ℕ) (z y : ℤ) → 0 < m → z ≡ y *ℤ pos m → floor_quotient m z ≡ y
floor_quotient_unique m z y h e =
    int_mul_cancel_left m (floor_quotient m z) y h (flip (pos m) (floor_quotient m z) ∙ sym (floor_quotient_exact m z y h e) ∙ e ∙ flip y (pos m))
  where
    flip : (a b : ℤ) → a *ℤ b ≡ b *ℤ a
    flip a b = omega (arith, ints)
