-- Greatest common divisors by Euclid, and inverses modulo m.
use Rattle.std.proofs.Common.{◌≡◌, ℕ, zero, suc, ◌+◌, ◌*◌, ◌%◌, ◌/◌, ◌<◌, refl, sym, ap, ◌∙◌, subst, arith, ℤ, pos, neg_ℤ, ◌+ℤ◌, ◌-ℤ◌, ◌*ℤ◌, nat_abs, div-add-mod', mod-lt, ◌^◌, pow-suc}
use Rattle.std.specs.Int.{IsGcd}
use Rattle.std.proofs.lemmas.Nat.Gcd.{IsGcd-from_mod, IsGcd-from_zero, same_from_IsGcd, dvd_of_mod-eq-zero, mod-eq-zero_of_dvd}
use Rattle.std.proofs.Math.Nat.{one-dvd, zero-mod}
use Rattle.ring_law.specs.Residues.{Congruent, HasInverse}
use Rattle.ring_law.proofs.RingSolver.{identity1, identity2, identity3, identity4, identity5, literal, minus, ◌⊕◌, ◌⊖◌, ◌⊗◌}
use Rattle.ring_law.proofs.Congruence.{Congruent-add, Congruent-equal, Congruent-mul, Congruent-refl, Congruent-trans, Congruent-zero}
use Rattle.ring_law.proofs.Residues.{residue_equal}

-- ---- Euclid
-- a greatest common divisor of a and b as a combination of them
pub record Bezout (a b : ℕ) : Type 0 where
  pub divisor : ℕ
  pub is_gcd : IsGcd a b divisor
  pub first : ℤ
  pub second : ℤ
  pub equation : first *ℤ pos a +ℤ second *ℤ pos b ≡ pos divisor

bezout_by : (fuel a b : ℕ) → b < fuel → Bezout a b
bezout_by zero a b l = absurd (omega arith)
bezout_by (suc fuel) a zero l =
    record {
      divisor = a;
      is_gcd = IsGcd-from_zero a 0 refl;
      first = pos 1;
      second = pos 0;
      equation = identity1 (λ a. literal (pos 1) ⊗ a ⊕ literal (pos 0) ⊗ literal (pos 0)) (λ a. a) refl (pos a);
    }
bezout_by (suc fuel) a (suc b) l = from (bezout_by fuel (suc b) (a % suc b) (small fuel a b l))
  where
    small : (fuel a b : ℕ) → suc b < suc fuel → a % suc b < fuel
    small fuel a b l = let p : 0 < suc b = omega arith in let h = mod-lt a p in omega arith

    from : Bezout (suc b) (a % suc b) → Bezout a (suc b)
    from r = record {
      divisor = r.divisor;
      is_gcd = IsGcd-from_mod a (suc b) r.divisor r.is_gcd;
      first = r.second;
      second = r.first -ℤ r.second *ℤ pos (a / suc b);
      equation = ap (λ x. r.second *ℤ pos x +ℤ (r.first -ℤ r.second *ℤ pos (a / suc b)) *ℤ pos (suc b)) (sym (div-add-mod' a (suc b)))
          ∙ identity5 (λ u v q b m. v ⊗ (q ⊗ b ⊕ m) ⊕ (u ⊖ v ⊗ q) ⊗ b) (λ u v q b m. u ⊗ b ⊕ v ⊗ m) refl r.first r.second (pos (a / suc b)) (pos (suc b))
          (pos (a % suc b))
          ∙ r.equation;
    }

-- there is one for each pair, by Euclid
pub bezout : (a b : ℕ) → Bezout a b
bezout a b = bezout_by (suc b) a b (omega arith)

-- what is coprime to q has an inverse modulo q
pub HasInverse-from_IsGcd : (q r : ℕ) → IsGcd q r 1 → HasInverse q r
HasInverse-from_IsGcd q r h =
    let z = bezout q r in
    let one : z.divisor ≡ 1 = same_from_IsGcd q r z.divisor 1 z.is_gcd h in
    record {
      inverse = z.second;
      is_one = record {
        quotient = neg_ℤ z.first;
        equation = identity4 (λ u v q r. v ⊗ r) (λ u v q r. (u ⊗ q ⊕ v ⊗ r) ⊕ minus u ⊗ q) refl z.first z.second (pos q) (pos r)
            ∙ ap (λ x. x +ℤ neg_ℤ z.first *ℤ pos q) (z.equation ∙ ap pos one);
      };
    }

-- ---- products
-- products of what has an inverse have one
pub HasInverse-mul : (q r s : ℕ) → HasInverse q r → HasInverse q s → HasInverse q (r * s)
HasInverse-mul q r s h k =
    record {
      inverse = h.inverse *ℤ k.inverse;
      is_one = Congruent-trans q
          (Congruent-equal q (identity4 (λ a b r s. (a ⊗ b) ⊗ (r ⊗ s)) (λ a b r s. (a ⊗ r) ⊗ (b ⊗ s)) refl h.inverse k.inverse (pos r) (pos s)))
          (Congruent-mul q h.is_one k.is_one);
    }

-- an inverse shows that there is no common divisor
pub IsGcd-from_HasInverse : (q r : ℕ) → HasInverse q r → IsGcd q r 1
IsGcd-from_HasInverse q r i =
    (one-dvd q, one-dvd r, λ d a b. dvd_of_mod-eq-zero d (last d (one_is d (mod-eq-zero_of_dvd d a) (mod-eq-zero_of_dvd d b))))
  where
    none : (d m : ℕ) → m % d ≡ 0 → Congruent d (pos m) (pos 0)
    none d m e = record { quotient = pos (m / d); equation = ap pos (let f = div-add-mod' m d in omega arith) }

    one_is : (d : ℕ) → q % d ≡ 0 → r % d ≡ 0 → Congruent d (pos 1) (pos 0)
    one_is d x y =
        Congruent-trans d
        (Congruent-equal d
        (identity2 (λ t q. literal (pos 1)) (λ t q. (literal (pos 1) ⊕ t ⊗ q) ⊕ minus t ⊗ q) refl i.is_one.quotient (pos q)
        ∙ ap (λ z. z +ℤ neg_ℤ i.is_one.quotient *ℤ pos q) (sym i.is_one.equation)))
        (Congruent-trans d
        (Congruent-add d (Congruent-mul d (Congruent-refl d i.inverse) (none d r y))
        (Congruent-mul d (Congruent-refl d (neg_ℤ i.is_one.quotient)) (none d q x)))
        (Congruent-equal d (identity2 (λ a b. a ⊗ literal (pos 0) ⊕ minus b ⊗ literal (pos 0)) (λ a b. literal (pos 0)) refl i.inverse i.is_one.quotient)))

    last : (d : ℕ) → Congruent d (pos 1) (pos 0) → 1 % d ≡ 0
    last zero c = absurd (let e = Congruent-zero c in let f : 1 ≡ 0 = ap nat_abs e in omega arith)
    last (suc d) c = residue_equal (suc d) (pos 1) (pos 0) (omega arith) c ∙ zero-mod (suc d)

-- q has an inverse modulo r where r has one modulo q
pub HasInverse-swap : (q r : ℕ) → HasInverse q r → HasInverse r q
HasInverse-swap q r i = record {
  inverse = neg_ℤ i.is_one.quotient;
  is_one = record {
    quotient = neg_ℤ i.inverse;
    equation =
        identity3 (λ t q b. minus t ⊗ q) (λ t q b. literal (pos 1) ⊖ (literal (pos 1) ⊕ t ⊗ q)) refl i.is_one.quotient (pos q) (pos 0)
        ∙ ap (λ z. pos 1 -ℤ z) (sym i.is_one.equation)
        ∙ identity2 (λ b r. literal (pos 1) ⊖ b ⊗ r) (λ b r. literal (pos 1) ⊕ minus b ⊗ r) refl i.inverse (pos r);
  };
}

-- where 2 has an inverse its powers have one
pub HasInverse-power_of_two : (q k : ℕ) → HasInverse q 2 → HasInverse q (2 ^ k)
HasInverse-power_of_two q zero i = record { inverse = pos 1; is_one = Congruent-refl q (pos 1) }
HasInverse-power_of_two q (suc k) i = subst (λ m. HasInverse q m) (sym (pow-suc 2 k)) (HasInverse-mul q (2 ^ k) 2 (HasInverse-power_of_two q k i) i)

-- an odd number and a power of two
pub HasInverse-odd : (h k : ℕ) → HasInverse (2 ^ k) (2 * h + 1)
HasInverse-odd h k =
    HasInverse-swap (2 * h + 1) (2 ^ k)
    (HasInverse-power_of_two (2 * h + 1) k (record { inverse = pos (h + 1); is_one = record { quotient = pos 1; equation = ap pos (sum h) } }))
  where
    sum : (h : ℕ) → (h + 1) * 2 ≡ 1 + 1 * (2 * h + 1)
    sum h = omega arith
