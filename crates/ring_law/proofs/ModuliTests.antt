-- Tests that compute: coprime lists, moduli above 1, powers by squaring.
use Rattle.std.proofs.Common.{◌≡◌, ℕ, zero, suc, ◌+◌, ◌*◌, ◌%◌, ◌^◌, ◌≤◌, refl, sym, ap, ◌∙◌, subst, arith, List, [], ◌∷◌, Bool, true, false, eqb, leb-true, T, eqb→eq, All, pow-suc, nat_le, ◌<◌, length, slice_index}
use Rattle.std.proofs.Math.Nat.{pow-zero}
use Rattle.std.proofs.lemmas.Nat.{pow-mod, mul-pow, pow-add}
use Rattle.std.specs.Int.{IsGcd}
use Rattle.std.proofs.lemmas.Nat.Gcd.{IsGcd-from_mod, IsGcd-from_zero}
use Rattle.std.proofs.lemmas.List.Elements.{All-cons, All-nil}
use Rattle.ring_law.specs.Residues.{HasInverse}
use Rattle.ring_law.specs.Moduli.{AllAboveOne}
use Rattle.ring_law.proofs.Inverses.{HasInverse-from_IsGcd}
use Rattle.ring_law.proofs.Moduli.{PairwiseInvertible}

-- Euclid, with 0 where the steps run out
abbrev pub euclid : ℕ → ℕ → ℕ → ℕ
euclid zero a b = 0
euclid (suc f) a zero = a
euclid (suc f) a (suc b) = euclid f (suc b) (a % suc b)

-- numbers for which it is 1 are coprime
pub IsGcd-from_euclid : (f a b : ℕ) → euclid f a b ≡ 1 → IsGcd a b 1
IsGcd-from_euclid zero a b e = absurd (omega arith)
IsGcd-from_euclid (suc f) a zero e = subst (λ g. IsGcd a 0 g) e (IsGcd-from_zero a 0 refl)
IsGcd-from_euclid (suc f) a (suc b) e = IsGcd-from_mod a (suc b) 1 (IsGcd-from_euclid f (suc b) (a % suc b) e)

-- q is coprime to each of the list
abbrev pub coprime_to : ℕ → List ℕ → Bool
coprime_to q [] = true
coprime_to q (r ∷ rs) = elim (eqb (euclid 100 q r) 1) [ true ↦ coprime_to q rs | false ↦ false ]

-- any two of the list are coprime
abbrev pub all_coprime : List ℕ → Bool
all_coprime [] = true
all_coprime (q ∷ qs) = elim (coprime_to q qs) [ true ↦ all_coprime qs | false ↦ false ]

All-from_coprime_to : (q : ℕ) (rs : List ℕ) → coprime_to q rs ≡ true → All (HasInverse q) rs
All-from_coprime_to q [] h = All-nil (HasInverse q)
All-from_coprime_to q (r ∷ rs) h = go (eqb (euclid 100 q r) 1) refl h (All-from_coprime_to q rs)
  where
    go : (t : Bool) → eqb (euclid 100 q r) 1 ≡ t → elim t as (λ _. Bool) [ true ↦ coprime_to q rs | false ↦ false ] ≡ true →
        (coprime_to q rs ≡ true → All (HasInverse q) rs) → All (HasInverse q) (r ∷ rs)
    go true e h f =
        All-cons (HasInverse q) r rs (HasInverse-from_IsGcd q r (IsGcd-from_euclid 100 q r (eqb→eq (euclid 100 q r) 1 (subst T (sym e) tt)))) (f h)
    go false e h f = absurd cc

-- a list that passes the test has coprime numbers
pub PairwiseInvertible-from_test : (qs : List ℕ) → all_coprime qs ≡ true → PairwiseInvertible qs
PairwiseInvertible-from_test [] h = tt
PairwiseInvertible-from_test (q ∷ qs) h = go (coprime_to q qs) refl h (PairwiseInvertible-from_test qs)
  where
    go : (t : Bool) → coprime_to q qs ≡ t → elim t as (λ _. Bool) [ true ↦ all_coprime qs | false ↦ false ] ≡ true →
        (all_coprime qs ≡ true → PairwiseInvertible qs) → PairwiseInvertible (q ∷ qs)
    go true e h f = (All-from_coprime_to q qs e, f h)
    go false e h f = absurd cc

-- all of the list are above 1
abbrev pub all_above_one : List ℕ → Bool
all_above_one [] = true
all_above_one (q ∷ qs) = elim (nat_le 2 q) [ true ↦ all_above_one qs | false ↦ false ]

-- a list that passes this test has moduli above 1
pub AllAboveOne-from_test : (qs : List ℕ) → all_above_one qs ≡ true → AllAboveOne qs
AllAboveOne-from_test [] h = λ j l. absurd (omega arith)
AllAboveOne-from_test (q ∷ qs) h = go (nat_le 2 q) refl h (AllAboveOne-from_test qs)
  where
    here : 2 ≤ q → AllAboveOne qs → (j : ℕ) → j < suc (length qs) → 1 < slice_index (q ∷ qs) j
    here a f zero l = a
    here a f (suc j) l = f j (omega arith)

    go : (t : Bool) → nat_le 2 q ≡ t → elim t as (λ _. Bool) [ true ↦ all_above_one qs | false ↦ false ] ≡ true →
        (all_above_one qs ≡ true → AllAboveOne qs) → (j : ℕ) → j < suc (length qs) → 1 < slice_index (q ∷ qs) j
    go true e h f = here (leb-true 2 q e) (f h)
    go false e h f = absurd cc

-- x^(2^k) modulo p by k squarings
abbrev pub repeated_square : ℕ → ℕ → ℕ → ℕ
repeated_square p zero x = x % p
repeated_square p (suc k) x = repeated_square p k ((x * x) % p)

-- repeated squares are powers
pub repeated_square-power : (p k x : ℕ) → repeated_square p k x ≡ (x ^ (2 ^ k)) % p
repeated_square-power p zero x = ap (λ y. y % p) (sym (pow-suc x 0 ∙ ap (λ y. y * x) (pow-zero x) ∙ one x))
  where
    one : (x : ℕ) → 1 * x ≡ x
    one x = omega arith
repeated_square-power p (suc k) x =
    repeated_square-power p k ((x * x) % p) ∙ pow-mod (x * x) (2 ^ k) p
    ∙ ap (λ y. y % p) (mul-pow x x (2 ^ k) ∙ sym (ap (λ e. x ^ e) (two (2 ^ k) (2 ^ suc k) (omega arith)) ∙ pow-add x (2 ^ k) (2 ^ k)))
  where
    two : (a b : ℕ) → b ≡ 2 * a → b ≡ a + a
    two a b e = omega arith
