-- The Galois elements of steps.
use Rattle.std.proofs.Common.{◌≡◌, ◌≢◌, ℕ, zero, suc, ◌*◌, ◌/◌, ◌%◌, ◌^◌, ◌<◌, ◌≤◌, ap, subst, arith, pos}
use Rattle.ring_law.specs.Residues.{Congruent}
use Rattle.ring_law.proofs.Congruence.{Congruent-equal, Congruent-sym, Congruent-trans}
use Rattle.ring_law.proofs.Residues.{Congruent-mod}
use Rattle.ring_law.proofs.PowersOfThree.{power_of_three_once}
use Rattle.neg_ntt.specs.Parameters.{IsDegree}
use Rattle.neg_ntt.proofs.Steps.{IsPower-from_IsDegree}

-- a power of 3 with an exponent above 0 and below n/2 is not 1 modulo 2n
pub power_apart_from_one : (n step : ℕ) → IsDegree n → 0 < step → step < n / 2 → 3 ^ step % (2 * n) ≢ 1
power_apart_from_one n step degree some below is_one =
    let power = IsPower-from_IsDegree n degree in
    apart power.log_degree power.power power.from_four
  where
    order : (k : ℕ) → n ≡ 4 * 2 ^ k → ⊥
    order k four =
        let zero_step : step ≡ 0 = power_of_three_once k step 0 (omega (arith, below, four)) (omega (arith, below, four))
        (subst (λ m. Congruent m (pos (3 ^ step)) (pos 1)) (twice four)
        (Congruent-trans (2 * n) (Congruent-sym (2 * n) (Congruent-mod (2 * n) (3 ^ step) (omega (arith, below))))
        (Congruent-equal (2 * n) (ap pos is_one)))) in
        omega (arith, some)
      where
        twice : n ≡ 4 * 2 ^ k → 2 * n ≡ 8 * 2 ^ k
        twice e = omega arith

    apart : (log : ℕ) → n ≡ 2 ^ log → 4 ≤ n → ⊥
    apart zero is four = omega arith
    apart (suc zero) is four = omega arith
    apart (suc (suc k)) is four = order k (omega arith)
