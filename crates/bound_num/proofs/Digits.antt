-- Binary digits, and the 32 that lead.
use Rattle.std.proofs.Common.{◌≡◌, ℕ, zero, suc, ◌+◌, ◌-◌, ◌*◌, ◌/◌, ◌^◌, ◌<◌, ◌≤◌, inl, inr, ⊎_elim, refl, ap, ◌∙◌, arith, pow-add, le_antisymm}
use Rattle.std.specs.Int.Count.{count_leading_zeros}
use Rattle.std.proofs.lemmas.Bool.{cases_lt}
use Rattle.std.proofs.lemmas.Nat.{leading_length}
use Rattle.bound_num.specs.Bound.{digits_within, bit_length}
use Rattle.bound_num.proofs.Grid.{Fills, pow_two-le}

-- x has k binary digits
pub record HasDigits (x k : ℕ) : Type 0 where
  pub below : x < 2 ^ k
  pub above : 2 ^ k ≤ 2 * x + 1

digits_within-has : (most x : ℕ) → x ≤ most → HasDigits x (digits_within most x)
unfolding digits_within
digits_within-has zero x l = record { below = omega arith; above = omega arith }
digits_within-has (suc most) zero l = record { below = omega arith; above = omega arith }
digits_within-has (suc most) (suc x) l =
    doubled (suc x) (digits_within most (suc x / 2)) (omega arith) (digits_within-has most (suc x / 2) (omega arith))
  where
    doubled : (x k : ℕ) → 0 < x → HasDigits (x / 2) k → HasDigits x (suc k)
    doubled x zero positive half = let none = half.below in record { below = omega arith; above = omega arith }
    doubled x (suc k) positive half =
        let low = half.below in
        let high = half.above in
        record { below = omega arith; above = omega arith }

pub bit_length-has : (x : ℕ) → HasDigits x (bit_length x)
unfolding bit_length
bit_length-has x = digits_within-has x x (omega arith)

digits-le : (x j k : ℕ) → 2 ^ j ≤ 2 * x + 1 → x < 2 ^ k → j ≤ k
digits-le x j k high low =
    ⊎_elim
    (λ (less : k < j). absurd (let twice = pow_two-le (suc k) j less in omega arith))
    (λ (more : j ≤ k). more)
    (cases_lt k j)

pub bit_length_is : (x k : ℕ) → HasDigits x k → k ≡ bit_length x
bit_length_is x k has =
    let own = bit_length-has x in
    le_antisymm (digits-le x k (bit_length x) has.above own.below) (digits-le x (bit_length x) k own.above has.below)

pub bit_length-le : (x k : ℕ) → x < 2 ^ k → bit_length x ≤ k
bit_length-le x k l = digits-le x (bit_length x) k (bit_length-has x).above l

-- what is left of a word below its leading zeros
pub sub-leading_zeros : (n : ℕ) → n < 2 ^ 128 → 128 - count_leading_zeros 128 n ≡ bit_length n
sub-leading_zeros n fits = by (leading_length 128 n fits)
  where
    rest : (z k : ℕ) → z + k ≡ 128 → 128 - z ≡ k
    rest z k total = omega arith

    by : (k : ℕ) × (count_leading_zeros 128 n + k ≡ 128) × (n < 2 ^ k) × (2 ^ k ≤ 2 * n + 1) → 128 - count_leading_zeros 128 n ≡ bit_length n
    by (k, total, below, above) = rest (count_leading_zeros 128 n) k total ∙ bit_length_is n k (record { below = below; above = above })

-- ---- the last of the 32 leading digits of x counts 2 ^ f
pub record Leads (x f : ℕ) : Type 0 where
  pub below : x < 2 ^ 32 * 2 ^ f
  pub fills : Fills x f

leads_of : (x k f : ℕ) → HasDigits x k → f ≡ k - 32 → Leads x f
leads_of x k zero has is =
    let few = pow_two-le k 32 (omega arith) in
    let below = has.below in
    record { below = omega arith; fills = inl refl }
leads_of x k (suc f) has is =
    let parts : 2 ^ k ≡ 2 ^ 32 * 2 ^ suc f = ap (λ j. 2 ^ j) (whole k f is) ∙ pow-add 2 32 (suc f) in
    let below = has.below in
    let above = has.above in
    record { below = omega arith; fills = inr (omega arith) }
  where
    whole : (k f : ℕ) → suc f ≡ k - 32 → k ≡ 32 + suc f
    whole k f is = omega arith

pub bit_length-leads : (x f : ℕ) → f ≡ bit_length x - 32 → Leads x f
bit_length-leads x f is = leads_of x (bit_length x) f (bit_length-has x) is
