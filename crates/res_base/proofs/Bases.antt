-- What a base gives of its moduli and of the products of the others.
use Rattle.std.proofs.Common.{◌≡◌, ℕ, ◌≤◌, ◌%◌, ◌^◌, ◌<◌, ◌&&◌, arith, List, Bool, true, nat_le, nat_lt, nat_eq, length, get_or, slice_index, All}
use Rattle.std.specs.Int.{IsGcd}
use Rattle.std.specs.List.{list_all}
use Rattle.std.proofs.lemmas.Bool.Decides.{nat_tests}
use Rattle.std.proofs.lemmas.List.Sums.{AllPass-from_list_all}
use Rattle.std.proofs.lemmas.Nat.Gcd.{IsGcd-swap}
use Rattle.word_mod.specs.Moduli.{IsModulus}
use Rattle.ring_law.specs.Residues.{HasInverse}
use Rattle.ring_law.specs.Moduli.{AllAboveOne, product_of_others}
use Rattle.ring_law.proofs.Congruence.{Congruent-mul, Congruent-refl, Congruent-trans}
use Rattle.ring_law.proofs.Residues.{Congruent-mod}
use Rattle.ring_law.proofs.Inverses.{IsGcd-from_HasInverse}
use Rattle.ring_law.proofs.Moduli.{PairwiseInvertible-from_coprime}
use Rattle.ring_law.proofs.ModuliTests.{all_coprime}
use Rattle.ring_law.proofs.ChineseRemainder.{HasInverse-product_of_others}
use Rattle.res_base.specs.Bases.{IsBase}
use Rattle.res_base.proofs.Coprimality.{PairwiseCoprime-from_test}

pub IsModulus-from_IsBase : (qs : List ℕ) → IsBase qs → (i : ℕ) → i < length qs → IsModulus (slice_index qs i)
IsModulus-from_IsBase qs base i within = base.each i 0 within

pub AllAboveOne-from_IsBase : (qs : List ℕ) → IsBase qs → AllAboveOne qs
AllAboveOne-from_IsBase qs base i within = let three = (IsModulus-from_IsBase qs base i within).from_three in omega arith

-- ---- the products of the others
-- an inverse modulo q is one of the residue
pub HasInverse-mod : (q r : ℕ) → 0 < q → HasInverse q r → HasInverse q (r % q)
HasInverse-mod q r positive h = record {
  inverse = h.inverse;
  is_one = Congruent-trans q (Congruent-mul q (Congruent-refl q h.inverse) (Congruent-mod q r positive)) h.is_one;
}

-- the product of the others, reduced, is coprime to each modulus of a base
pub coprime_to_others : (qs : List ℕ) → IsBase qs → (i : ℕ) → i < length qs → IsGcd (product_of_others qs i % slice_index qs i) (slice_index qs i) 1
coprime_to_others qs base i within =
    let q : ℕ = slice_index qs i in
    let three = (IsModulus-from_IsBase qs base i within).from_three in
    let inverse : HasInverse q (product_of_others qs i) = HasInverse-product_of_others qs (PairwiseInvertible-from_coprime qs base.coprime) i within in
    IsGcd-swap q (product_of_others qs i % q) 1 (IsGcd-from_HasInverse q (product_of_others qs i % q) (HasInverse-mod q (product_of_others qs i) (omega arith) inverse))

-- ---- by tests that compute
unfoldable pub is_modulus : ℕ → Bool
is_modulus q = nat_le 3 q && nat_eq (q % 2) 1 && nat_lt q (2 ^ 61)

IsModulus-from_test : (q : ℕ) → is_modulus q ≡ true → IsModulus q
unfolding is_modulus
IsModulus-from_test q test = record { from_three = grind (arith, nat_tests); odd = grind (arith, nat_tests); below = grind (arith, nat_tests) }

pub All-from_test : (qs : List ℕ) → list_all is_modulus qs ≡ true → All IsModulus qs
All-from_test qs test = λ k d within. IsModulus-from_test (get_or qs k d) (AllPass-from_list_all is_modulus qs test k d within)

pub IsBase-from_test : (qs : List ℕ) → 0 < length qs → length qs ≤ 32 → list_all is_modulus qs ≡ true → all_coprime qs ≡ true → IsBase qs
IsBase-from_test qs not_empty few each coprime = record {
  not_empty = not_empty;
  few = few;
  each = All-from_test qs each;
  coprime = PairwiseCoprime-from_test qs coprime;
}
