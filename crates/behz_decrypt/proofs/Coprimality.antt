-- q is coprime to both moduli of decryption, and these to one another.
use Rattle.std.proofs.Common.{◌≡◌, ℕ, ◌%◌, ◌<◌, ◌++◌, subst, sym, List, [], ◌∷◌, length, All, Contains, arith, slice_index}
use Rattle.std.specs.Int.{IsGcd}
use Rattle.std.specs.List.{EachIndex}
use Rattle.std.proofs.Math.Seq.{take-length}
use Rattle.std.proofs.lemmas.Nat.Gcd.{IsGcd-swap}
use Rattle.std.proofs.lemmas.List.Elements.{All-contains, All-contains_itself, All-from_get_or, All-head, All-take, All-weaker, Contains-append_left}
use Rattle.set_table.specs.declared.SetName.{SetName}
use Rattle.set_table.specs.Sets.{data_of, key_of, plain_of, special_of, list_of, gamma, transform_moduli_of}
use Rattle.ring_law.specs.Moduli.{product}
use Rattle.ring_law.specs.Residues.{HasInverse}
use Rattle.ring_law.proofs.Inverses.{HasInverse-from_IsGcd, HasInverse-swap, IsGcd-from_HasInverse}
use Rattle.ring_law.proofs.Moduli.{HasInverse-product}
use Rattle.res_base.specs.Sizes.{FitTogether}
use Rattle.res_base.proofs.Bases.{HasInverse-mod}
use Rattle.res_base.proofs.Coprimality.{PairwiseCoprime-append_across}
use Rattle.res_base.proofs.Sizes.{fit_together}
use Rattle.bfv_params.specs.Moduli.{data_at}
use Rattle.bfv_params.proofs.Coprimality.{plain_coprime}
use Rattle.bfv_params.proofs.Tables.{beside_keys, listed_parts, plain_listed}

-- the data moduli have listed roots
pub data_listed : (set : SetName) (level : ℕ) → All (Contains (transform_moduli_of set)) (data_at set level)
data_listed set level =
    let Listed : ℕ → Type 0 = Contains (transform_moduli_of set) in
    All-take Listed level (data_of set) (All-weaker (Contains (data_of set)) Listed
    (λ q inside. subst (λ (qs : List ℕ). Contains qs q) (sym_listed set)
    (Contains-append_left (key_of set) (beside_keys set) q (Contains-append_left (data_of set) (list_of (special_of set)) q inside)))
    (data_of set) (All-contains_itself (data_of set)))
  where
    sym_listed : (set : SetName) → key_of set ++ beside_keys set ≡ transform_moduli_of set
    sym_listed set = sym (listed_parts set)

coprime_to_gamma : (set : SetName) → All (λ q. IsGcd q gamma 1) (transform_moduli_of set)
coprime_to_gamma set =
    let fit : FitTogether set = fit_together set in
    All-weaker (λ q. All (λ p. IsGcd q p 1) (gamma ∷ [])) (λ q. IsGcd q gamma 1) (λ q each. All-head (λ p. IsGcd q p 1) gamma [] each)
    (transform_moduli_of set) (PairwiseCoprime-append_across (transform_moduli_of set) (gamma ∷ []) fit.coprime)

pub gamma_coprime_to_plain : (set : SetName) → IsGcd gamma (plain_of set) 1
gamma_coprime_to_plain set =
    IsGcd-swap (plain_of set) gamma 1 (All-contains (λ q. IsGcd q gamma 1) (transform_moduli_of set) (plain_of set) (coprime_to_gamma set) (plain_listed set))

-- q has an inverse modulo gamma
pub HasInverse-gamma : (set : SetName) (level : ℕ) → HasInverse gamma (product (data_at set level))
HasInverse-gamma set level =
    HasInverse-product gamma (data_at set level) (All-weaker (Contains (transform_moduli_of set)) (HasInverse gamma)
    (λ q listed. HasInverse-swap q gamma
    (HasInverse-from_IsGcd q gamma (All-contains (λ p. IsGcd p gamma 1) (transform_moduli_of set) q (coprime_to_gamma set) listed)))
    (data_at set level) (data_listed set level))

-- and modulo t
pub HasInverse-plain : (set : SetName) (level : ℕ) → HasInverse (plain_of set) (product (data_at set level))
HasInverse-plain set level =
    let t = plain_of set in
    let whole : data_at set (length (data_of set)) ≡ data_of set = take-length (data_of set) in
    let each : EachIndex (data_of set) (λ i. IsGcd t (slice_index (data_of set) i) 1) =
    subst (λ qs. EachIndex qs (λ i. IsGcd t (slice_index qs i) 1)) whole (plain_coprime set (length (data_of set)) (omega arith)) in
    HasInverse-product t (data_at set level) (All-take (HasInverse t) level (data_of set) (All-from_get_or (HasInverse t) (data_of set) 0
    (λ i inside. HasInverse-from_IsGcd t (slice_index (data_of set) i) (each i inside))))

pub coprime_from_inverse : (m q : ℕ) → HasInverse m q → IsGcd q m 1
coprime_from_inverse m q inverse = IsGcd-swap m q 1 (IsGcd-from_HasInverse m q inverse)

-- so is its residue
pub coprime_residue : (m q : ℕ) → 0 < m → IsGcd q m 1 → IsGcd (q % m) m 1
coprime_residue m q positive coprime =
    coprime_from_inverse m (q % m) (HasInverse-mod m q positive (HasInverse-from_IsGcd m q (IsGcd-swap q m 1 coprime)))
