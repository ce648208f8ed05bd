-- The moduli of a set that are coprime, as its conversions need.
use Rattle.std.proofs.Common.{◌≡◌, ℕ, ◌≤◌, ◌++◌, arith, sym, subst, ◌∙◌, ap, List, [], ◌∷◌, length, take, drop, get_or, Option, Some, None, All, Contains, slice_index}
use Rattle.std.specs.Int.{IsGcd}
use Rattle.std.specs.List.{EachIndex}
use Rattle.std.proofs.Math.Seq.{get_or-append_seam, take-append_seam}
use Rattle.std.proofs.lemmas.Nat.Gcd.{IsGcd-swap}
use Rattle.std.proofs.lemmas.List.{append-nil, length-take-le, take-append-drop, take-append-le}
use Rattle.std.proofs.lemmas.List.Elements.{All-contains, All-head, All-take, All-weaker}
use Rattle.std.proofs.lemmas.List.Quantifiers.{all_pairs_push}
use Rattle.set_table.specs.declared.SetName.{SetName}
use Rattle.set_table.specs.Sets.{data_of, key_of, aux_of, plain_of, special_of, list_of, m_sk, gamma, transform_moduli_of}
use Rattle.ring_law.specs.Moduli.{PairwiseCoprime, product}
use Rattle.ring_law.specs.Residues.{HasInverse}
use Rattle.ring_law.proofs.Inverses.{HasInverse-from_IsGcd, HasInverse-swap, IsGcd-from_HasInverse}
use Rattle.ring_law.proofs.Moduli.{HasInverse-product}
use Rattle.res_base.specs.Bases.{IsBase}
use Rattle.res_base.specs.Sizes.{FitTogether}
use Rattle.res_base.proofs.Coprimality.{PairwiseCoprime-append_across, PairwiseCoprime-append_left, PairwiseCoprime-append_right}
use Rattle.res_base.proofs.Sizes.{IsBase-aux_of, IsBase-data_of, IsBase-key_of, fit_together}
use Rattle.bfv_params.specs.Moduli.{data_at, key_at, wide_of}
use Rattle.bfv_params.proofs.Tables.{beside_keys, listed_parts, plain_beside, wide_beside}

-- p is coprime to each of the list
abbrev AllCoprimeTo : ℕ → List ℕ → Type 0
AllCoprimeTo p qs = All (λ q. IsGcd q p 1) qs

-- a number that is coprime to each of a list is coprime to their product
product_coprime : (qs : List ℕ) (p : ℕ) → AllCoprimeTo p qs → IsGcd (product qs) p 1
product_coprime qs p each =
    let invertible : All (HasInverse p) qs = All-weaker (λ q. IsGcd q p 1) (HasInverse p) (λ q coprime. HasInverse-swap q p (HasInverse-from_IsGcd q p coprime)) qs each in
    IsGcd-from_HasInverse (product qs) p (HasInverse-swap p (product qs) (HasInverse-product p qs invertible))

-- ---- the moduli at a level
pub data_coprime : (set : SetName) (level : ℕ) → PairwiseCoprime (data_at set level)
data_coprime set level =
    let base : IsBase (data_of set) = IsBase-data_of set in
    PairwiseCoprime-append_left (take level (data_of set)) (drop level (data_of set)) (subst PairwiseCoprime (sym (take-append-drop level (data_of set))) base.coprime)

coprime_with : (qs : List ℕ) (last : Option ℕ) → PairwiseCoprime qs → All (λ q. All (λ p. IsGcd q p 1) (list_of last)) qs → PairwiseCoprime (qs ++ list_of last)
coprime_with qs None coprime across = subst PairwiseCoprime (sym (append-nil qs)) coprime
coprime_with qs (Some p) coprime across = all_pairs_push (λ a b. IsGcd a b 1) qs p coprime (λ k d within. across k d within 0 0 (omega arith))

pub key_coprime : (set : SetName) (level : ℕ) → PairwiseCoprime (key_at set level)
key_coprime set level =
    let base : IsBase (key_of set) = IsBase-key_of set in
    let special = list_of (special_of set) in
    coprime_with (data_at set level) (special_of set) (data_coprime set level)
    (All-take (λ q. All (λ p. IsGcd q p 1) special) level (data_of set) (PairwiseCoprime-append_across (data_of set) special base.coprime))

parts_coprime : (set : SetName) → PairwiseCoprime (key_of set ++ beside_keys set)
parts_coprime set =
    let fit : FitTogether set = fit_together set in
    subst PairwiseCoprime (listed_parts set) (PairwiseCoprime-append_left (transform_moduli_of set) (gamma ∷ []) fit.coprime)

-- each data modulus is coprime to each modulus beside those of keys
data_across : (set : SetName) (level : ℕ) → level ≤ length (data_of set) → All (λ q. All (λ p. IsGcd q p 1) (beside_keys set)) (data_at set level)
data_across set level within =
    let Across : ℕ → Type 0 = λ q. All (λ p. IsGcd q p 1) (beside_keys set) in
    subst (All Across) (take-append-le level (data_of set) (list_of (special_of set)) within)
    (All-take Across level (key_of set) (PairwiseCoprime-append_across (key_of set) (beside_keys set) (parts_coprime set)))

data_coprime_to : (set : SetName) (level p : ℕ) → level ≤ length (data_of set) → Contains (beside_keys set) p → AllCoprimeTo p (data_at set level)
data_coprime_to set level p within beside =
    All-weaker (λ q. All (λ x. IsGcd q x 1) (beside_keys set)) (λ q. IsGcd q p 1) (λ q each. All-contains (λ x. IsGcd q x 1) (beside_keys set) p each beside)
    (data_at set level) (data_across set level within)

pub wide_coprime : (set : SetName) (level : ℕ) → level ≤ length (data_of set) → EachIndex (wide_of set) (λ j. IsGcd (product (data_at set level)) (slice_index (wide_of set) j) 1)
wide_coprime set level within j in_list =
    product_coprime (data_at set level) (slice_index (wide_of set) j) (data_coprime_to set level (slice_index (wide_of set) j) within (wide_beside set j 0 in_list))

pub plain_coprime : (set : SetName) (level : ℕ) → level ≤ length (data_of set) → EachIndex (data_at set level) (λ i. IsGcd (plain_of set) (slice_index (data_at set level) i) 1)
plain_coprime set level within i in_list =
    IsGcd-swap (slice_index (data_at set level) i) (plain_of set) 1 (data_coprime_to set level (plain_of set) within (plain_beside set) i 0 in_list)

-- ---- the auxiliary moduli
pub aux_coprime : (set : SetName) → PairwiseCoprime (aux_of set)
aux_coprime set = let base : IsBase (aux_of set) = IsBase-aux_of set in base.coprime

pub aux_product_coprime : (set : SetName) → IsGcd (product (aux_of set)) m_sk 1
aux_product_coprime set =
    let last = m_sk ∷ plain_of set ∷ [] in
    product_coprime (aux_of set) m_sk (All-weaker (λ q. All (λ p. IsGcd q p 1) last) (λ q. IsGcd q m_sk 1) (λ q each. All-head (λ p. IsGcd q p 1) m_sk (plain_of set ∷ []) each) (aux_of set)
    (PairwiseCoprime-append_across (aux_of set) last (PairwiseCoprime-append_right (key_of set) (beside_keys set) (parts_coprime set))))

-- ---- parts of the lists
pub first_wide : (set : SetName) (count : ℕ) (wide : List ℕ) → wide ≡ wide_of set → count ≡ length (aux_of set) → take count wide ≡ aux_of set
first_wide set count wide same counted =
    ap (take count) same ∙ ap (λ (m : ℕ). take m (wide_of set)) counted ∙ take-append_seam (aux_of set) (m_sk ∷ [])

pub last_wide : (set : SetName) (count d : ℕ) (wide : List ℕ) → wide ≡ wide_of set → count ≡ length (aux_of set) → get_or wide count d ≡ m_sk
last_wide set count d wide same counted =
    ap (λ (w : List ℕ). get_or w count d) same ∙ ap (λ (m : ℕ). get_or (wide_of set) m d) counted ∙ get_or-append_seam (aux_of set) m_sk [] d

pub first_keys : (set : SetName) (level count : ℕ) (keys : List ℕ) → keys ≡ key_at set level → count ≡ length (data_at set level) → take count keys ≡ data_at set level
first_keys set level count keys same counted =
    ap (take count) same ∙ ap (λ (m : ℕ). take m (key_at set level)) counted ∙ take-append_seam (data_at set level) (list_of (special_of set))

pub data_length : (set : SetName) (level : ℕ) → level ≤ length (data_of set) → level ≡ length (data_at set level)
data_length set level within = sym (length-take-le level (data_of set) within)
