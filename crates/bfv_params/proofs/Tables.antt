-- What the table says of the moduli and the degree of a set.
use Rattle.std.proofs.Common.{◌≡◌, ℕ, ◌^◌, ◌<◌, ◌≤◌, ◌++◌, arith, refl, lit<, lit≤, sym, subst, append_assoc, ◌∙◌, ap, List, [], ◌∷◌, Some, All, Contains, unwrap_or, inl, inr}
use Rattle.std.proofs.lemmas.Bool.{cases_lt}
use Rattle.std.proofs.lemmas.Nat.{pow_below}
use Rattle.std.proofs.lemmas.List.Elements.{All-append, All-cons, All-contains_itself, All-nil, All-take, All-weaker, Contains-append_left, Contains-append_right}
use Rattle.set_table.specs.declared.SetName.{SetName}
use Rattle.set_table.specs.declared.SetName.TheVariants.{One16, Toy16, S4096, S8192, S16384}
use Rattle.set_table.specs.Sets.{degree_of, log_degree_of, data_of, key_of, aux_of, plain_of, special_of, list_of, m_sk, transform_moduli_of}
use Rattle.set_table.specs.Roots.{root_of}
use Rattle.neg_ntt.specs.Parameters.{Parameters}
use Rattle.bfv_params.specs.Moduli.{data_at, key_at, wide_of}
use Rattle.bfv_params.specs.Transforms.{transform_of}

-- ---- degrees and plaintext moduli
pub degree_of-limit : (set : SetName) → degree_of set ≤ 32768
degree_of-limit One16 = lit≤ tt
degree_of-limit Toy16 = lit≤ tt
degree_of-limit S4096 = lit≤ tt
degree_of-limit S8192 = lit≤ tt
degree_of-limit S16384 = lit≤ tt

pub plain_of-limit : (set : SetName) → plain_of set < 2 ^ 31
plain_of-limit One16 = lit< tt
plain_of-limit Toy16 = lit< tt
plain_of-limit S4096 = lit< tt
plain_of-limit S8192 = lit< tt
plain_of-limit S16384 = lit< tt

pub degree_of-power : (set : SetName) → degree_of set ≡ 2 ^ log_degree_of set
degree_of-power One16 = refl
degree_of-power Toy16 = refl
degree_of-power S4096 = refl
degree_of-power S8192 = refl
degree_of-power S16384 = refl

-- powers of two that are equal have equal exponents
exponent_once : (i j : ℕ) → 2 ^ i ≡ 2 ^ j → i ≡ j
exponent_once i j same = elim (cases_lt i j) [
  | inl less ↦ absurd (omega (arith, pow_below i j less))
  | inr most ↦ elim (cases_lt j i) [ inl less ↦ absurd (omega (arith, pow_below j i less)) | inr least ↦ omega arith ]
]

-- a transform with the modulus, the root and the degree of the set is the listed one
pub transform_is : (set : SetName) (t : Parameters) → root_of set t.modulus ≡ Some t.root → degree_of set ≡ 2 ^ t.log_degree → t ≡ transform_of set t.modulus
transform_is set t root degree =
    let root_is : unwrap_or (root_of set t.modulus) 0 ≡ t.root = rw root refl in
    let log_is : log_degree_of set ≡ t.log_degree = exponent_once _ _ (sym (degree_of-power set) ∙ degree) in
    let with_root : ℕ → Parameters = λ r. record { modulus = t.modulus; root = r; log_degree = t.log_degree } in
    let with_log : ℕ → Parameters = λ l. record { modulus = t.modulus; root = unwrap_or (root_of set t.modulus) 0; log_degree = l } in
    sym (ap with_root root_is) ∙ sym (ap with_log log_is)

-- ---- moduli that are listed with a root
-- the moduli beside those of keys
abbrev pub beside_keys : SetName → List ℕ
beside_keys set = aux_of set ++ (m_sk ∷ plain_of set ∷ [])

pub listed_parts : (set : SetName) → transform_moduli_of set ≡ key_of set ++ beside_keys set
listed_parts set = append_assoc (key_of set) (aux_of set) (m_sk ∷ plain_of set ∷ [])

of_keys : (set : SetName) (q : ℕ) → Contains (key_of set) q → Contains (transform_moduli_of set) q
of_keys set q in_keys = subst (λ (qs : List ℕ). Contains qs q) (sym (listed_parts set)) (Contains-append_left (key_of set) (beside_keys set) q in_keys)

of_others : (set : SetName) (q : ℕ) → Contains (beside_keys set) q → Contains (transform_moduli_of set) q
of_others set q beside = subst (λ (qs : List ℕ). Contains qs q) (sym (listed_parts set)) (Contains-append_right (key_of set) (beside_keys set) q beside)

-- elements of a part are elements of the whole
part_of : (part whole : List ℕ) → ((q : ℕ) → Contains part q → Contains whole q) → All (Contains whole) part
part_of part whole inside = All-weaker (Contains part) (Contains whole) inside part (All-contains_itself part)

pub key_listed : (set : SetName) (level : ℕ) → All (Contains (transform_moduli_of set)) (key_at set level)
key_listed set level =
    let special = list_of (special_of set) in
    All-append (Contains (transform_moduli_of set)) (data_at set level) special
    (All-take (Contains (transform_moduli_of set)) level (data_of set)
    (part_of (data_of set) (transform_moduli_of set) (λ q in_data. of_keys set q (Contains-append_left (data_of set) special q in_data))))
    (part_of special (transform_moduli_of set) (λ q in_special. of_keys set q (Contains-append_right (data_of set) special q in_special)))

pub plain_beside : (set : SetName) → Contains (beside_keys set) (plain_of set)
plain_beside set = Contains-append_right (aux_of set) (m_sk ∷ plain_of set ∷ []) (plain_of set) (1, omega arith, refl)

pub wide_beside : (set : SetName) → All (Contains (beside_keys set)) (wide_of set)
wide_beside set =
    let last = m_sk ∷ plain_of set ∷ [] in
    All-append (Contains (beside_keys set)) (aux_of set) (m_sk ∷ [])
    (part_of (aux_of set) (beside_keys set) (λ q in_aux. Contains-append_left (aux_of set) last q in_aux))
    (All-cons (Contains (beside_keys set)) m_sk [] (Contains-append_right (aux_of set) last m_sk (0, omega arith, refl)) (All-nil (Contains (beside_keys set))))

pub wide_listed : (set : SetName) → All (Contains (transform_moduli_of set)) (wide_of set)
wide_listed set = All-weaker (Contains (beside_keys set)) (Contains (transform_moduli_of set)) (of_others set) (wide_of set) (wide_beside set)

pub plain_listed : (set : SetName) → Contains (transform_moduli_of set) (plain_of set)
plain_listed set = of_others set (plain_of set) (plain_beside set)
