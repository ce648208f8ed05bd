-- Switching keys at the level of a context: of their digits and rows those of the first data moduli and of the special one.
use Rattle.std.proofs.Common.{◌≡◌, ℕ, ◌+◌, ◌-◌, ◌*◌, ◌<◌, ◌≤◌, ◌∙◌, refl, sym, ap, subst, le_trans, arith, ℤ, pos, ◌+ℤ◌, ◌-ℤ◌, ◌*ℤ◌, nat_abs, nat_lt, Bool, true, false, List, [], ◌∷◌, ◌++◌, Option, Some, None, IsSome, length, take, drop, slice_index, unwrap_or, length-append, if◌then◌else◌}
use Rattle.std.proofs.Math.Seq.{get_or-append_seam}
use Rattle.std.proofs.lemmas.List.{get_or-map, get_or-take, get_or_append_left, take-append-drop}
use Rattle.std.proofs.lemmas.List.Elements.{All-from_get_or}
use Rattle.word_mod.specs.Moduli.{IsModulus}
use Rattle.set_table.specs.declared.SetName.{SetName}
use Rattle.set_table.specs.Sets.{data_of, key_of, list_of, special_of}
use Rattle.set_table.specs.Roots.{root_of}
use Rattle.ring_law.specs.Moduli.{AllAboveOne, Selects, product}
use Rattle.ring_law.specs.Polynomials.{ring_product}
use Rattle.ring_law.specs.Residues.{Congruent, centred_residue, residue}
use Rattle.ring_law.proofs.ChineseRemainder.{chinese_remainder_unique, selector}
use Rattle.ring_law.proofs.Congruence.{Congruent-add, Congruent-left_factor, Congruent-mul, Congruent-neg, Congruent-refl, Congruent-scaled, Congruent-trans}
use Rattle.ring_law.proofs.Moduli.{PairwiseInvertible, PairwiseInvertible-append_left, PairwiseInvertible-from_coprime, positive_from_above_one, product-append, product_positive}
use Rattle.ring_law.proofs.Residues.{Congruent-centred_residue, Congruent-from_residues, centred_residue_least}
use Rattle.bfv_model.specs.Keys.{IsSwitchKeyOf}
use Rattle.bfv_model.specs.SwitchKeys.{key_roots_of}
use Rattle.bfv_model.proofs.Noise.{mul_positive}
use Rattle.bfv_params.specs.Moduli.{data_at, key_at}
use Rattle.bfv_params.specs.Transforms.{transform_of}
use Rattle.bfv_params.proofs.Coprimality.{data_length, key_coprime}
use Rattle.res_base.proofs.Bases.{IsModulus-from_IsBase}
use Rattle.res_base.proofs.Sizes.{IsBase-key_of}
use Rattle.key_switch.specs.Sums.{digit_row}

-- ---- a key for more moduli serves for the first ones
module _ (n : ℕ) (qs rs : List ℕ) (P E : ℕ) (key0 key1 : ℕ → ℕ → ℤ) (source s : ℕ → ℤ) (coprime : PairwiseInvertible (qs ++ rs)) (big : AllAboveOne (qs ++ rs)) (pos_P : 0 < P)
    (key : IsSwitchKeyOf n (qs ++ rs) P E key0 key1 source s) where
  longer : (i : ℕ) → i < length qs → i < length (qs ++ rs)
  longer i within = omega (arith, length-append qs rs)

  same_modulus : (j : ℕ) → j < length qs → slice_index (qs ++ rs) j ≡ slice_index qs j
  same_modulus j within = get_or_append_left qs rs 0 j within

  above : AllAboveOne qs
  above j within = subst (λ q. 1 < q) (same_modulus j within) (big j (longer j within))

  -- numbers that select a modulus are congruent modulo the product of the first ones
  selecting : (i : ℕ) (g other : ℤ) → Selects qs i g → Selects (qs ++ rs) i other → Congruent (product qs) g other
  selecting i g other selects selects_all =
      chinese_remainder_unique qs (PairwiseInvertible-append_left qs rs coprime) g other
      (All-from_get_or (λ q. Congruent q g other) qs 0 (λ j within.
      Congruent-from_residues (slice_index qs j) g other (positive_from_above_one (slice_index qs j) (above j within))
      (selects j within ∙ sym (selects_all j (longer j within)) ∙ ap (λ q. residue q other) (same_modulus j within))))

  pub IsSwitchKeyOf-first : IsSwitchKeyOf n qs P E key0 key1 source s
  IsSwitchKeyOf-first i within g selects k below = from (selector (qs ++ rs) coprime big i (longer i within))
    where
      sum : ℤ
      sum = key0 i k +ℤ ring_product n (key1 i) s k

      flip : (a b : ℕ) → a * b ≡ b * a
      flip a b = omega arith

      regroup : (p r : ℕ) → p * r * P ≡ p * P * r
      regroup p r = omega arith

      first : 0 < product qs * P
      first = mul_positive (product qs) P (product_positive qs above) pos_P

      all : 0 < product (qs ++ rs) * P
      all = mul_positive (product (qs ++ rs)) P (product_positive (qs ++ rs) big) pos_P

      from : (other : ℤ) × Selects (qs ++ rs) i other
          → nat_abs (centred_residue (product qs * P) (key0 i k +ℤ ring_product n (key1 i) s k -ℤ (pos P *ℤ g) *ℤ source k)) ≤ E
      from (other, selects_all) =
          le_trans (centred_residue_least (product qs * P) (sum -ℤ (pos P *ℤ g) *ℤ source k)
          (centred_residue (product (qs ++ rs) * P) (sum -ℤ (pos P *ℤ other) *ℤ source k)) first
          (Congruent-trans (product qs * P) near whole)) (key i (longer i within) other selects_all k below)
        where
          multiple : Congruent (product qs * P) (pos P *ℤ g) (pos P *ℤ other)
          multiple = subst (λ m. Congruent m (pos P *ℤ g) (pos P *ℤ other)) (flip P (product qs))
              (Congruent-scaled P (product qs) (selecting i g other selects selects_all))

          near : Congruent (product qs * P) (sum -ℤ (pos P *ℤ g) *ℤ source k) (sum -ℤ (pos P *ℤ other) *ℤ source k)
          near = Congruent-add (product qs * P) (Congruent-refl (product qs * P) sum)
              (Congruent-neg (product qs * P) (Congruent-mul (product qs * P) multiple (Congruent-refl (product qs * P) (source k))))

          whole : Congruent (product qs * P) (sum -ℤ (pos P *ℤ other) *ℤ source k) (centred_residue (product (qs ++ rs) * P) (sum -ℤ (pos P *ℤ other) *ℤ source k))
          whole = Congruent-left_factor (product qs * P) (product rs)
              (subst (λ m. Congruent m (sum -ℤ (pos P *ℤ other) *ℤ source k) (centred_residue (product (qs ++ rs) * P) (sum -ℤ (pos P *ℤ other) *ℤ source k)))
              (ap (λ p. p * P) (product-append qs rs) ∙ regroup (product qs) (product rs))
              (Congruent-centred_residue (product (qs ++ rs) * P) (sum -ℤ (pos P *ℤ other) *ℤ source k) all))

pub IsSwitchKeyOf-take : (level n : ℕ) (qs : List ℕ) (P E : ℕ) (key0 key1 : ℕ → ℕ → ℤ) (source s : ℕ → ℤ) → PairwiseInvertible qs → AllAboveOne qs → 0 < P
    → IsSwitchKeyOf n qs P E key0 key1 source s → IsSwitchKeyOf n (take level qs) P E key0 key1 source s
IsSwitchKeyOf-take level n qs P E key0 key1 source s coprime big pos_P key =
    let parts : qs ≡ take level qs ++ drop level qs = sym (take-append-drop level qs) in
    IsSwitchKeyOf-first n (take level qs) (drop level qs) P E key0 key1 source s (subst PairwiseInvertible parts coprime) (subst AllAboveOne parts big) pos_P
    (subst (λ ps. IsSwitchKeyOf n ps P E key0 key1 source s) parts key)

-- ---- the special modulus of a set that has one
pub special_modulus : (set : SetName) → IsSome (special_of set) → (P : ℕ) × (special_of set ≡ Some P)
special_modulus set some = from (special_of set) some
  where
    from : (special : Option ℕ) → IsSome special → (P : ℕ) × (special ≡ Some P)
    from (Some P) some = (P, refl)
    from None some = absurd (cc)

-- ---- the moduli of keys at a level, among those of the set
module _ (set : SetName) (level P : ℕ) (special : special_of set ≡ Some P) (within : level ≤ length (data_of set)) where
  counted : length (data_at set level) ≡ level
  counted = sym (data_length set level within)

  pub keys_are : key_at set level ≡ data_at set level ++ P ∷ []
  keys_are = ap (λ last. data_at set level ++ list_of last) special

  all_keys_are : key_of set ≡ data_of set ++ P ∷ []
  all_keys_are = ap (λ last. data_of set ++ list_of last) special

  pub keys_count : length (key_at set level) ≡ level + 1
  keys_count = ap length keys_are ∙ length-append (data_at set level) (P ∷ []) ∙ ap (λ m. m + 1) counted

  pub all_keys_count : length (key_of set) ≡ length (data_of set) + 1
  all_keys_count = ap length all_keys_are ∙ length-append (data_of set) (P ∷ [])

  abbrev row : ℕ → ℕ
  row r = digit_row (level + 1) (length (data_of set) + 1) r

  pub row_below : (r : ℕ) → r < level + 1 → row r < length (data_of set) + 1
  row_below r below = by (nat_lt (r + 1) (level + 1))
    where
      by : (t : Bool) → (if t then r else (length (data_of set) + 1 - 1)) < length (data_of set) + 1
      by true = omega (arith, within)
      by false = omega arith

  pub key_modulus : (r : ℕ) → r < level + 1 → slice_index (key_at set level) r ≡ slice_index (key_of set) (row r)
  key_modulus r below = by (nat_lt (r + 1) (level + 1)) refl
    where
      seam : (m : ℕ) → m ≡ length (data_of set) → slice_index (key_of set) m ≡ P
      seam m is = ap (λ i. slice_index (key_of set) i) is ∙ ap (λ qs. slice_index qs (length (data_of set))) all_keys_are ∙ get_or-append_seam (data_of set) P [] 0

      last : r ≡ length (data_at set level) → slice_index (key_at set level) r ≡ P
      last is = ap (λ i. slice_index (key_at set level) i) is ∙ ap (λ qs. slice_index qs (length (data_at set level))) keys_are ∙ get_or-append_seam (data_at set level) P [] 0

      by : (t : Bool) → nat_lt (r + 1) (level + 1) ≡ t → slice_index (key_at set level) r ≡ slice_index (key_of set) (if t then r else (length (data_of set) + 1 - 1))
      by true is =
          let less : r < level = smaller r level is in
          get_or_append_left (data_at set level) (list_of (special_of set)) 0 r (omega (arith, counted, less))
          ∙ get_or-take level (data_of set) r 0 less
          ∙ sym (get_or_append_left (data_of set) (list_of (special_of set)) 0 r (omega (arith, within, less)))
        where
          smaller : (r level : ℕ) → nat_lt (r + 1) (level + 1) ≡ true → r < level
          smaller r level is = grind arith
      by false is =
          let end : r ≡ level = greatest r level below is in
          last (end ∙ sym counted) ∙ sym (seam (length (data_of set) + 1 - 1) (omega arith))
        where
          greatest : (r level : ℕ) → r < level + 1 → nat_lt (r + 1) (level + 1) ≡ false → r ≡ level
          greatest r level below is = grind arith

  pub key_root : (r : ℕ) → r < level + 1 → (transform_of set (slice_index (key_at set level) r)).root ≡ slice_index (key_roots_of set) (row r)
  key_root r below =
      ap (λ q. unwrap_or (root_of set q) 0) (key_modulus r below)
      ∙ sym (get_or-map (λ q. unwrap_or (root_of set q) 0) (key_of set) (row r) 0 0 (subst (λ m. row r < m) (sym all_keys_count) (row_below r below)))

  -- they are moduli, and coprime
  pub key_is_modulus : (r : ℕ) → r < level + 1 → IsModulus (slice_index (key_at set level) r)
  key_is_modulus r below =
      subst IsModulus (sym (key_modulus r below))
      (IsModulus-from_IsBase (key_of set) (IsBase-key_of set) (row r) (subst (λ m. row r < m) (sym all_keys_count) (row_below r below)))

  pub keys_above_one : AllAboveOne (key_at set level)
  keys_above_one r inside =
      let modulus : IsModulus (slice_index (key_at set level) r) = key_is_modulus r (subst (λ m. r < m) keys_count inside) in
      omega (arith, modulus.from_three)

  pub keys_invertible : PairwiseInvertible (key_at set level)
  keys_invertible = PairwiseInvertible-from_coprime (key_at set level) (key_coprime set level)
