-- The moduli of each set's keys: they are coprime, and have their listed roots. So the drawn digits make a key of the set.
use Rattle.std.proofs.Common.{All, Bool, Contains, List, Option, Some, [], ap, arith, length, length-append, refl, slice_index, subst, sym, true, unwrap_or, ℕ, ℤ, ◌%◌, ◌*◌, ◌++◌, ◌+◌, ◌-◌, ◌/◌, ◌<◌, ◌&&◌, ◌^◌, ◌∙◌, ◌∷◌, ◌≡◌, div-add-mod', get_or, nat_eq}
use Rattle.std.specs.List.{list_all}
use Rattle.std.proofs.lemmas.Bool.Decides.{nat_tests}
use Rattle.std.proofs.lemmas.List.{get_or-map}
use Rattle.std.proofs.lemmas.List.Elements.{All-contains, Contains-append_left, Contains-get_or}
use Rattle.std.proofs.lemmas.List.Sums.{AllPass-from_list_all}
use Rattle.set_table.specs.declared.SetName.{SetName}
use Rattle.set_table.specs.declared.SetName.TheVariants.{One16, S16384, S4096, S8192, Toy16}
use Rattle.set_table.specs.Sets.{aux_of, data_of, key_of, list_of, log_degree_of, m_sk, plain_of, special_of, transform_moduli_of}
use Rattle.set_table.specs.Roots.{root_of}
use Rattle.ring_law.specs.Moduli.{AllAboveOne}
use Rattle.ring_law.specs.Residues.{HasInverse}
use Rattle.ring_law.proofs.Inverses.{HasInverse-odd, HasInverse-swap}
use Rattle.ring_law.proofs.Moduli.{PairwiseInvertible}
use Rattle.ring_law.proofs.ModuliTests.{AllAboveOne-from_test, PairwiseInvertible-from_test, repeated_square, repeated_square-power}
use Rattle.bfv_model.specs.Drawn.{drawn_switch}
use Rattle.bfv_model.specs.Keys.{IsTransformRoot}
use Rattle.bfv_model.specs.SwitchKeys.{IsSwitchKeyIn, key_roots_of}
use Rattle.bfv_model.proofs.KeyRows.{drawn_switch-WordsAreSwitchKeyOf}
use Rattle.bfv_model.proofs.SlotSets.{minus_one_from}

PairwiseInvertible-key_of : (set : SetName) → PairwiseInvertible (key_of set)
PairwiseInvertible-key_of One16 = PairwiseInvertible-from_test (key_of One16) refl
PairwiseInvertible-key_of Toy16 = PairwiseInvertible-from_test (key_of Toy16) refl
PairwiseInvertible-key_of S4096 = PairwiseInvertible-from_test (key_of S4096) refl
PairwiseInvertible-key_of S8192 = PairwiseInvertible-from_test (key_of S8192) refl
PairwiseInvertible-key_of S16384 = PairwiseInvertible-from_test (key_of S16384) refl

AllAboveOne-key_of : (set : SetName) → AllAboveOne (key_of set)
AllAboveOne-key_of One16 = AllAboveOne-from_test (key_of One16) refl
AllAboveOne-key_of Toy16 = AllAboveOne-from_test (key_of Toy16) refl
AllAboveOne-key_of S4096 = AllAboveOne-from_test (key_of S4096) refl
AllAboveOne-key_of S8192 = AllAboveOne-from_test (key_of S8192) refl
AllAboveOne-key_of S16384 = AllAboveOne-from_test (key_of S16384) refl

-- ---- roots
-- a test of a root of an odd modulus, by squarings
is_root : ℕ → ℕ → ℕ → Bool
is_root log q root = nat_eq (repeated_square q log root) (q - 1) && nat_eq (q % 2) 1

IsTransformRoot-from_test : (log q root : ℕ) → is_root log q root ≡ true → IsTransformRoot log q root
unfolding is_root
IsTransformRoot-from_test log q root test =
    let square : repeated_square q log root ≡ q - 1 = grind (arith, nat_tests) in
    let odd : q % 2 ≡ 1 = grind (arith, nat_tests) in
    let halves : 2 * (q / 2) + 1 ≡ q = omega (arith, div-add-mod' q 2) in
    let positive : 0 < q = omega arith in
    record {
      positive = positive;
      minus_one = minus_one_from q (root ^ (2 ^ log)) positive (sym (repeated_square-power q log root) ∙ square);
      unit = subst (λ (p : ℕ). HasInverse p (2 ^ log)) halves (HasInverse-swap (2 ^ log) (2 * (q / 2) + 1) (HasInverse-odd (q / 2) log));
    }

-- the listed root of q
abbrev listed_root : SetName → ℕ → ℕ
listed_root set q = unwrap_or (root_of set q) 0

all_from_test : (set : SetName) (qs : List ℕ) → list_all (λ q. is_root (log_degree_of set) q (listed_root set q)) qs ≡ true
    → All (λ q. IsTransformRoot (log_degree_of set) q (listed_root set q)) qs
all_from_test set qs test = λ i d within.
    let q = get_or qs i d in
    IsTransformRoot-from_test (log_degree_of set) q (listed_root set q)
    (AllPass-from_list_all (λ q. is_root (log_degree_of set) q (listed_root set q)) qs test i d within)

all_roots : (set : SetName) → All (λ q. IsTransformRoot (log_degree_of set) q (listed_root set q)) (transform_moduli_of set)
unfolding is_root
all_roots One16 = all_from_test One16 (transform_moduli_of One16) refl
all_roots Toy16 = all_from_test Toy16 (transform_moduli_of Toy16) refl
all_roots S4096 = all_from_test S4096 (transform_moduli_of S4096) refl
all_roots S8192 = all_from_test S8192 (transform_moduli_of S8192) refl
all_roots S16384 = all_from_test S16384 (transform_moduli_of S16384) refl

-- each modulus under which a set transforms rows has its listed root
pub root_of-IsTransformRoot : (set : SetName) (q : ℕ) → Contains (transform_moduli_of set) q
    → IsTransformRoot (log_degree_of set) q (unwrap_or (root_of set q) 0)
root_of-IsTransformRoot set q listed =
    All-contains (λ q. IsTransformRoot (log_degree_of set) q (listed_root set q)) (transform_moduli_of set) q (all_roots set) listed

-- so it is with the moduli of its keys, row by row
pub key_roots_of-IsTransformRoot : (set : SetName) (r : ℕ) → r < length (key_of set)
    → IsTransformRoot (log_degree_of set) (slice_index (key_of set) r) (slice_index (key_roots_of set) r)
key_roots_of-IsTransformRoot set r within =
    let q = slice_index (key_of set) r in
    let beside : List ℕ = m_sk ∷ plain_of set ∷ [] in
    let listed : Contains (transform_moduli_of set) q =
    Contains-append_left (key_of set ++ aux_of set) beside q (Contains-append_left (key_of set) (aux_of set) q (Contains-get_or (key_of set) r 0 within)) in
    subst (λ (root : ℕ). IsTransformRoot (log_degree_of set) q root) (sym (get_or-map (listed_root set) (key_of set) r 0 0 within))
    (root_of-IsTransformRoot set q listed)

-- the drawn digits make a key of the set
pub drawn_switch-IsSwitchKeyIn : (set : SetName) (P : ℕ) (source s : ℕ → ℤ) (words : ℕ → ℕ) → special_of set ≡ Some P
    → IsSwitchKeyIn set (drawn_switch (log_degree_of set) (data_of set) P (key_roots_of set) source s words) source s
drawn_switch-IsSwitchKeyIn set P source s words special = record {
  special = P;
  is_special = special;
  words = drawn_switch-WordsAreSwitchKeyOf (log_degree_of set) P (data_of set) (key_roots_of set) source s words
      (subst PairwiseInvertible keys (PairwiseInvertible-key_of set)) (subst AllAboveOne keys (AllAboveOne-key_of set)) roots;
}
  where
    keys : key_of set ≡ data_of set ++ P ∷ []
    keys = ap (λ (p : Option ℕ). data_of set ++ list_of p) special

    within : (r : ℕ) → r < length (data_of set) + 1 → r < length (key_of set)
    within r below = subst (λ (count : ℕ). r < count) (sym (ap length keys ∙ length-append (data_of set) (P ∷ []))) below

    roots : (r : ℕ) → r < length (data_of set) + 1
        → IsTransformRoot (log_degree_of set) (slice_index (data_of set ++ P ∷ []) r) (slice_index (key_roots_of set) r)
    roots r below = subst (λ (moduli : List ℕ). IsTransformRoot (log_degree_of set) (slice_index moduli r) (slice_index (key_roots_of set) r)) keys
        (key_roots_of-IsTransformRoot set r (within r below))
