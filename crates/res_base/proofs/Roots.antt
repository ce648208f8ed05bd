-- The listed roots: looked up by a search, and their powers by squarings.
use Rattle.std.proofs.Common.{◌≡◌, ℕ, ◌-◌, ◌%◌, ◌^◌, ◌<◌, ◌&&◌, List, [], ◌∷◌, Bool, true, false, cond, nat_lt, nat_eq, Some, IfSome, IsSome, Contains, ◌==◌, ◌↔◌, refl, sym, ap, ◌∙◌, subst, All, get_or, arith}
use Rattle.std.specs.List.{list_all, find}
use Rattle.std.specs.Map.{lookup, keys_of}
use Rattle.std.specs.Option.{option_map}
use Rattle.std.specs.Cmp.{IsEquivalence}
use Rattle.std.proofs.lemmas.Bool.{eqb-true, eq-eqb}
use Rattle.std.proofs.lemmas.Map.Views.{Contains-keys_from_lookup, IsSome-lookup_from_Contains}
use Rattle.std.proofs.lemmas.Option.{IfSome_then}
use Rattle.std.proofs.lemmas.List.Elements.{All-head, All-tail}
use Rattle.std.proofs.lemmas.List.Sums.{AllPass-from_list_all}
use Rattle.std.proofs.lemmas.Bool.Decides.{nat_tests}
use Rattle.set_table.specs.declared.SetName.{SetName}
use Rattle.set_table.specs.declared.SetName.TheVariants.{One16, Toy16, S4096, S8192, S16384}
use Rattle.set_table.specs.Sets.{degree_of, transform_moduli_of}
use Rattle.set_table.specs.Roots.{root_of, roots_of}
use Rattle.ring_law.proofs.ModuliTests.{repeated_square, repeated_square-power}

-- a modulus with a root: a residue whose n-th power is -1
pub record IsRoot (n q psi : ℕ) : Type 0 where
  pub power : psi ^ n % q ≡ q - 1
  pub below : psi < q

-- the same for n = 2^k, tested by k squarings
is_root : ℕ → ℕ × ℕ → Bool
is_root k e = nat_eq (repeated_square e.0 k e.1) (e.0 - 1) && nat_lt e.1 e.0

IsRoot-from_test : (k n : ℕ) → n ≡ 2 ^ k → (e : ℕ × ℕ) → is_root k e ≡ true → IsRoot n e.0 e.1
unfolding is_root
IsRoot-from_test k n size e test =
    let square : repeated_square e.0 k e.1 ≡ e.0 - 1 = grind (arith, nat_tests) in
    record {
      power = ap (λ (m : ℕ). e.1 ^ m % e.0) size ∙ sym (repeated_square-power e.0 k e.1) ∙ square;
      below = grind (arith, nat_tests);
    }

All-from_test : (k n : ℕ) → n ≡ 2 ^ k → (es : List (ℕ × ℕ)) → list_all (is_root k) es ≡ true → All (λ e. IsRoot n e.0 e.1) es
All-from_test k n size es test = λ i d within. IsRoot-from_test k n size (get_or es i d) (AllPass-from_list_all (is_root k) es test i d within)

pub all_roots : (set : SetName) → All (λ e. IsRoot (degree_of set) e.0 e.1) (roots_of set)
unfolding is_root
all_roots One16 = All-from_test 4 16 refl (roots_of One16) refl
all_roots Toy16 = All-from_test 4 16 refl (roots_of Toy16) refl
all_roots S4096 = All-from_test 12 4096 refl (roots_of S4096) refl
all_roots S8192 = All-from_test 13 8192 refl (roots_of S8192) refl
all_roots S16384 = All-from_test 14 16384 refl (roots_of S16384) refl

same_test : (p q : ℕ) → (p == q) ≡ nat_eq q p
same_test p q = grind (arith, nat_tests)

nat_equivalence : IsEquivalence nat_eq
nat_equivalence = record { refl = λ x. eq-eqb x x refl; symm = λ x y. same_test x y; congr = λ x y z same. ap (λ (k : ℕ). nat_eq k z) (eqb-true x y same) }

-- the search finds what a look-up finds
pub find-lookup : (q : ℕ) (es : List (ℕ × ℕ)) → option_map (λ e. e.1) (find (λ e. e.0 == q) es) ≡ lookup (nat_eq q) es
find-lookup q [] = refl
find-lookup q (e ∷ es) = go (e.0 == q) (nat_eq q e.0) (same_test e.0 q) (find-lookup q es)
  where
    go : (b d : Bool) → b ≡ d → option_map (λ e. e.1) (find (λ e. e.0 == q) es) ≡ lookup (nat_eq q) es
        → option_map (λ e. e.1) (cond b (Some e) (find (λ e. e.0 == q) es)) ≡ cond d (Some e.1) (lookup (nat_eq q) es)
    go true true same rest = refl
    go false false same rest = rest
    go true false same rest = absurd (let wrong : ⊥ = cc in wrong)
    go false true same rest = absurd (let wrong : ⊥ = cc in wrong)

-- what a look-up finds is a root of the modulus that was looked up
IsRoot-lookup : (n q : ℕ) (es : List (ℕ × ℕ)) → All (λ e. IsRoot n e.0 e.1) es → IfSome (lookup (nat_eq q) es) (IsRoot n q)
IsRoot-lookup n q [] h = tt
IsRoot-lookup n q (e ∷ es) h = go (nat_eq q e.0) refl (IsRoot-lookup n q es (All-tail (λ e. IsRoot n e.0 e.1) e es h))
  where
    go : (b : Bool) → nat_eq q e.0 ≡ b → IfSome (lookup (nat_eq q) es) (IsRoot n q) → IfSome (cond b (Some e.1) (lookup (nat_eq q) es)) (IsRoot n q)
    go true same rest = subst (λ p. IsRoot n p e.1) (sym (eqb-true q e.0 same)) (All-head (λ e. IsRoot n e.0 e.1) e es h)
    go false same rest = rest

pub root_of-power : (set : SetName) (q : ℕ) → IfSome (root_of set q) (λ psi. psi ^ degree_of set % q ≡ q - 1)
root_of-power set q = IfSome_then (root_of set q) (IsRoot-lookup (degree_of set) q (roots_of set) (all_roots set)) (λ psi root. root.power)

pub root_of-below : (set : SetName) (q : ℕ) → IfSome (root_of set q) (λ psi. psi < q)
root_of-below set q = IfSome_then (root_of set q) (IsRoot-lookup (degree_of set) q (roots_of set) (all_roots set)) (λ psi root. root.below)

-- a set lists roots of exactly the moduli under which rows are transformed
rooted_moduli : (set : SetName) → keys_of (roots_of set) ≡ transform_moduli_of set
rooted_moduli One16 = refl
rooted_moduli Toy16 = refl
rooted_moduli S4096 = refl
rooted_moduli S8192 = refl
rooted_moduli S16384 = refl

pub IsSome-root_of : (set : SetName) (q : ℕ) → IsSome (root_of set q) ↔ Contains (transform_moduli_of set) q
IsSome-root_of set q =
    let Among : List ℕ → Type 0 = λ qs. Contains qs q in (
      λ found. subst Among (rooted_moduli set) (Contains-keys_from_lookup eqb-true q (roots_of set) found),
      λ among. IsSome-lookup_from_Contains nat_equivalence q (roots_of set) (subst Among (sym (rooted_moduli set)) among),
    )
