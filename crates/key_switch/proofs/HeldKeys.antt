-- Keys that are looked for among those that are held.
use Rattle.std.proofs.Common.{rules, arith, Bool, true, false, ◌≡◌, ℕ, suc, ◌<◌, refl, sym, ap, subst, ◌∙◌, ⊎_elim, List, [], ◌∷◌, length, get_or, slice_index_or, map, find, Contains, All, Option, Some, None, is_some, MatchOption, unwrap_or, eqb}
use Rattle.std.proofs.lemmas.Bool.{cases_Bool, both_ways, and_parts, and_from, eqb-true, eq-eqb}
use Rattle.std.proofs.lemmas.List.{length-map, get_or_default}
use Rattle.std.proofs.lemmas.List.Elements.{All-nil, All-cons, All-map, All-weaker, All-contains}
use Rattle.std.proofs.Math.ListN.{get_or-map}
use Rattle.set_table.specs.declared.SetName.{SetName}
use Rattle.set_table.specs.declared.KeyKind.{KeyKind}
use Rattle.set_table.specs.declared.KeyKind.TheVariants.{Relin, Turn}
use Rattle.bfv_params.specs.Values.{SwitchKeyValue}
use Rattle.key_switch.specs.Memory.{MemKeysValue, AreOfSet, same_kind, is_for, pair_of}

kinds_agree : (a b : KeyKind) → same_kind a b ≡ true → a ≡ b
kinds_agree Relin Relin same = refl
kinds_agree Relin Turn same = absurd (grind rules)
kinds_agree Turn Relin same = absurd (grind rules)
kinds_agree Turn Turn same = refl

same_as_itself : (kind : KeyKind) → same_kind kind kind ≡ true
same_as_itself Relin = refl
same_as_itself Turn = refl

-- a key that passes has this kind and Galois element, and one that has them passes
pair_is : (kind : KeyKind) (element : ℕ) (key : SwitchKeyValue) → is_for kind element key ≡ true → pair_of key ≡ (kind, element)
pair_is kind element key passes =
    let parts : (same_kind key.kind kind ≡ true) × (eqb key.element element ≡ true) = and_parts _ _ passes in
    rw (kinds_agree key.kind kind parts.0, eqb-true key.element element parts.1) refl

is_of_pair : (kind : KeyKind) (element : ℕ) (key : SwitchKeyValue) → pair_of key ≡ (kind, element) → is_for kind element key ≡ true
is_of_pair kind element key same =
    let kinds : key.kind ≡ kind = ap (λ (pair : KeyKind × ℕ). pair.0) same in
    let elements : key.element ≡ element = ap (λ (pair : KeyKind × ℕ). pair.1) same in
    and_from _ _ (rw kinds (same_as_itself kind)) (eq-eqb key.element element elements)

-- the first element that passes a test is found
found_first : {X : Type 0} (test : X → Bool) (x : X) (rest : List X) → test x ≡ true → find test (x ∷ rest) ≡ Some x
found_first test x rest passes = rw passes refl

-- an element that fails the test is passed by
passed_by : {X : Type 0} (test : X → Bool) (x : X) (rest : List X) → test x ≡ false → find test (x ∷ rest) ≡ find test rest
passed_by test x rest fails = rw fails refl

-- the element that is found passes, and is among those that were searched
found_element : {X : Type 0} (test : X → Bool) (xs : List X) (found : X) → find test xs ≡ Some found → (test found ≡ true) × Contains xs found
found_element test [] found is = absurd (grind rules)
found_element {X} test (x ∷ xs) found is =
    ⊎_elim
    (λ (passes : test x ≡ true).
    let same : x ≡ found = ap (λ (o : Option X). unwrap_or o x) (sym (found_first test x xs passes) ∙ is) in
    (subst (λ (y : X). test y ≡ true) same passes, (0, omega arith, same)))
    (λ (fails : test x ≡ false).
    let rest : (test found ≡ true) × Contains xs found = found_element test xs found (sym (passed_by test x xs fails) ∙ is) in
    (rest.0, (suc rest.1.0, omega (arith, rest.1.1), rest.1.2)))
    (cases_Bool (test x))

-- where nothing is found, no element passes
none_passes : {X : Type 0} (test : X → Bool) (xs : List X) → find test xs ≡ None → All (λ (x : X). test x ≡ false) xs
none_passes {X} test [] none = All-nil (λ (x : X). test x ≡ false)
none_passes {X} test (x ∷ xs) none =
    ⊎_elim
    (λ (passes : test x ≡ true). absurd (grind (rules, passes, none)))
    (λ (fails : test x ≡ false). All-cons (λ (y : X). test y ≡ false) x xs fails (none_passes test xs (sym (passed_by test x xs fails) ∙ none)))
    (cases_Bool (test x))

-- what every found element shows is so where one is found
pub shown_by_found : {X : Type 0} (found : Option X) (P R : Type 0) (Q : X → Type 0) → MatchOption found P Q → ((x : X) → Q x → R) → is_some found ≡ true → R
shown_by_found None P R Q none shows some = absurd (grind rules)
shown_by_found (Some x) P R Q is shows some = shows x is

-- a key that is found among those that a value holds is of its set
pub set_of_found : (held : MemKeysValue) (set : SetName) (items keys : List SwitchKeyValue) (test : SwitchKeyValue → Bool) (key : SwitchKeyValue)
    → AreOfSet set items → record { set = set; keys = items } ≡ held → keys ≡ items → find test keys ≡ Some key → key.set ≡ held.set
set_of_found held set items keys test key all view same is =
    let among : Contains items key = subst (λ (xs : List SwitchKeyValue). Contains xs key) same (found_element test keys key is).1 in
    All-contains (λ (k : SwitchKeyValue). k.set ≡ set) items key all among ∙ ap (λ (m : MemKeysValue). m.set) view

-- where a key of a kind and Galois element is found, the pair is among those of the keys
pub pair_of_found : (kind : KeyKind) (element : ℕ) (keys : List SwitchKeyValue) (key : SwitchKeyValue)
    → find (is_for kind element) keys ≡ Some key → Contains (map pair_of keys) (kind, element)
pair_of_found kind element keys key is =
    let found : (is_for kind element key ≡ true) × Contains keys key = found_element (is_for kind element) keys key is in
    let at : slice_index_or keys found.1.0 key ≡ key = found.1.2 in
    let inside : found.1.0 < length (map pair_of keys) = rw (length-map keys pair_of) found.1.1 in
    let default : get_or (map pair_of keys) found.1.0 (kind, element) ≡ get_or (map pair_of keys) found.1.0 (pair_of key)
    = get_or_default (map pair_of keys) found.1.0 (kind, element) (pair_of key) inside in
    (found.1.0, inside, default ∙ get_or-map pair_of keys found.1.0 key ∙ ap pair_of at ∙ pair_is kind element key found.0)

-- where none is found, it is not
pub pair_of_none : (kind : KeyKind) (element : ℕ) (keys : List SwitchKeyValue)
    → find (is_for kind element) keys ≡ None → Contains (map pair_of keys) (kind, element) → ⊥
pair_of_none kind element keys none among =
    let others : All (λ (key : SwitchKeyValue). pair_of key ≡ (kind, element) → ⊥) keys
    = All-weaker (λ (key : SwitchKeyValue). is_for kind element key ≡ false) (λ (key : SwitchKeyValue). pair_of key ≡ (kind, element) → ⊥)
    (λ key fails same. both_ways (is_for kind element key) fails (is_of_pair kind element key same)) keys (none_passes (is_for kind element) keys none) in
    All-contains (λ (pair : KeyKind × ℕ). pair ≡ (kind, element) → ⊥) (map pair_of keys) (kind, element)
    (All-map (λ (pair : KeyKind × ℕ). pair ≡ (kind, element) → ⊥) pair_of keys others) among refl
