-- A name that is new differs from all that are defined.
use Rattle.std.proofs.Common.{◌≡◌, ◌≢◌, ◌<◌, ◌≤◌, ℕ, suc, ◌+◌, List, [], ◌∷◌, length, map, get_or, position, Bool, true, false, not, cond, ◌&&◌, nat_lt, Some, None, refl, sym, ◌∙◌, arith}
use Rattle.std.specs.Prelude.{is_none}
use Rattle.std.specs.List.{list_all, position_or_len}
use Rattle.std.specs.Str.{bytes_eq}
use Rattle.std.proofs.lemmas.Bool.{and_parts, and_from}
use Rattle.std.proofs.lemmas.Bool.Decides.{nat_tests}
use Rattle.std.proofs.lemmas.List.Sums.{AllPass-from_list_all}
use Rattle.std.proofs.lemmas.List.Folds.{list_all-append, list_all-map}
use Rattle.std.proofs.lemmas.Slice.Eq.{bytes_eq-Decides}
use Rattle.script_text.specs.declared.script.InputKind.{InputKind}
use Rattle.script_text.specs.declared.script.InputKind.TheVariants.{Cipher, Plain}
use Rattle.script_text.specs.declared.script.Input.{Input}
use Rattle.script_text.specs.declared.script.Step.{Step}
use Rattle.script_text.specs.Scripts.{cipher_inputs, plain_inputs, names_of}
use Rattle.script_text.specs.Grammar.{Draft, register_named, plain_named, is_new}

none_pass : {X : Type 0} (p : X → Bool) (xs : List X) → length xs ≤ position_or_len p xs → list_all (λ x. not (p x)) xs ≡ true
none_pass p [] none = refl
none_pass p (x ∷ xs) none = by (p x) none (λ more. none_pass p xs more)
  where
    by : (passes : Bool) → suc (length xs) ≤ cond (not passes) (1 + position_or_len p xs) 0 → (length xs ≤ position_or_len p xs → list_all (λ x. not (p x)) xs ≡ true)
        → not passes && list_all (λ x. not (p x)) xs ≡ true
    by true none more = absurd (omega arith)
    by false none more = more (omega arith)

none_at : {X : Type 0} (p : X → Bool) (xs : List X) → is_none (position p xs) ≡ true → list_all (λ x. not (p x)) xs ≡ true
none_at p xs none = none_pass p xs (by (nat_lt (position_or_len p xs) (length xs)) refl none)
  where
    by : (inside : Bool) → nat_lt (position_or_len p xs) (length xs) ≡ inside → is_none (cond inside (Some (position_or_len p xs)) None) ≡ true → length xs ≤ position_or_len p xs
    by true is none = absurd cc
    by false is none = grind (arith, nat_tests)

both_kinds : (q : Input → Bool) (inputs : List Input) → list_all q (cipher_inputs inputs) ≡ true → list_all q (plain_inputs inputs) ≡ true → list_all q inputs ≡ true
both_kinds q [] ciphers plains = refl
both_kinds q (input ∷ inputs) ciphers plains = by input.kind ciphers plains (both_kinds q inputs)
  where
    by : (kind : InputKind)
        → list_all q (cond (elim kind as (λ _. Bool) [ Cipher ↦ true | Plain ↦ false ]) (input ∷ cipher_inputs inputs) (cipher_inputs inputs)) ≡ true
        → list_all q (cond (elim kind as (λ _. Bool) [ Cipher ↦ false | Plain ↦ true ]) (input ∷ plain_inputs inputs) (plain_inputs inputs)) ≡ true
        → (list_all q (cipher_inputs inputs) ≡ true → list_all q (plain_inputs inputs) ≡ true → list_all q inputs ≡ true)
        → q input && list_all q inputs ≡ true
    by Cipher ciphers plains more =
        let both = and_parts (q input) (list_all q (cipher_inputs inputs)) ciphers in
        and_from (q input) (list_all q inputs) both.0 (more both.1 plains)
    by Plain ciphers plains more =
        let both = and_parts (q input) (list_all q (plain_inputs inputs)) plains in
        and_from (q input) (list_all q inputs) both.0 (more ciphers both.1)

differs : (name other : List ℕ) → not (bytes_eq other name) ≡ true → other ≢ name
differs name other is same =
    let equal : bytes_eq other name ≡ true = (bytes_eq-Decides other name).1 same in
    absurd (by (bytes_eq other name) is equal)
  where
    by : (b : Bool) → not b ≡ true → b ≡ true → ⊥
    by true is equal = absurd cc
    by false is equal = absurd cc

pub new_name : (draft : Draft) (name : List ℕ) → is_new draft name ≡ true
    → (k : ℕ) (d : List ℕ) → k < length (names_of draft.inputs draft.steps) → get_or (names_of draft.inputs draft.steps) k d ≢ name
unfolding is_new register_named plain_named
new_name draft name new =
    let none = and_parts (is_none (register_named draft name)) (is_none (plain_named draft name)) new in
    let registers = sym (list_all-append (λ other. not (bytes_eq other name)) (map (λ (i : Input). i.name) (cipher_inputs draft.inputs)) (map (λ (s : Step). s.name) draft.steps))
    ∙ none_at (λ other. bytes_eq other name) (names_of (cipher_inputs draft.inputs) draft.steps) none.0 in
    let ciphers = and_parts (list_all (λ other. not (bytes_eq other name)) (map (λ (i : Input). i.name) (cipher_inputs draft.inputs))) (list_all (λ other. not (bytes_eq other name)) (map (λ (s : Step). s.name) draft.steps)) registers in
    let plains = none_at (λ other. bytes_eq other name) (map (λ (i : Input). i.name) (plain_inputs draft.inputs)) none.1 in
    let inputs = both_kinds (λ input. not (bytes_eq input.name name)) draft.inputs
    (sym (list_all-map (λ other. not (bytes_eq other name)) (λ (i : Input). i.name) (cipher_inputs draft.inputs)) ∙ ciphers.0)
    (sym (list_all-map (λ other. not (bytes_eq other name)) (λ (i : Input). i.name) (plain_inputs draft.inputs)) ∙ plains) in
    let all = list_all-append (λ other. not (bytes_eq other name)) (map (λ (i : Input). i.name) draft.inputs) (map (λ (s : Step). s.name) draft.steps)
    ∙ and_from (list_all (λ other. not (bytes_eq other name)) (map (λ (i : Input). i.name) draft.inputs)) (list_all (λ other. not (bytes_eq other name)) (map (λ (s : Step). s.name) draft.steps))
    (list_all-map (λ other. not (bytes_eq other name)) (λ (i : Input). i.name) draft.inputs ∙ inputs) ciphers.1 in
    λ k d below. differs name (get_or (names_of draft.inputs draft.steps) k d) (AllPass-from_list_all (λ other. not (bytes_eq other name)) (names_of draft.inputs draft.steps) all k d below)
