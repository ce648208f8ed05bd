-- The inputs of a script by their kinds.
use Rattle.std.proofs.Common.{arith, Bool, true, false, cond, ◌≡◌, ℕ, suc, ◌+◌, refl, ap, List, [], ◌∷◌, length, map, filter}
use Rattle.std.specs.List.{zip}
use Rattle.script_text.specs.declared.script.InputKind.{InputKind}
use Rattle.script_text.specs.declared.script.InputKind.TheVariants.{Cipher, Plain}
use Rattle.script_text.specs.declared.script.Input.{Input}
use Rattle.script_text.specs.Scripts.{cipher_inputs, plain_inputs}
use Rattle.script_text.specs.Value.{lists_of}

-- there are as many lists of the inputs that pass a test as such inputs
pub lists_counted : (test : Input → Bool) (inputs : List Input) (lists : List (List ℕ)) → length lists ≡ length inputs → length (lists_of test inputs lists) ≡ length (filter test inputs)
lists_counted test [] lists same = refl
lists_counted test (input ∷ inputs) [] same = absurd (omega arith)
lists_counted test (input ∷ inputs) (list ∷ lists) same = by (test input) (lists_counted test inputs lists (omega arith))
  where
    by : (b : Bool) → length (lists_of test inputs lists) ≡ length (filter test inputs)
        → length (map (λ (p : Input × List ℕ). p.1) (cond b ((input, list) ∷ filter (λ p. test p.0) (zip inputs lists)) (filter (λ p. test p.0) (zip inputs lists)))) ≡ length (cond b (input ∷ filter test inputs) (filter test inputs))
    by true more = ap suc more
    by false more = more

-- every input is a cipher or plain
pub inputs_counted : (inputs : List Input) → length (cipher_inputs inputs) + length (plain_inputs inputs) ≡ length inputs
inputs_counted [] = refl
inputs_counted (input ∷ inputs) = by input.kind (inputs_counted inputs)
  where
    by : (kind : InputKind) → length (cipher_inputs inputs) + length (plain_inputs inputs) ≡ length inputs
        → length (cond (elim kind as (λ _. Bool) [ Cipher ↦ true | Plain ↦ false ]) (input ∷ cipher_inputs inputs) (cipher_inputs inputs))
        + length (cond (elim kind as (λ _. Bool) [ Cipher ↦ false | Plain ↦ true ]) (input ∷ plain_inputs inputs) (plain_inputs inputs)) ≡ suc (length inputs)
    by Cipher rest = omega arith
    by Plain rest = omega arith
