-- The bindings of names among words.
use Rattle.std.proofs.Common.{◌≡◌, ℕ, ◌+◌, ◌<◌, ◌≤◌, inr, zero, suc, List, [], ◌∷◌, length, map, refl, sym, ◌∙◌, arith}
use Rattle.std.specs.Prelude.{String, get_or, Some}
use Rattle.std.specs.String.{string_bytes}
use Rattle.std.specs.declared.alloc.Global.{Global}
use Rattle.std.specs.Str.{bytes_eq}
use Rattle.std.proofs.lemmas.Slice.Eq.{bytes_eq-Decides}
use Rattle.std.proofs.lemmas.List.{get_or-map, get_or-drop, length-map}
use Rattle.std.proofs.lemmas.List.Quantifiers.{position-Some}
use Rattle.command_words.specs.Form.{binding_name, IsOperand}
use Rattle.command_words.specs.declared.form.Form.TheVariants.{Run}
use Rattle.command_words.specs.Line.{word_at}
use Rattle.command_model.specs.Bindings.{bindings_of, bound_names, place_bound}

-- the word of a number is the one at this place
pub word_at_is : (words : List (List ℕ)) (i : ℕ) → word_at words i ≡ get_or words i []
word_at_is [] i = refl
word_at_is (word ∷ words) zero = refl
word_at_is (word ∷ words) (suc i) = word_at_is words i

-- a binding is the word behind SCRIPT and OUT
pub binding_at : (words : List (List ℕ)) (place : ℕ) → get_or (bindings_of words) place [] ≡ word_at words (3 + place)
binding_at words place = get_or-drop 3 words place [] ∙ sym (word_at_is words (3 + place))

-- the place at which a name is bound is that of a binding of this name
pub bound_at : (words : List (List ℕ)) (name : List ℕ) (place : ℕ) → place_bound (bound_names words) name ≡ Some place
    → (place < length (bindings_of words)) × (binding_name (get_or (bindings_of words) place []) ≡ name)
bound_at words name place is =
    let found = position-Some (λ other. bytes_eq other name) (bound_names words) place (binding_name []) is in
    let within : place < length (bindings_of words) = let inside = found.0 in omega (arith, length-map (bindings_of words) binding_name) in
    (within, sym (get_or-map binding_name (bindings_of words) place [] (binding_name []) within) ∙ (bytes_eq-Decides (get_or (bound_names words) place (binding_name [])) name).0 found.1)

-- the word of a binding is that of an operand of `run`
pub binding_operand : (words : List (String Global)) (word : ℕ) → (3 ≤ word) × (word < length words) → IsOperand Run (length (map string_bytes words)) word
binding_operand words word is = inr (is.0, omega (arith, is.1, length-map words string_bytes))
