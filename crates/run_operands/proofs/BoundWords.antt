-- The names that words bind, and what is wrong with bindings.
use Rattle.std.proofs.Common.{◌≡◌, ℕ, ◌+◌, ◌-◌, ◌<◌, ◌≤◌, Bool, List, [], ◌∷◌, ◌++◌, length, get_or, take, drop, map, sym, ◌∙◌, ap, subst, arith, get_or-drop}
use Rattle.std.specs.Prelude.{cond, true, false, position, String, Option, Some, None, is_none, is_some}
use Rattle.std.specs.Option.{option_or, option_map}
use Rattle.std.specs.Str.{bytes_eq}
use Rattle.std.specs.String.{string_bytes}
use Rattle.std.specs.declared.alloc.Global.{Global}
use Rattle.std.proofs.lemmas.List.{length-append, drop-map, take-map, drop-take, length-map, length-drop, length-take, get_or-map}
use Rattle.std.proofs.lemmas.Grind.{common_steps}
use Rattle.std.proofs.lemmas.Option.{unwrap_or-slice_get}
use Rattle.outer_io.specs.Store.{StoreState}
use Rattle.script_text.specs.Scripts.{Script}
use Rattle.command_words.specs.Form.{binding_name}
use Rattle.command_words.specs.Line.{word_at}
use Rattle.command_words.specs.declared.status.BindingFault.{BindingFault}
use Rattle.command_words.specs.declared.status.BindingFault.TheVariants.{Undeclared, Twice, Unbound}
use Rattle.command_words.specs.declared.status.Status.TheVariants.{Binding}
use Rattle.command_model.specs.Bindings.{bound_names, input_named, place_bound, binding_fault, first_binding_fault, unbound_input, fault_of_bindings}
use Rattle.command_model.specs.Commanded.{Caused}
use Rattle.run_operands.proofs.Places.{position-map, first_of, rest_of}

-- the place of a name among the words, as strings
pub place_of_words : (name : List ℕ) (words : List (String Global))
    → position (λ word. bytes_eq (binding_name (string_bytes word)) name) (drop 3 words) ≡ place_bound (bound_names (map string_bytes words)) name
place_of_words name words = sym
    (ap (λ (rest : List (List ℕ)). position (λ other. bytes_eq other name) (map binding_name rest)) (drop-map string_bytes 3 words)
    ∙ position-map (λ other. bytes_eq other name) binding_name (map string_bytes (drop 3 words))
    ∙ position-map (λ word. bytes_eq (binding_name word) name) string_bytes (drop 3 words))

pub length-bound_names : (words : List (List ℕ)) → length (bound_names words) ≡ length words - 3
length-bound_names words = length-map (drop 3 words) binding_name ∙ length-drop 3 words

-- the name that a word binds
pub name_at : (words : List (List ℕ)) (word : ℕ) → 3 ≤ word → word < length words → binding_name (word_at words word) ≡ get_or (bound_names words) (word - 3) []
name_at words word behind within =
    let inside : word - 3 < length (drop 3 words) = omega (arith, length-drop 3 words) in
    let same : 3 + (word - 3) ≡ word = omega arith in
    ap binding_name (unwrap_or-slice_get words word [] ∙ ap (λ (i : ℕ). get_or words i []) (sym same) ∙ sym (get_or-drop 3 words (word - 3) []))
    ∙ sym (get_or-map binding_name (drop 3 words) (word - 3) [] [] inside)

-- the names that the words before one bind
pub names_before : (words : List (String Global)) (word : ℕ) → 3 ≤ word
    → bound_names (map string_bytes (take word words)) ≡ take (word - 3) (bound_names (map string_bytes words))
names_before words word behind =
    let same : 3 + (word - 3) ≡ word = omega arith in
    let bytes = map string_bytes words in
    ap (λ (rest : List (List ℕ)). map binding_name (drop 3 rest)) (sym (take-map string_bytes word words))
    ∙ ap (λ (n : ℕ). map binding_name (drop 3 (take n bytes))) (sym same)
    ∙ ap (λ (rest : List (List ℕ)). map binding_name rest) (drop-take 3 (word - 3) bytes)
    ∙ sym (take-map binding_name (word - 3) (drop 3 bytes))

-- the first fault from a binding on is its own, and else the first from the next binding on
pub fault_from : (script : Script) (names : List (List ℕ)) (i : ℕ) (name : List ℕ) → i < length names → name ≡ get_or names i []
    → first_binding_fault script (take i names) (drop i names)
    ≡ option_or (binding_fault script (take i names) name) (first_binding_fault script (take (i + 1) names) (drop (i + 1) names))
fault_from script names i name within is =
    let split : drop i names ≡ name ∷ drop (i + 1) names = grind (arith, common_steps) in
    let more : take i names ++ name ∷ [] ≡ take (i + 1) names = grind (arith, common_steps) in
    ap (λ (rest : List (List ℕ)). first_binding_fault script (take i names) rest) split
    ∙ ap (λ (before : List (List ℕ)). option_or (binding_fault script (take i names) name) (first_binding_fault script before (drop (i + 1) names))) more

-- the faults from a word on are those of all words
abbrev pub FaultsFrom : Script → List (List ℕ) → ℕ → Type 0
FaultsFrom script words word =
    first_binding_fault script [] (bound_names words) ≡ first_binding_fault script (take (word - 3) (bound_names words)) (drop (word - 3) (bound_names words))

fault_at : (script : Script) (words : List (List ℕ)) (word : ℕ) → 3 ≤ word → word < length words → FaultsFrom script words word
    → first_binding_fault script [] (bound_names words)
    ≡ option_or (binding_fault script (take (word - 3) (bound_names words)) (binding_name (word_at words word)))
    (first_binding_fault script (take (word - 3 + 1) (bound_names words)) (drop (word - 3 + 1) (bound_names words)))
fault_at script words word behind within from =
    from ∙ fault_from script (bound_names words) (word - 3) (binding_name (word_at words word)) (omega (arith, length-bound_names words)) (name_at words word behind within)

-- the fault of a binding is the first, where those before it have none
pub fault_found : (script : Script) (words : List (List ℕ)) (word : ℕ) (fault : Option BindingFault) → 3 ≤ word → word < length words → FaultsFrom script words word
    → fault ≡ binding_fault script (take (word - 3) (bound_names words)) (binding_name (word_at words word)) → is_some fault ≡ true
    → fault ≡ first_binding_fault script [] (bound_names words)
fault_found script words word fault behind within from is some =
    sym (fault_at script words word behind within from
    ∙ ap (λ (f : Option BindingFault). option_or f (first_binding_fault script (take (word - 3 + 1) (bound_names words)) (drop (word - 3 + 1) (bound_names words)))) (sym is)
    ∙ first_of fault _ some)

pub no_fault_found : (script : Script) (words : List (List ℕ)) (word : ℕ) (fault : Option BindingFault) → 3 ≤ word → word < length words → FaultsFrom script words word
    → fault ≡ binding_fault script (take (word - 3) (bound_names words)) (binding_name (word_at words word)) → is_some fault ≡ false
    → FaultsFrom script words (word + 1)
no_fault_found script words word fault behind within from is none =
    let next : word - 3 + 1 ≡ word + 1 - 3 = omega arith in
    fault_at script words word behind within from
    ∙ ap (λ (f : Option BindingFault). option_or f (first_binding_fault script (take (word - 3 + 1) (bound_names words)) (drop (word - 3 + 1) (bound_names words)))) (sym is)
    ∙ rest_of fault _ none
    ∙ ap (λ (n : ℕ). first_binding_fault script (take n (bound_names words)) (drop n (bound_names words))) next

-- what is wrong with a binding, by the two tests
pub binding_fault_is : (script : Script) (words : List (List ℕ)) (word : ℕ) (name : List ℕ) (missing bound : Bool) → 3 ≤ word → word < length words
    → is_none (input_named script name) ≡ missing → is_some (place_bound (take (word - 3) (bound_names words)) name) ≡ bound
    → binding_fault script (take (word - 3) (bound_names words)) name ≡ cond missing (Some (Undeclared word)) (cond bound (Some (Twice word)) None)
binding_fault_is script words word name missing bound behind within missing_is bound_is =
    let before = take (word - 3) (bound_names words) in
    let count : 3 + length before ≡ word = omega (arith, length-take (word - 3) (bound_names words), length-bound_names words) in
    ap (λ (b : Bool). cond b (Some (Undeclared (3 + length before))) (cond (is_some (place_bound before name)) (Some (Twice (3 + length before))) None)) missing_is
    ∙ ap (λ (b : Bool). cond missing (Some (Undeclared (3 + length before))) (cond b (Some (Twice (3 + length before))) None)) bound_is
    ∙ ap (λ (n : ℕ). cond missing (Some (Undeclared n)) (cond bound (Some (Twice n)) None)) count

-- the number of the word that a fault is about is among those of words behind the third
abbrev Names : ℕ → BindingFault → Type 0
Names count (Undeclared word) = (3 ≤ word) × (word < count)
Names count (Twice word) = (3 ≤ word) × (word < count)
Names count (Unbound input) = Unit {0}

one_fault : (missing bound : Bool) (word count : ℕ) (fault : BindingFault) → 3 ≤ word → word < count
    → cond missing (Some (Undeclared word)) (cond bound (Some (Twice word)) None) ≡ Some fault → Names count fault
one_fault true bound word count fault behind within is = let same : Undeclared word ≡ fault = cc in subst (Names count) same (behind, within)
one_fault false true word count fault behind within is = let same : Twice word ≡ fault = cc in subst (Names count) same (behind, within)
one_fault false false word count fault behind within is = absurd (cc)

either : (first rest : Option BindingFault) (count : ℕ) (fault : BindingFault) → (first ≡ Some fault → Names count fault) → (rest ≡ Some fault → Names count fault)
    → option_or first rest ≡ Some fault → Names count fault
either (Some found) rest count fault one others is = one is
either None rest count fault one others is = others is

fault_of_binding : (script : Script) (names before : List (List ℕ)) (count : ℕ) (fault : BindingFault) → 3 + length before + length names ≤ count
    → first_binding_fault script before names ≡ Some fault → Names count fault
fault_of_binding script [] before count fault few is = absurd (cc)
fault_of_binding script (name ∷ names) before count fault few is =
    either (binding_fault script before name) (first_binding_fault script (before ++ name ∷ []) names) count fault
    (one_fault (is_none (input_named script name)) (is_some (place_bound before name)) (3 + length before) count fault (omega arith) (omega arith))
    (fault_of_binding script names (before ++ name ∷ []) count fault (omega (arith, length-append before (name ∷ [])))) is

fault_of_input : (place : Option ℕ) (count : ℕ) (fault : BindingFault) → option_map Unbound place ≡ Some fault → Names count fault
fault_of_input None count fault is = absurd (cc)
fault_of_input (Some place) count fault is = let same : Unbound place ≡ fault = cc in subst (Names count) same tt

caused_by_fault : (count : ℕ) (old new : StoreState) (fault : BindingFault) → Names count fault → Caused (λ w. (3 ≤ w) × (w < count)) old new (Binding fault)
caused_by_fault count old new (Undeclared at) named = record {
  refused = λ done. cc;
  formed = λ usage. cc;
  read = λ word fault. absurd (cc);
  write = λ fault. absurd (cc);
  missing = λ word fault. absurd (cc);
  word = λ word is. let same : at ≡ word = cc in subst (λ (w : ℕ). (3 ≤ w) × (w < count)) same named;
  binding = λ word is whole. let same : at ≡ word = cc in subst (λ (w : ℕ). 3 ≤ w) same named.0;
}
caused_by_fault count old new (Twice at) named = record {
  refused = λ done. cc;
  formed = λ usage. cc;
  read = λ word fault. absurd (cc);
  write = λ fault. absurd (cc);
  missing = λ word fault. absurd (cc);
  word = λ word is. let same : at ≡ word = cc in subst (λ (w : ℕ). (3 ≤ w) × (w < count)) same named;
  binding = λ word is whole. let same : at ≡ word = cc in subst (λ (w : ℕ). 3 ≤ w) same named.0;
}
caused_by_fault count old new (Unbound input) named = record {
  refused = λ done. cc;
  formed = λ usage. cc;
  read = λ word fault. absurd (cc);
  write = λ fault. absurd (cc);
  missing = λ word fault. absurd (cc);
  word = λ word is. absurd (cc);
  binding = λ word is whole. absurd (cc);
}

-- what a fault of bindings owes to
pub caused_by_binding : (script : Script) (words : List (List ℕ)) (count : ℕ) (old new : StoreState) (fault : BindingFault) → 3 ≤ count → length words ≡ count
    → fault_of_bindings script (bound_names words) ≡ Some fault → Caused (λ w. (3 ≤ w) × (w < count)) old new (Binding fault)
caused_by_binding script words count old new fault some long is =
    caused_by_fault count old new fault
    (either (first_binding_fault script [] (bound_names words)) (unbound_input script (bound_names words)) count fault
    (fault_of_binding script (bound_names words) [] count fault (omega (arith, length-bound_names words)))
    (fault_of_input (position (λ input. is_none (place_bound (bound_names words) input.name)) script.inputs) count fault) is)
