-- The file that `run` writes stands for what the plain machine makes of a script.
use Rattle.std.proofs.Common.{◌≡◌, ℕ, ◌+◌, ◌<◌, zero, suc, List, [], ◌∷◌, length, map, refl, sym, ◌∙◌, ap, subst, arith}
use Rattle.std.specs.Prelude.{Bool, true, false, cond, get_or, filter, Option, Some, None, option_and_then, slice_get, slice_index_or, unwrap_or, Result, Ok, Err, if◌then◌else◌}
use Rattle.std.specs.List.{zip}
use Rattle.std.specs.Option.{option_map}
use Rattle.std.specs.Result.{result_ok}
use Rattle.std.proofs.lemmas.List.{get_or-map}
use Rattle.outer_io.specs.Store.{Files, file}
use Rattle.set_table.specs.declared.SetName.{SetName}
use Rattle.set_table.specs.Sets.{degree_of, plain_of}
use Rattle.bound_num.specs.declared.Bound.{Bound}
use Rattle.file_model.specs.declared.file_kind.FileKind.TheVariants as kind
use Rattle.file_model.specs.FileText.{FileContent}
use Rattle.file_model.specs.declared.head.Wanted.TheVariants as wanted
use Rattle.script_text.specs.declared.faults.ScriptPlace.{ScriptPlace}
use Rattle.script_text.specs.declared.faults.ValuePlace.{ValuePlace}
use Rattle.script_text.specs.declared.script.Input.{Input}
use Rattle.script_text.specs.declared.script.InputKind.{InputKind}
use Rattle.script_text.specs.declared.script.InputKind.TheVariants as input
use Rattle.script_text.specs.Grammar.{script_of}
use Rattle.script_text.specs.Reading.{values_of}
use Rattle.script_text.specs.Scripts.{Script, IsSound, is_cipher, is_plain, cipher_inputs, plain_inputs}
use Rattle.script_text.specs.Value.{lists_of, value_of}
use Rattle.command_words.specs.Form.{binding_file, binding_name}
use Rattle.command_words.specs.Line.{word_at}
use Rattle.command_words.specs.declared.status.Status.TheVariants.{BadScript, BadValues}
use Rattle.command_model.specs.Bindings.{Operand, bound_cipher, bound_values, no_content, content_of, values_in, operand_of, bindings_of, bound_names, input_named, kind_at, place_bound, ciphers_of, plains_of}
use Rattle.command_model.specs.Reading.{own_file, values_file, script_file, taken, or_refused}
use Rattle.command_model.specs.Plan.{run_of}
use Rattle.command_model.specs.Plain.{Owner, Item, text, sealed, State, Stands, IsItem, IsSealed, same_owner, item_bound, owner_of, values_given, all_given, sealed_value, ran_script, ran}
use Rattle.command_model.proofs.Standing.{text_at}
use Rattle.command_stages.specs.Stages.{Says}
use Rattle.command_stages.proofs.Ways.{says_taken}
use Rattle.run_operands.specs.BoundFiles.{AreBound, IsBoundAt}
use Rattle.run_operands.proofs.InOrder.{own_kind}
use Rattle.key_commands.proofs.MadeItems.{content_at, belongs_wanted}
use Rattle.key_commands.proofs.Owners.{same_owner_equal}
use Rattle.bfv_commands.specs.RunStages.{AreSealed, IsRunOf}
use Rattle.bfv_commands.proofs.InputNames.{binding_at, bound_at}

-- ---- what is given to inputs
-- where all are given, the first and the others are
given_cons : (given : Option (List ℕ)) (others : Option (List (List ℕ))) (lists : List (List ℕ))
    → option_and_then (λ values. option_map (λ rest. values ∷ rest) others) given ≡ Some lists
    → (values : List ℕ) × ((rest : List (List ℕ)) × ((given ≡ Some values) × (others ≡ Some rest) × (lists ≡ values ∷ rest)))
given_cons (Some values) (Some rest) lists is = (values, (rest, (refl, refl, cc)))
given_cons (Some values) None lists is = absurd (cc)
given_cons None others lists is = absurd (cc)

-- an input among others, which is given values
pub record GivenTo (given : Input → Option (List ℕ)) (inputs : List Input) (input : Input) (values : List ℕ) : Type 0 where
  pub place : ℕ
  pub at : slice_get inputs place ≡ Some input
  pub values_are : given input ≡ Some values

later : (given : Input → Option (List ℕ)) (first : Input) (inputs : List Input) (input : Input) (values : List ℕ) → GivenTo given inputs input values
    → GivenTo given (first ∷ inputs) input values
later given first inputs input values to = record { place = suc to.place; at = to.at; values_are = to.values_are }

-- an input that passes a test has the list that belongs to it
abbrev HasOwnList : (Input → Option (List ℕ)) → (Input → Bool) → List Input → List Input → List (List ℕ) → ℕ → Input → Type 0
HasOwnList given test inputs passing lists r d = (test (get_or passing r d) ≡ true) × GivenTo given inputs (get_or passing r d) (get_or lists r [])

own_list_step : (given : Input → Option (List ℕ)) (test : Input → Bool) (x : Input) (xs : List Input) (values : List ℕ) (rest : List (List ℕ)) → given x ≡ Some values
    → ((r : ℕ) (d : Input) → r < length (filter test xs) → HasOwnList given test xs (filter test xs) (lists_of test xs rest) r d)
    → (b : Bool) → test x ≡ b → (r : ℕ) (d : Input) → r < length (cond b (x ∷ filter test xs) (filter test xs))
    → HasOwnList given test (x ∷ xs) (cond b (x ∷ filter test xs) (filter test xs))
    (map (λ pair. pair.1) (cond b ((x, values) ∷ filter (λ pair. test pair.0) (zip xs rest)) (filter (λ pair. test pair.0) (zip xs rest)))) r d
own_list_step given test x xs values rest is others true passes zero d below =
    (passes, record { place = 0; at = refl; values_are = is })
own_list_step given test x xs values rest is others true passes (suc r) d below =
    let tail = others r d (omega arith) in
    (tail.0, later given x xs (get_or (filter test xs) r d) (get_or (lists_of test xs rest) r []) tail.1)
own_list_step given test x xs values rest is others false fails r d below =
    let tail = others r d below in
    (tail.0, later given x xs (get_or (filter test xs) r d) (get_or (lists_of test xs rest) r []) tail.1)

own_list : (given : Input → Option (List ℕ)) (test : Input → Bool) (inputs : List Input) (lists : List (List ℕ)) → all_given (map given inputs) ≡ Some lists
    → (r : ℕ) (d : Input) → r < length (filter test inputs) → HasOwnList given test inputs (filter test inputs) (lists_of test inputs lists) r d
own_list given test [] lists is r d below = absurd (omega arith)
own_list given test (x ∷ xs) lists is r d below =
    let c = given_cons (given x) (all_given (map given xs)) lists is in
    subst (λ ls. HasOwnList given test (x ∷ xs) (filter test (x ∷ xs)) (lists_of test (x ∷ xs) ls) r d) (sym c.1.1.2)
    (own_list_step given test x xs c.0 c.1.0 c.1.1.0 (own_list given test xs c.1.0 c.1.1.1) (test x) refl r d below)

-- each input has a list
lists_count : (given : Input → Option (List ℕ)) (inputs : List Input) (lists : List (List ℕ)) → all_given (map given inputs) ≡ Some lists → length lists ≡ length inputs
lists_count given [] lists is = let none : lists ≡ [] = cc in ap length none
lists_count given (x ∷ xs) lists is =
    let c = given_cons (given x) (all_given (map given xs)) lists is in
    ap length c.1.1.2 ∙ ap suc (lists_count given xs c.1.0 c.1.1.1)

-- ---- what the items give
-- an input whose file stands for an item is bound at a place
item_place : (words : List (List ℕ)) (state : State) (x : Input) (item : Item) → item_bound words state x ≡ Some item
    → (place : ℕ) × ((place_bound (bound_names words) x.name ≡ Some place) × (state (binding_file (word_at words (3 + place))) ≡ Some item))
item_place words state x item is = of_place (place_bound (bound_names words) x.name) is
  where
    of_place : (found : Option ℕ) → option_and_then (λ place. state (binding_file (word_at words (3 + place)))) found ≡ Some item
        → (place : ℕ) × ((found ≡ Some place) × (state (binding_file (word_at words (3 + place))) ≡ Some item))
    of_place (Some place) is = (place, (refl, is))
    of_place None is = absurd (cc)

-- a cipher input is given the values of a cipher of its owner
cipher_given : (owner : Owner) (set : SetName) (kind : InputKind) (item : Option Item) (values : List ℕ) → kind ≡ input.Cipher → values_given owner set kind item ≡ Some values
    → (other : Owner) × ((item ≡ Some (sealed other values)) × (same_owner owner other ≡ true))
cipher_given owner set input.Cipher (Some (sealed other held)) values of_kind is = of_test (same_owner owner other) refl is
  where
    of_test : (test : Bool) → same_owner owner other ≡ test → (if test then Some held else None) ≡ Some values
        → (same : Owner) × ((Some (sealed other held) ≡ Some (sealed same values)) × (same_owner owner same ≡ true))
    of_test true same is = let held_is : held ≡ values = cc in (other, (ap (λ vs. Some (sealed other vs)) held_is, same))
    of_test false same is = absurd (cc)
cipher_given owner set input.Plain item values of_kind is = absurd (cc)
cipher_given owner set input.Cipher _ values of_kind is = absurd (cc)

-- a plain input is given the values of a text
values_of_text : (owner : Owner) (set : SetName) (kind : InputKind) (item : Option Item) (values : List ℕ) → kind ≡ input.Plain → values_given owner set kind item ≡ Some values
    → (bytes : List ℕ) × ((item ≡ Some (text bytes)) × (values_of bytes (degree_of set) (plain_of set) ≡ Ok values))
values_of_text owner set input.Plain (Some (text bytes)) values of_kind is = (bytes, (refl, of_read (values_of bytes (degree_of set) (plain_of set)) is))
  where
    of_read : (read : Result (List ℕ) ValuePlace) → result_ok read ≡ Some values → read ≡ Ok values
    of_read (Ok listed) is = let same : listed ≡ values = cc in ap Ok same
    of_read (Err place) is = absurd (cc)
values_of_text owner set input.Cipher item values of_kind is = absurd (cc)
values_of_text owner set input.Plain _ values of_kind is = absurd (cc)

-- ---- what the operands are
-- the file that is bound to an input says the operand of the input
operand_bound : (words : List (List ℕ)) (files : Files) (script : Script) (planned : List Operand) (given : Input → Option (List ℕ)) (x : Input) (values : List ℕ) (place : ℕ)
    → IsSound script → AreBound script words files planned → length planned ≡ length (bindings_of words) → GivenTo given script.inputs x values
    → place_bound (bound_names words) x.name ≡ Some place
    → IsBoundAt files script.set x.kind (binding_file (word_at words (3 + place))) (3 + place) (operand_of (bound_names words) planned x)
operand_bound words files script planned given x values place sound bound count to is =
    let at = bound_at words x.name place is in
    let named : binding_name (word_at words (3 + place)) ≡ x.name = ap binding_name (sym (binding_at words place)) ∙ at.1 in
    let kind_is : kind_at script (input_named script (binding_name (word_at words (3 + place)))) ≡ x.kind =
    ap (λ (name : List ℕ). kind_at script (input_named script name)) named ∙ own_kind script to.place x sound to.at in
    let operand_is : operand_of (bound_names words) planned x ≡ slice_index_or planned place (bound_values []) =
    ap (λ (found : Option ℕ). slice_index_or planned (unwrap_or found 0) (bound_values [])) is in
    subst (λ (operand : Operand). IsBoundAt files script.set x.kind (binding_file (word_at words (3 + place))) (3 + place) operand) (sym operand_is)
    (subst (λ (kind : InputKind). IsBoundAt files script.set kind (binding_file (word_at words (3 + place))) (3 + place) (slice_index_or planned place (bound_values []))) kind_is
    (bound.each place (subst (λ (n : ℕ). place < n) (sym count) at.0)))

bound_content : (files : Files) (set : SetName) (kind : InputKind) (name : List ℕ) (word : ℕ) (operand : Operand) → kind ≡ input.Cipher → IsBoundAt files set kind name word operand
    → (content : FileContent) × ((operand ≡ bound_cipher content) × (taken (own_file wanted.Cipher) word (file files name) ≡ Ok content))
bound_content files set input.Cipher name word operand of_kind (content, (is, says)) = (content, (is, says_taken says))
bound_content files set input.Plain name word operand of_kind bound = absurd (cc)

bound_list : (files : Files) (set : SetName) (kind : InputKind) (name : List ℕ) (word : ℕ) (operand : Operand) → kind ≡ input.Plain → IsBoundAt files set kind name word operand
    → (values : List ℕ) × ((operand ≡ bound_values values) × (taken (values_file set) word (file files name) ≡ Ok values))
bound_list files set input.Plain name word operand of_kind (values, (is, says)) = (values, (is, says_taken says))
bound_list files set input.Cipher name word operand of_kind bound = absurd (cc)

-- the content that is bound to a cipher input seals the values that it is given
sealed_operand : (words : List (List ℕ)) (files : Files) (state : State) (script : Script) (planned : List Operand) (owner : Owner) (x : Input) (values : List ℕ) → Stands files state
    → IsSound script → AreBound script words files planned → length planned ≡ length (bindings_of words) → x.kind ≡ input.Cipher
    → GivenTo (λ input. values_given owner script.set input.kind (item_bound words state input)) script.inputs x values
    → IsSealed owner values (content_of (operand_of (bound_names words) planned x))
sealed_operand words files state script planned owner x values stands sound bound count of_kind to =
    let c = cipher_given owner script.set x.kind (item_bound words state x) values of_kind to.values_are in
    let at = item_place words state x (sealed c.0 values) c.1.0 in
    let name = binding_file (word_at words (3 + at.0)) in
    let one = bound_content files script.set x.kind name (3 + at.0) (operand_of (bound_names words) planned x) of_kind
    (operand_bound words files script planned (λ input. values_given owner script.set input.kind (item_bound words state input)) x values at.0 sound bound count to at.1.0) in
    let held = content_at files name wanted.Cipher (3 + at.0) one.0 (IsSealed c.0 values) (λ held s. belongs_wanted wanted.Cipher c.0 kind.Cipher held refl s.belongs) one.1.1
    (stands.each name (sealed c.0 values) at.1.1) in
    subst (λ (content : FileContent). IsSealed owner values content) (sym (ap content_of one.1.0))
    (subst (λ (o : Owner). IsSealed o values one.0) (sym (same_owner_equal owner c.0 c.1.1)) held.is)

-- the values that are bound to a plain input are those that it is given
listed_operand : (words : List (List ℕ)) (files : Files) (state : State) (script : Script) (planned : List Operand) (owner : Owner) (x : Input) (values : List ℕ) → Stands files state
    → IsSound script → AreBound script words files planned → length planned ≡ length (bindings_of words) → x.kind ≡ input.Plain
    → GivenTo (λ input. values_given owner script.set input.kind (item_bound words state input)) script.inputs x values
    → values_in (operand_of (bound_names words) planned x) ≡ values
listed_operand words files state script planned owner x values stands sound bound count of_kind to =
    let c = values_of_text owner script.set x.kind (item_bound words state x) values of_kind to.values_are in
    let at = item_place words state x (text c.0) c.1.0 in
    let name = binding_file (word_at words (3 + at.0)) in
    let one = bound_list files script.set x.kind name (3 + at.0) (operand_of (bound_names words) planned x) of_kind
    (operand_bound words files script planned (λ input. values_given owner script.set input.kind (item_bound words state input)) x values at.0 sound bound count to at.1.0) in
    let read : Ok one.0 ≡ Ok values =
    sym one.1.1 ∙ ap (taken (values_file script.set) (3 + at.0)) (text_at files state name c.0 stands at.1.1) ∙ ap (or_refused (BadValues (3 + at.0))) c.1.1 in
    let same : one.0 ≡ values = cc in
    ap values_in one.1.0 ∙ same

-- ---- the inputs of a script
-- an input of no script
abbrev no_input : Input
no_input = record { name = []; kind = input.Cipher; line = 0 }

cipher_kind : (kind : InputKind) → (elim kind as (λ _. Bool) [ input.Cipher ↦ true | input.Plain ↦ false ]) ≡ true → kind ≡ input.Cipher
cipher_kind input.Cipher is = refl
cipher_kind input.Plain is = absurd (cc)

plain_kind : (kind : InputKind) → (elim kind as (λ _. Bool) [ input.Cipher ↦ false | input.Plain ↦ true ]) ≡ true → kind ≡ input.Plain
plain_kind input.Plain is = refl
plain_kind input.Cipher is = absurd (cc)

-- the operands seal, or are, the values that the plain machine gives to the inputs
are_sealed : (words : List (List ℕ)) (files : Files) (state : State) (script : Script) (planned : List Operand) (owner : Owner) (lists : List (List ℕ)) → Stands files state
    → IsSound script → AreBound script words files planned → length planned ≡ length (bindings_of words)
    → all_given (map (λ input. values_given owner script.set input.kind (item_bound words state input)) script.inputs) ≡ Some lists
    → AreSealed owner script (ciphers_of script (bound_names words) planned) (plains_of script (bound_names words) planned) lists
are_sealed words files state script planned owner lists stands sound bound count given = record {
  listed = lists_count given_to script.inputs lists given;
  ciphers = λ r below.
      let own = own_list given_to is_cipher script.inputs lists given r no_input below in
      let x = get_or (cipher_inputs script.inputs) r no_input in
      subst (λ (content : FileContent). IsSealed owner (get_or (lists_of is_cipher script.inputs lists) r []) content)
      (sym (get_or-map (λ input. content_of (operand_of (bound_names words) planned input)) (cipher_inputs script.inputs) r no_input no_content below))
      (sealed_operand words files state script planned owner x (get_or (lists_of is_cipher script.inputs lists) r []) stands sound bound count (cipher_kind x.kind own.0) own.1);
  values = λ p below.
      let own = own_list given_to is_plain script.inputs lists given p no_input below in
      let x = get_or (plain_inputs script.inputs) p no_input in
      get_or-map (λ input. values_in (operand_of (bound_names words) planned input)) (plain_inputs script.inputs) p no_input [] below
      ∙ listed_operand words files state script planned owner x (get_or (lists_of is_plain script.inputs lists) p []) stands sound bound count (plain_kind x.kind own.0) own.1;
}
  where
    given_to : Input → Option (List ℕ)
    given_to = λ input. values_given owner script.set input.kind (item_bound words state input)

-- ---- the item that is made
-- what is run is a script in a text, and what it makes is its value, sealed for an owner
pub record Ran (words : List (List ℕ)) (state : State) (source : Option Item) (item : Item) : Type 0 where
  pub bytes : List ℕ
  pub script : Script
  pub owner : Owner
  pub lists : List (List ℕ)
  pub source_is : source ≡ Some (text bytes)
  pub script_is : script_of bytes ≡ Ok script
  pub given : all_given (map (λ input. values_given owner script.set input.kind (item_bound words state input)) script.inputs) ≡ Some lists
  pub item_is : item ≡ sealed owner (value_of script lists)

ran_is : (words : List (List ℕ)) (state : State) (source : Option Item) (item : Item) → ran words state source ≡ Some item → Ran words state source item
ran_is words state (Some (text bytes)) item is = of_script (script_of bytes) refl is
  where
    of_lists : (script : Script) (owner : Owner) → script_of bytes ≡ Ok script → (found : Option (List (List ℕ)))
        → all_given (map (λ input. values_given owner script.set input.kind (item_bound words state input)) script.inputs) ≡ found
        → option_map (λ lists. sealed owner (value_of script lists)) found ≡ Some item → Ran words state (Some (text bytes)) item
    of_lists script owner script_is (Some lists) given is = record {
      bytes = bytes;
      script = script;
      owner = owner;
      lists = lists;
      source_is = refl;
      script_is = script_is;
      given = given;
      item_is = cc;
    }
    of_lists script owner script_is None given is = absurd (cc)

    of_owner : (script : Script) → script_of bytes ≡ Ok script → (found : Option Owner) → option_and_then (sealed_value script words state) found ≡ Some item
        → Ran words state (Some (text bytes)) item
    of_owner script script_is (Some owner) is =
        of_lists script owner script_is (all_given (map (λ input. values_given owner script.set input.kind (item_bound words state input)) script.inputs)) refl is
    of_owner script script_is None is = absurd (cc)

    of_script : (read : Result Script ScriptPlace) → script_of bytes ≡ read → option_and_then (ran_script words state) (result_ok read) ≡ Some item → Ran words state (Some (text bytes)) item
    of_script (Ok script) script_is is =
        of_owner script script_is (option_and_then (λ input. owner_of (item_bound words state input)) (slice_get (cipher_inputs script.inputs) 0)) is
    of_script (Err place) script_is is = absurd (cc)
ran_is words state _ item is = absurd (cc)

-- the file that `run` writes stands for the script's value, sealed for the owner of the inputs
pub item_ran : (words : List (List ℕ)) (files : Files) (state : State) (script : Script) (planned : List Operand) (bound : Bound) (bytes : List ℕ) (item : Item) → Stands files state
    → Says files (word_at words 1) 1 script_file script → AreBound script words files planned → length planned ≡ length (bindings_of words)
    → IsRunOf (run_of script (bound_names words) planned bound) bytes → ran words state (state (word_at words 1)) ≡ Some item → IsItem item bytes
item_ran words files state script planned bound bytes item stands says are_bound count made is =
    let r = ran_is words state (state (word_at words 1)) item is in
    let both : Ok script ≡ Ok r.script =
    sym (says_taken says) ∙ ap (taken script_file 1) (text_at files state (word_at words 1) r.bytes stands r.source_is) ∙ ap (or_refused BadScript) r.script_is in
    let same : r.script ≡ script = cc in
    let given = subst (λ (s : Script). all_given (map (λ input. values_given r.owner s.set input.kind (item_bound words state input)) s.inputs) ≡ Some r.lists) same r.given in
    let inputs = are_sealed words files state script planned r.owner r.lists stands made.sound are_bound count given in
    let item_is : item ≡ sealed r.owner (value_of script r.lists) = r.item_is ∙ ap (λ (s : Script). sealed r.owner (value_of s r.lists)) same in
    subst (λ (i : Item). IsItem i bytes) (sym item_is) (made.is.content, (made.is.is_file, made.right r.owner r.lists inputs))
