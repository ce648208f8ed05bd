-- The plain machine: what files stand for, and what a command does to that. Nothing of noise, residues or keys is in a plain state.
use Rattle.std.specs.Prelude.{◌≡◌, ℕ, ◌<◌, Bool, ◌&&◌, ◌==◌, if◌then◌else◌, ◌+◌, List, [], ◌∷◌, length, map, slice_get, All, Option, Some, None, Result, Ok, Err, option_and_then}
use Rattle.std.specs.Option.{option_map}
use Rattle.std.specs.Result.{result_ok}
use Rattle.std.specs.Str.{bytes_eq}
use Rattle.outer_io.specs.Store.{Files, file}
use Rattle.set_table.specs.declared.SetName.{SetName}
use Rattle.set_table.specs.declared.KeyKind.{KeyKind}
use Rattle.set_table.specs.declared.KeyKind.TheVariants.{Relin, Turn}
use Rattle.set_table.specs.Sets.{set_named, number_of, degree_of, plain_of, data_of, key_of}
use Rattle.ring_law.specs.Sums.{values_below}
use Rattle.bound_num.specs.Bound.{bound_value}
use Rattle.file_model.specs.declared.file_kind.FileKind.{FileKind}
use Rattle.file_model.specs.declared.file_kind.FileKind.TheVariants.{Secret, PublicKey, SwitchKey, Cipher}
use Rattle.file_model.specs.FileText.{FileContent, IsFile}
use Rattle.bfv_model.specs.Drawn.{drawn_key_id, drawn_secret, greatest_error}
use Rattle.bfv_model.specs.Holds.{CipherHolds, stored_word, secret_polynomial}
use Rattle.bfv_model.specs.Keys.{WordsArePublicKeyOf, stored_key_word}
use Rattle.bfv_model.specs.SwitchKeys.{IsSwitchKeyIn, key_source}
use Rattle.ring_law.specs.Rows.{natural_polynomial}
use Rattle.bfv_model.specs.Slots.{slots_of}
use Rattle.script_text.specs.declared.faults.ValuePlace.{ValuePlace}
use Rattle.script_text.specs.declared.script.Input.{Input}
use Rattle.script_text.specs.declared.script.InputKind.{InputKind}
use Rattle.script_text.specs.declared.script.InputKind.TheVariants as input
use Rattle.script_text.specs.Reading.{values_of}
use Rattle.script_text.specs.Scripts.{Script, cipher_inputs}
use Rattle.script_text.specs.Grammar.{script_of}
use Rattle.script_text.specs.Value.{value_of}
use Rattle.script_text.specs.Values.{printed_values}
use Rattle.noise_check.specs.declared.verdict.Verdict.{Verdict}
use Rattle.noise_check.specs.declared.verdict.Verdict.TheVariants.{Accepted, TooNoisy}
use Rattle.noise_check.specs.Verdicts.{fresh_bounds, verdict_of}
use Rattle.command_words.specs.Step.{step_named}
use Rattle.command_words.specs.Form.{form_of, binding_file}
use Rattle.command_words.specs.Line.{word_at}
use Rattle.command_words.specs.declared.form.Form.{Form}
use Rattle.command_words.specs.declared.form.Form.TheVariants as form
use Rattle.command_model.specs.Bindings.{bound_names, place_bound}
use Rattle.command_model.specs.Report.{report_text}
use Rattle.command_model.specs.Plan.{seed_word, out_name, element_of}

-- whose secret: the set, the key id, and the n coefficients as words, with 2 for -1
pub record Owner : Type 0 where
  pub set : SetName
  pub key_id : List ℕ
  pub secret : List ℕ

abbrev pub same_owner : Owner → Owner → Bool
same_owner a b = (number_of a.set == number_of b.set) && (bytes_eq a.key_id b.key_id && bytes_eq a.secret b.secret)

-- what a file stands for
pub data Item : Type 0 where
  text : (bytes : List ℕ) → Item
  secret_of : (owner : Owner) → Item
  public_key_of : (owner : Owner) → Item
  switch_key_of : (owner : Owner) (kind : KeyKind) (element : ℕ) → Item
  sealed : (owner : Owner) (values : List ℕ) → Item

-- a plain state: what each name stands for, if anything
abbrev pub State : Type 0
State = List ℕ → Option Item

-- the state with the item of one name set, or taken away
abbrev pub with_item : State → List ℕ → Option Item → State
with_item state name item = λ other. if bytes_eq other name then item else state other

-- the owner of the secret that a seed draws for a set
abbrev pub drawn_owner : SetName → List ℕ → Owner
drawn_owner set seed = record {
  set = set;
  key_id = drawn_key_id (seed_word seed);
  secret = values_below (degree_of set) (drawn_secret (seed_word seed));
}

-- a text, as a seed, draws a secret
abbrev pub drawn : SetName → Option Item → Option Item
drawn set (Some (text seed)) = Some (secret_of (drawn_owner set seed))
drawn set _ = None

-- a secret has public keys
abbrev pub published : Option Item → Option Item
published (Some (secret_of owner)) = Some (public_key_of owner)
published _ = None

-- and it has switching keys of each kind, with an element that its degree gives
abbrev pub switched : KeyKind → (ℕ → ℕ) → Option Item → Option Item
switched kind element (Some (secret_of owner)) = Some (switch_key_of owner kind (element (degree_of owner.set)))
switched kind element _ = None

abbrev pub sealed_if_read : Owner → Result (List ℕ) ValuePlace → Option Item
sealed_if_read owner (Ok values) = Some (sealed owner values)
sealed_if_read owner (Err place) = None

-- a public key seals the values of a text
abbrev pub sealed_under : Option Item → Option Item → Option Item
sealed_under (Some (public_key_of owner)) (Some (text bytes)) = sealed_if_read owner (values_of bytes (degree_of owner.set) (plain_of owner.set))
sealed_under _ _ = None

-- the values that a cipher seals are read with the secret that it was sealed under
abbrev pub opened : Option Item → Option Item → Option Item
opened (Some (secret_of owner)) (Some (sealed other values)) = if same_owner owner other then Some (text (printed_values values)) else None
opened _ _ = None

-- the item of the file that the words of `run` bind to an input
abbrev pub item_bound : List (List ℕ) → State → Input → Option Item
item_bound words state input = option_and_then (λ place. state (binding_file (word_at words (3 + place)))) (place_bound (bound_names words) input.name)

-- the owner of a cipher
abbrev pub owner_of : Option Item → Option Owner
owner_of (Some (sealed owner values)) = Some owner
owner_of _ = None

-- the values that an item gives to an input of this kind: those that are sealed for this owner, or those that a text lists
abbrev pub values_given : Owner → SetName → InputKind → Option Item → Option (List ℕ)
values_given owner set input.Cipher (Some (sealed other values)) = if same_owner owner other then Some values else None
values_given owner set input.Plain (Some (text bytes)) = result_ok (values_of bytes (degree_of set) (plain_of set))
values_given owner set kind item = None

-- all values, where none is missing
abbrev pub all_given : List (Option (List ℕ)) → Option (List (List ℕ))
all_given [] = Some []
all_given (given ∷ others) = option_and_then (λ values. option_map (λ lists. values ∷ lists) (all_given others)) given

-- a script's value on what is given to its inputs, sealed for this owner
abbrev pub sealed_value : Script → List (List ℕ) → State → Owner → Option Item
sealed_value script words state owner =
    option_map (λ lists. sealed owner (value_of script lists))
    (all_given (map (λ input. values_given owner script.set input.kind (item_bound words state input)) script.inputs))

-- a script seals its value for the owner of the cipher that is bound to its first cipher input
abbrev pub ran_script : List (List ℕ) → State → Script → Option Item
ran_script words state script =
    option_and_then (sealed_value script words state)
    (option_and_then (λ input. owner_of (item_bound words state input)) (slice_get (cipher_inputs script.inputs) 0))

-- a text, as a script, is run
abbrev pub ran : List (List ℕ) → State → Option Item → Option Item
ran words state (Some (text bytes)) = option_and_then (ran_script words state) (result_ok (script_of bytes))
ran words state _ = None

-- a script that is accepted has a report
abbrev pub report_by : Script → Verdict → Option Item
report_by script (Accepted bounds) = Some (text (report_text script bounds))
report_by script (TooNoisy line bound limit) = None

-- a text, as a script, is reported on with fresh bounds for all its cipher inputs
abbrev pub reported : Option Item → Option Item
reported (Some (text bytes)) = option_and_then (λ script. report_by script (verdict_of script (fresh_bounds script))) (result_ok (script_of bytes))
reported _ = None

-- the item of the file OUT; a command without one makes none
abbrev pub item_made : Form → List (List ℕ) → State → Option Item
item_made form.Secret words state = option_and_then (λ set. drawn set (state (word_at words 2))) (set_named (word_at words 1))
item_made form.Public words state = published (state (word_at words 1))
item_made form.Relin words state = switched Relin (λ n. 0) (state (word_at words 1))
item_made form.Turn words state = option_and_then (λ step. switched Turn (element_of step) (state (word_at words 1))) (step_named (word_at words 2))
item_made form.Encrypt words state = sealed_under (state (word_at words 1)) (state (word_at words 3))
item_made form.Run words state = ran words state (state (word_at words 1))
item_made form.Decrypt words state = opened (state (word_at words 1)) (state (word_at words 2))
item_made form.Check words state = None
item_made form.Report words state = reported (state (word_at words 1))
item_made form.Batch words state = None

-- the state with the item of this name, where one is named
abbrev pub with_item_at : State → Option (List ℕ) → Option Item → State
with_item_at state None item = state
with_item_at state (Some name) item = with_item state name item

abbrev pub step_of_form : Option Form → List (List ℕ) → State → State
step_of_form None words state = state
step_of_form (Some form) words state = with_item_at state (out_name (Some form) words) (item_made form words state)

-- the state after a command that is done: only the item of the file OUT changes
abbrev pub step : List (List ℕ) → State → State
step words state = step_of_form (form_of words) words state

-- n coefficients from -1 to 1
pub record IsTernary (n : ℕ) (secret : List ℕ) : Type 0 where
  pub count : length secret ≡ n
  pub below : All (λ word. word < 3) secret

-- the content is of this kind and of this owner's set and key id, and the owner's secret is ternary
pub record BelongsTo (owner : Owner) (kind : FileKind) (content : FileContent) : Type 0 where
  pub is_kind : content.kind ≡ kind
  pub of_set : content.set ≡ owner.set
  pub of_key : content.key_id ≡ owner.key_id
  pub ternary : IsTernary (degree_of owner.set) owner.secret

-- the content is that of the owner's secret
pub record IsSecretOf (owner : Owner) (content : FileContent) : Type 0 where
  pub belongs : BelongsTo owner Secret content
  pub words : content.words ≡ owner.secret

-- the content is a public key of the owner's secret
pub record IsPublicKeyFor (owner : Owner) (content : FileContent) : Type 0 where
  pub belongs : BelongsTo owner PublicKey content
  pub words : WordsArePublicKeyOf (degree_of owner.set) (data_of owner.set) greatest_error
      (stored_word (degree_of owner.set) (length (data_of owner.set)) content.words) (secret_polynomial owner.secret)

-- the content is a switching key of this kind and element for the owner's secret
pub record IsSwitchKeyFor (owner : Owner) (kind : KeyKind) (element : ℕ) (content : FileContent) : Type 0 where
  pub belongs : BelongsTo owner (SwitchKey kind) content
  pub of_element : content.element ≡ element
  pub words : IsSwitchKeyIn owner.set (stored_key_word (degree_of owner.set) (length (key_of owner.set)) content.words)
      (key_source kind (degree_of owner.set) element (secret_polynomial owner.secret)) (secret_polynomial owner.secret)

-- the content is a cipher that holds, under the owner's secret and within the bound that it states, the plaintext with these slots
pub record IsSealed (owner : Owner) (values : List ℕ) (content : FileContent) : Type 0 where
  pub belongs : BelongsTo owner Cipher content
  pub plaintext : ℕ → ℕ
  pub slots : values ≡ slots_of owner.set (natural_polynomial plaintext)
  pub holds : CipherHolds (degree_of owner.set) (data_of owner.set) (plain_of owner.set)
      (stored_word (degree_of owner.set) (length (data_of owner.set)) content.words)
      (secret_polynomial owner.secret) plaintext (bound_value content.mantissa content.exponent)

-- the bytes of a file stand for an item
abbrev pub IsItem : Item → List ℕ → Type 0
IsItem (text bytes) held = held ≡ bytes
IsItem (secret_of owner) held = (content : FileContent) × (IsFile held content × IsSecretOf owner content)
IsItem (public_key_of owner) held = (content : FileContent) × (IsFile held content × IsPublicKeyFor owner content)
IsItem (switch_key_of owner kind element) held = (content : FileContent) × (IsFile held content × IsSwitchKeyFor owner kind element content)
IsItem (sealed owner values) held = (content : FileContent) × (IsFile held content × IsSealed owner values content)

-- the files stand for a plain state: for each name with an item there is a file whose bytes stand for it
pub record Stands (files : Files) (state : State) : Type 0 where
  pub each : (name : List ℕ) (item : Item) → state name ≡ Some item → (bytes : List ℕ) × ((file files name ≡ Some bytes) × IsItem item bytes)
