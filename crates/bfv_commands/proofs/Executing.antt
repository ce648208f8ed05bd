-- Runs of scripts on the files that are bound to their inputs: what the inputs carry, and what the file of the output seals.
use Rattle.std.proofs.Common.{arith, ◌≡◌, ◌≢◌, inl, ℕ, zero, suc, ◌+◌, ◌*◌, ◌<◌, ◌≤◌, List, [], ◌∷◌, length, All, refl, sym, ◌∙◌, ap, subst, ⊎_elim, replicate, ℤ, mul-le-mul_left}
use Rattle.std.specs.Prelude.{slice_get, slice_index, slice_index_or, Some}
use Rattle.std.proofs.lemmas.Bool.{cases_eq, cases_lt}
use Rattle.std.proofs.lemmas.List.{get_or-map, get_or_past, length-map, take_all}
use Rattle.std.proofs.lemmas.Option.{get_or_from_slice_get}
use Rattle.outer_io.specs.Store.{Files}
use Rattle.set_table.specs.declared.SetName.{SetName}
use Rattle.set_table.specs.Sets.{degree_of, plain_of, data_of}
use Rattle.ring_law.specs.Polynomials.{AllWithin}
use Rattle.ring_law.specs.Rows.{natural_polynomial}
use Rattle.bound_num.specs.Bound.{bound_value}
use Rattle.file_model.specs.declared.file_kind.FileKind.TheVariants as kind
use Rattle.file_model.specs.FileText.{FileContent}
use Rattle.bfv_model.specs.Holds.{CipherHolds, listed_word, listed_words, stored_word, secret_polynomial}
use Rattle.bfv_model.specs.Slots.{slots_of}
use Rattle.bfv_model.proofs.Ciphers.{stored_word-listed_words}
use Rattle.bfv_model.proofs.ListedWords.{CipherHolds-equal_words, CipherHolds-within, secret_polynomial_within}
use Rattle.bfv_params.specs.Kept.{IsCipher}
use Rattle.bfv_params.specs.Rows.{ZeroFrom}
use Rattle.bfv_params.specs.Values.{CipherValue, ContextValue, zero_cipher}
use Rattle.bfv_params.specs.Ciphers.{IsCipherOf}
use Rattle.script_text.specs.declared.script.Op.{Op}
use Rattle.script_text.specs.declared.script.Op.TheVariants.{Add, Sub, Neg, AddPlain, SubPlain, MulPlain, MulConst, Mul, Relin, Turn, Swap}
use Rattle.script_text.specs.declared.script.Step.{Step}
use Rattle.script_text.specs.Scripts.{Script, IsSound, AllFit, Fits, input_shape, plain_inputs}
use Rattle.script_run.specs.Places.{cipher_at}
use Rattle.script_run.specs.Registers.{Live, input_count}
use Rattle.script_run.specs.Runs.{Carries, InputsCarry}
use Rattle.script_run.specs.Workspaces.{WorkspaceValue, MadeFor, input_of, whole_context}
use Rattle.cipher_files.specs.Contents.{part_words}
use Rattle.file_model.specs.Heads.{IsHeadOf}
use Rattle.cipher_files.proofs.ListedWords.{length-listed_words}
use Rattle.command_model.specs.Bindings.{no_content}
use Rattle.command_model.specs.Plan.{stated_bounds}
use Rattle.command_model.specs.Plain.{Owner, BelongsTo, IsSealed}
use Rattle.run_operands.specs.declared.bound_files.BoundCipher.{BoundCipher}
use Rattle.run_operands.specs.declared.bound_files.Operand.{Operand}
use Rattle.run_operands.specs.BoundFiles.{AreHeld, MayBeBound}
use Rattle.bfv_commands.specs.RunStages.{AreSealed}
use Rattle.bfv_commands.specs.Filled.{AreListed, HasWordsOf, HaveWordsOf}
use Rattle.key_commands.proofs.Decryptions.{at_all_moduli}

-- ---- scripts have cipher inputs
-- no operation fits where there is no register
no_operand : (set : SetName) (plains : ℕ) (op : Op) → Fits set plains [] op → ⊥
no_operand set plains (Add a b) fits = let below = fits.operands.0 in omega arith
no_operand set plains (Sub a b) fits = let below = fits.operands.0 in omega arith
no_operand set plains (Neg a) fits = let below = fits.operands.0 in omega arith
no_operand set plains (AddPlain a p) fits = let below = fits.operands.0 in omega arith
no_operand set plains (SubPlain a p) fits = let below = fits.operands.0 in omega arith
no_operand set plains (MulPlain a p) fits = let below = fits.operands.0 in omega arith
no_operand set plains (MulConst a k) fits = let below = fits.operands.0 in omega arith
no_operand set plains (Mul a b) fits = let below = fits.operands.0 in omega arith
no_operand set plains (Relin a) fits = let below = fits.operands.0 in omega arith
no_operand set plains (Turn a k) fits = let below = fits.operands.0 in omega arith
no_operand set plains (Swap a) fits = let below = fits.operands.0 in omega arith

no_output : (set : SetName) (plains output : ℕ) (steps : List Step) → AllFit set plains [] steps → output < length steps → ⊥
no_output set plains output [] fit below = omega arith
no_output set plains output (step ∷ steps) fit below = no_operand set plains step.op fit.0

pub some_cipher : (script : Script) → IsSound script → 0 < input_count script
some_cipher script sound = ⊎_elim (λ (some : 0 < input_count script). some) (λ (none : input_count script ≤ 0). absurd (by (input_count script) none sound.fit sound.output)) (cases_lt 0 (input_count script))
  where
    by : (count : ℕ) → count ≤ 0 → AllFit script.set (length (plain_inputs script.inputs)) (replicate count input_shape) script.steps → script.output < count + length script.steps → ⊥
    by zero none fit below = no_output script.set (length (plain_inputs script.inputs)) script.output script.steps fit (omega arith)
    by (suc count) none fit below = omega arith

-- ---- ciphers that are bound
-- the element at a place of a list
element_at : {A : Type 0} (xs : List A) (i : ℕ) → i < length xs → (x : A) × (slice_get xs i ≡ Some x)
element_at [] i below = absurd (omega arith)
element_at (first ∷ xs) zero below = (first, refl)
element_at (first ∷ xs) (suc i) below = element_at xs i (omega arith)

-- a cipher that is among those that may be bound
bound_at : (set : SetName) (count : ℕ) (ciphers : List BoundCipher) (r : ℕ) (cipher : BoundCipher) → r < length ciphers → slice_get ciphers r ≡ Some cipher
    → All (MayBeBound set count) ciphers → MayBeBound set count cipher
bound_at set count ciphers r cipher below is all = subst (MayBeBound set count) (get_or_from_slice_get ciphers r cipher cipher is) (all r cipher below)

-- what a cipher seals is sealed for an owner of the script's set
owner_of_set : (set : SetName) (count : ℕ) (cipher : BoundCipher) (owner : Owner) (values : List ℕ) (content : FileContent) → MayBeBound set count cipher
    → IsHeadOf cipher.head content → IsSealed owner values content → owner.set ≡ set
owner_of_set set count cipher owner values content bound head is = sym is.belongs.of_set ∙ ap (λ (x : FileContent). x.set) head.states ∙ bound.of_set

-- a cipher that has the words of a file carries what the file seals
carried : (n : ℕ) (set : SetName) (cipher : CipherValue) (owner : Owner) (values : List ℕ) (content : FileContent) → n ≡ degree_of set → owner.set ≡ set
    → HasWordsOf n set cipher content → IsSealed owner values content
    → Carries n (whole_context set) (secret_polynomial owner.secret) cipher values (bound_value content.mantissa content.exponent)
carried n set cipher owner values content degree of_set same is = record {
  plaintext = is.plaintext;
  slots = ap (λ (z : SetName). slots_of z (natural_polynomial is.plaintext)) (sym of_set) ∙ sym is.slots;
  holds = at_all_moduli set (length (data_of set)) (λ moduli count. CipherHolds n moduli (plain_of set) (listed_word count cipher.rows) s is.plaintext bound) refl
      (CipherHolds-equal_words n (data_of set) (plain_of set) (listed_word (length (data_of set)) cipher.rows) (stored_word n (length (data_of set)) content.words) s is.plaintext bound same
      (subst (λ (d : ℕ). CipherHolds d (data_of set) (plain_of set) (stored_word d (length (data_of set)) content.words) s is.plaintext bound) (sym degree)
      (subst (λ (z : SetName). CipherHolds (degree_of z) (data_of z) (plain_of z) (stored_word (degree_of z) (length (data_of z)) content.words) s is.plaintext bound) of_set is.holds)));
}
  where
    s : ℕ → ℤ
    s = secret_polynomial owner.secret

    bound : ℕ
    bound = bound_value content.mantissa content.exponent

-- ---- the inputs of a script
-- what was read of the files of the ciphers: their contents, and the words in the places of the inputs
pub record AreRead (n : ℕ) (script : Script) (space : WorkspaceValue) (words : List (List ℕ)) (files : Files) (count : ℕ) (ciphers : List BoundCipher)
    (contents : List FileContent) : Type 0 where
  pub degree : n ≡ degree_of script.set
  pub set : space.set ≡ script.set
  pub inputs : space.inputs ≡ input_count script
  pub counted : length ciphers ≡ input_count script
  pub bound : All (MayBeBound script.set count) ciphers
  pub held : AreHeld words files ciphers contents
  pub words_read : HaveWordsOf n space contents

-- the owner of a cipher input is of the script's set
input_owner : (n : ℕ) (script : Script) (space : WorkspaceValue) (words : List (List ℕ)) (files : Files) (count : ℕ) (ciphers : List BoundCipher) (contents : List FileContent)
    (owner : Owner) (plains lists : List (List ℕ)) (r : ℕ) → AreRead n script space words files count ciphers contents → AreSealed owner script contents plains lists
    → r < input_count script → owner.set ≡ script.set
input_owner n script space words files count ciphers contents owner plains lists r read is below =
    let inside : r < length ciphers = subst (λ (c : ℕ). r < c) (sym read.counted) below in
    let found = element_at ciphers r inside in
    owner_of_set script.set count found.0 owner _ (slice_index_or contents r no_content) (bound_at script.set count ciphers r found.0 inside found.1 read.bound)
    (read.held.each r found.0 found.1).head_is (is.ciphers r below)

-- they carry what their files seal for an owner
pub inputs_carry : (n : ℕ) (script : Script) (space : WorkspaceValue) (words : List (List ℕ)) (files : Files) (count : ℕ) (ciphers : List BoundCipher) (contents : List FileContent)
    (operands : List Operand) (places : List ℕ) (owner : Owner) (plains lists : List (List ℕ)) → AreRead n script space words files count ciphers contents
    → length places ≡ length (plain_inputs script.inputs) → AreListed operands places space.plains → AreListed operands places plains
    → AreSealed owner script contents plains lists
    → InputsCarry n (whole_context script.set) (secret_polynomial owner.secret) script space.plan space.places space.plains lists (stated_bounds contents)
inputs_carry n script space words files count ciphers contents operands places owner plains lists read placed filled listed is = record {
  listed = is.listed;
  bounded = length-map contents stated ∙ sym read.held.count ∙ read.counted;
  ciphers = λ r below.
      let content = slice_index_or contents r no_content in
      let inside : r < length contents = omega (arith, below, read.held.count, read.counted) in
      subst (Carries n (whole_context script.set) (secret_polynomial owner.secret) (input_of space r) _) (sym (get_or-map stated contents r no_content 0 inside))
      (carried n script.set (input_of space r) owner _ content read.degree (input_owner n script space words files count ciphers contents owner plains lists r read is below)
      (subst (λ (z : SetName). HasWordsOf n z (input_of space r) content) read.set (read.words_read r (subst (λ (c : ℕ). r < c) (sym read.inputs) below))) (is.ciphers r below));
  values = λ p below.
      let inside : p < length places = subst (λ (c : ℕ). p < c) (sym placed) below in
      filled p inside ∙ sym (listed p inside) ∙ is.values p below;
}
  where
    stated : FileContent → ℕ
    stated content = bound_value content.mantissa content.exponent

-- the owner's secret is ternary
pub owner_ternary : (n : ℕ) (script : Script) (contents : List FileContent) (owner : Owner) (plains lists : List (List ℕ)) → IsSound script
    → AreSealed owner script contents plains lists → AllWithin n 1 (secret_polynomial owner.secret)
owner_ternary n script contents owner plains lists sound is = secret_polynomial_within owner.secret n (is.ciphers 0 (some_cipher script sound)).belongs.ternary.below

-- ---- workspaces that are filled
-- the inputs of a workspace have places of their own
pub inputs_apart : (script : Script) (space : WorkspaceValue) → MadeFor script space → space.inputs ≡ input_count script → (r other : ℕ) → r < space.inputs → other < space.inputs
    → slice_index space.plan r ≡ slice_index space.plan other → r ≡ other
inputs_apart script space made count r other below other_below same = made.plan.apart 0 r other (omega arith) (live r below) (live other other_below) same
  where
    live : (q : ℕ) → q < space.inputs → Live script 0 q
    live q inside = record { defined = omega arith; needed = inl refl }

-- a place that was not filled is a cipher of the context
pub zero_of_context : (n : ℕ) (ctx : ContextValue) (old new : WorkspaceValue) (r : ℕ) → ctx ≡ whole_context new.set → new.places ≡ old.places → new.plan ≡ old.plan
    → input_of old r ≡ zero_cipher n ctx.set ctx.level → IsCipherOf (whole_context new.set) (input_of new r)
zero_of_context n ctx old new r context places plan is =
    subst (λ (c : ContextValue). IsCipherOf c (input_of new r)) context
    (subst (IsCipherOf ctx) (sym (ap (λ (p : List CipherValue). cipher_at p (slice_index new.plan r)) places ∙ ap (λ (p : List ℕ). cipher_at old.places (slice_index p r)) plan ∙ is))
    record { set = refl; level = refl })

-- a fact of each input, once the place of one was filled and all others are as before
pub one_more : (P : ℕ → CipherValue → Type 0) (old new : WorkspaceValue) (input q : ℕ) → new.plan ≡ old.plan
    → ((p : ℕ) → p ≢ slice_index old.plan input → cipher_at new.places p ≡ cipher_at old.places p)
    → (slice_index old.plan q ≡ slice_index old.plan input → q ≡ input) → P input (input_of new input) → (q ≢ input → P q (input_of old q)) → P q (input_of new q)
one_more P old new input q plan others apart one before =
    ⊎_elim (λ (same : q ≡ input). subst (λ (r : ℕ). P r (input_of new r)) (sym same) one)
    (λ (differ : q ≡ input → ⊥).
    subst (P q) (sym (ap (λ (p : List ℕ). cipher_at new.places (slice_index p q)) plan ∙ others (slice_index old.plan q) (λ same. differ (apart same)))) (before differ))
    (cases_eq q input)

-- ---- the file of an output
-- the words of the parts that a cipher has, as they are stored, are those of its rows
stored_parts : (n count parts : ℕ) (rows : List (List ℕ)) (j i k : ℕ) → ZeroFrom n (parts * count) rows → length rows ≡ 3 * count → j < 3 → i < count → k < n
    → stored_word n count (listed_words n count parts (listed_word count rows)) j i k ≡ listed_word count rows j i k
stored_parts n count parts rows j i k rest size few row place =
    ⊎_elim (λ (there : j < parts). stored_word-listed_words n count parts (listed_word count rows) j i k there row place)
    (λ (past : parts ≤ j).
    let behind : count * parts ≤ count * j = mul-le-mul_left count past in
    let behind_words : n * (parts * count) ≤ n * (j * count + i) = mul-le-mul_left n (omega arith) in
    let in_rows : count * (j + 1) ≤ count * 3 = mul-le-mul_left count (omega arith) in
    let counted = length-listed_words n count parts (listed_word count rows) in
    get_or_past (listed_words n count parts (listed_word count rows)) ((j * count + i) * n + k) 0 (omega arith)
    ∙ sym (rest (j * count + i) k (omega arith) (omega arith) place))
    (cases_lt j parts)

-- a file that has the words of a cipher, and states a bound that is no lower, seals what the cipher carries
pub output_sealed : (n : ℕ) (set : SetName) (owner : Owner) (values : List ℕ) (bound : ℕ) (cipher : CipherValue) (content : FileContent) → n ≡ degree_of set
    → IsCipherOf (whole_context set) cipher → IsCipher n cipher.set cipher.room cipher.level cipher.parts cipher.rows
    → Carries n (whole_context set) (secret_polynomial owner.secret) cipher values bound
    → BelongsTo owner kind.Cipher content → content.set ≡ set → content.words ≡ part_words n set cipher.parts cipher.rows
    → bound ≤ bound_value content.mantissa content.exponent → IsSealed owner values content
output_sealed n set owner values bound cipher content degree of_context kept carries belongs of_set words larger = record {
  belongs = belongs;
  plaintext = carries.plaintext;
  slots = sym carries.slots ∙ ap (λ (z : SetName). slots_of z (natural_polynomial carries.plaintext)) owned;
  holds = subst (λ (z : SetName). CipherHolds (degree_of z) (data_of z) (plain_of z) (stored_word (degree_of z) (length (data_of z)) content.words) s carries.plaintext stated) owned
      (subst (λ (d : ℕ). CipherHolds d (data_of set) (plain_of set) (stored_word d (length (data_of set)) content.words) s carries.plaintext stated) degree
      (CipherHolds-equal_words n (data_of set) (plain_of set) (stored_word n (length (data_of set)) content.words) (listed_word (length (data_of set)) cipher.rows) s carries.plaintext stated stored
      (CipherHolds-within bound stated larger
      (subst (λ (moduli : List ℕ). CipherHolds n moduli (plain_of set) (listed_word (length (data_of set)) cipher.rows) s carries.plaintext bound)
      (take_all (length (data_of set)) (data_of set) (omega arith)) carries.holds))));
}
  where
    s : ℕ → ℤ
    s = secret_polynomial owner.secret

    stated : ℕ
    stated = bound_value content.mantissa content.exponent

    owned : set ≡ owner.set
    owned = sym of_set ∙ belongs.of_set

    stored : (j i k : ℕ) → j < 3 → i < length (data_of set) → k < n
        → stored_word n (length (data_of set)) content.words j i k ≡ listed_word (length (data_of set)) cipher.rows j i k
    stored j i k few row place =
        ap (λ (listed : List ℕ). stored_word n (length (data_of set)) listed j i k) words
        ∙ stored_parts n (length (data_of set)) cipher.parts cipher.rows j i k
        (subst (λ (count : ℕ). ZeroFrom n (cipher.parts * count) cipher.rows) of_context.level kept.rest) (kept.size ∙ ap (λ (count : ℕ). 3 * count) of_context.level) few row place
