-- What the words of a command and the files lead to: the first refusal, or the file OUT as far as it is determined.
use Rattle.std.specs.Option.{option_map, option_or}
use Rattle.std.specs.Str.{bytes_eq}
use Rattle.std.specs.Prelude.{◌≡◌, ℕ, ◌+◌, ◌-◌, ◌*◌, ◌/◌, ◌%◌, ◌^◌, ◌<◌, nat_lt, ◌&&◌, ◌==◌, if◌then◌else◌, List, [], ◌∷◌, length, map, position, slice_get, slice_index, unwrap_or, All, Option, Some, None, is_none, Result}
use Rattle.outer_io.specs.Store.{Files}
use Rattle.set_table.specs.declared.SetName.{SetName}
use Rattle.set_table.specs.declared.KeyKind.TheVariants.{Relin, Turn}
use Rattle.set_table.specs.Sets.{set_named, number_of, degree_of, plain_of, special_of}
use Rattle.file_model.specs.declared.file_kind.FileKind.TheVariants as kind
use Rattle.file_model.specs.FileText.{FileContent, IsFile, file_text}
use Rattle.file_model.specs.DrawnFiles.{drawn_secret_file, drawn_public_file, drawn_switch_file, drawn_cipher_file}
use Rattle.file_model.specs.declared.head.Wanted.TheVariants as wanted
use Rattle.bfv_model.specs.Drawn.{stream_word, seed_stream, greatest_error}
use Rattle.bfv_model.specs.NoiseBounds.{fresh_bound}
use Rattle.bfv_model.specs.Slots.{slots_of}
use Rattle.bound_num.specs.declared.Bound.{Bound}
use Rattle.bound_num.specs.Bound.{IsUp, bound_value}
use Rattle.ring_law.specs.Rows.{natural_polynomial}
use Rattle.script_text.specs.declared.faults.ScriptPlace.TheVariants.{Syntax}
use Rattle.script_text.specs.declared.script.InputKind.{InputKind}
use Rattle.script_text.specs.declared.script.InputKind.TheVariants as input
use Rattle.script_text.specs.Scripts.{Script, keys_needed, needs_of, shape_at, shapes_of}
use Rattle.script_text.specs.Values.{printed_values}
use Rattle.noise_check.specs.declared.verdict.Verdict.{Verdict}
use Rattle.noise_check.specs.declared.verdict.Verdict.TheVariants as verdict
use Rattle.noise_check.specs.Verdicts.{fresh_bounds, verdict_of}
use Rattle.command_words.specs.Step.{step_named}
use Rattle.command_words.specs.Form.{form_of, out_word, binding_name, binding_file}
use Rattle.command_words.specs.Line.{word_at, accepted_text}
use Rattle.command_words.specs.declared.form.Form.{Form}
use Rattle.command_words.specs.declared.form.Form.TheVariants as form
use Rattle.command_words.specs.declared.step.Step.{Step}
use Rattle.command_words.specs.declared.step.Step.TheVariants.{Left, Swap}
use Rattle.command_words.specs.declared.status.Status.{Status}
use Rattle.command_words.specs.declared.status.Status.TheVariants.{Usage, SetMismatch, KeyMismatch, BadScript, TooNoisy, Binding, NoSpecial, BadStep, PartsMismatch}
use Rattle.command_model.specs.Bindings.{bindings_of, bound_names, input_named, kind_at, fault_of_bindings, Operand, bound_cipher, bound_values, first_key_id, Run, ciphers_of, plains_of}
use Rattle.command_model.specs.Report.{report_text}
use Rattle.command_model.specs.Reading.{Output, file_with, sealing, running, values, accepted, reporting, commands, own_file, seed_file, values_file, script_file, batch_file, Reading, read, read_word, refused, done, unless, outcome}

-- ---- what doesn't match

-- the content of the file that a word names is of another set than this one
abbrev pub other_set : SetName → ℕ → FileContent → Option Status
other_set set word content = if number_of content.set == number_of set then None else Some (SetMismatch word content.set set)

-- it has not two parts
abbrev pub other_parts : ℕ → FileContent → Option Status
other_parts word content = if content.parts == 2 then None else Some (PartsMismatch word content.parts 2)

-- it belongs to another secret than that of this key id
abbrev pub other_key : List ℕ → ℕ → FileContent → Option Status
other_key key_id word content = if bytes_eq content.key_id key_id then None else Some (KeyMismatch word content.key_id key_id)

-- the file of a word doesn't belong to the set or to the secret of another file; the sets are compared first
abbrev pub unmatched : ℕ → FileContent → FileContent → Option Status
unmatched word content other = option_or (other_set other.set word content) (other_key other.key_id word content)

-- ---- the commands

-- the word at a place of the stream of a seed
abbrev pub seed_word : List ℕ → ℕ → ℕ
seed_word seed place = stream_word (seed_stream seed) place

-- what a word names, such as a set; words that have a form name one where it is wanted
abbrev pub for_named : {A : Type 0} → Option A → (A → Reading) → Reading
for_named None rest = refused Usage
for_named (Some named) rest = rest named

-- `secret SET SEEDFILE OUT`
abbrev pub reading_of_secret : List (List ℕ) → Reading
reading_of_secret words =
    for_named (set_named (word_at words 1)) (λ set. read_word words 2 seed_file (λ seed.
    done (file_with (drawn_secret_file set (seed_word seed)))))

-- `public SEC SEEDFILE OUT`: the secret is read before the seed
abbrev pub reading_of_public : List (List ℕ) → Reading
reading_of_public words =
    read_word words 1 (own_file wanted.Secret) (λ secret. read_word words 2 seed_file (λ seed.
    done (file_with (drawn_public_file secret (seed_word seed)))))

-- a set without a special modulus has no switching keys
abbrev pub without_special : SetName → Option Status
without_special set = if is_none (special_of set) then Some (NoSpecial set) else None

-- `relin SEC SEEDFILE OUT`
abbrev pub reading_of_relin : List (List ℕ) → Reading
reading_of_relin words =
    read_word words 1 (own_file wanted.Secret) (λ secret. unless (without_special secret.set) (read_word words 2 seed_file (λ seed.
    done (file_with (drawn_switch_file Relin 0 secret (seed_word seed))))))

-- the Galois element of a step at degree n: a power of 3 turns both halves of the slots left, and 2n - 1 exchanges them
abbrev pub element_of : Step → ℕ → ℕ
element_of (Left places) n = 3 ^ places % (2 * n)
element_of Swap n = 2 * n - 1

-- a half, which has n / 2 slots, is turned by fewer places
abbrev pub too_far : Step → ℕ → Option Status
too_far (Left places) n = if nat_lt places (n / 2) then None else Some (BadStep places (n / 2))
too_far Swap n = None

-- the key of a turn by a step, of a secret that was read: it is asked for the special modulus before the step
abbrev pub turned_by : List (List ℕ) → Step → FileContent → Reading
turned_by words step secret =
    unless (without_special secret.set) (unless (too_far step (degree_of secret.set)) (read_word words 3 seed_file (λ seed.
    done (file_with (drawn_switch_file Turn (element_of step (degree_of secret.set)) secret (seed_word seed))))))

-- `turn SEC STEP SEEDFILE OUT`
abbrev pub reading_of_turn : List (List ℕ) → Reading
reading_of_turn words = for_named (step_named (word_at words 2)) (λ step. read_word words 1 (own_file wanted.Secret) (turned_by words step))

-- `encrypt PUB SEEDFILE VALUES OUT`: the public key is read before the seed, and the seed before the values
abbrev pub reading_of_encrypt : List (List ℕ) → Reading
reading_of_encrypt words =
    read_word words 1 (own_file wanted.Public) (λ public. read_word words 2 seed_file (λ seed.
    read_word words 3 (values_file public.set) (λ listed. done (sealing public listed seed))))

-- `decrypt SEC CIPHER OUT`: the secret is read before the cipher, and then they are compared
abbrev pub reading_of_decrypt : List (List ℕ) → Reading
reading_of_decrypt words =
    read_word words 1 (own_file wanted.Secret) (λ secret. read_word words 2 (own_file wanted.Cipher) (λ cipher.
    unless (unmatched 2 cipher secret) (done (values secret cipher))))

-- the bound of a register among those of all
abbrev pub bound_at : List Bound → ℕ → Bound
bound_at bounds register = unwrap_or (slice_get bounds register) (record { m = 0; e = 0 })

-- an accepted script leads to an output by the bounds of its registers
abbrev pub judged_by : Verdict → (List Bound → Output) → Reading
judged_by (verdict.Accepted bounds) output = done (output bounds)
judged_by (verdict.TooNoisy line bound limit) output = refused (TooNoisy line bound limit)

-- or by the bound of its own output alone
abbrev pub judged : Script → Verdict → (Bound → Output) → Reading
judged script given output = judged_by given (λ bounds. output (bound_at bounds script.output))

-- a script that switches keys is refused where its set has no special modulus
abbrev pub no_special : Script → Option Status
no_special script = if nat_lt 0 (length (needs_of script)) && is_none (special_of script.set) then Some (NoSpecial script.set) else None

-- a script is judged with fresh bounds for all its cipher inputs
abbrev pub judged_fresh : Script → (List Bound → Output) → Reading
judged_fresh script output = unless (no_special script) (judged_by (verdict_of script (fresh_bounds script)) output)

-- the bound of a script's output is what a check is for
abbrev pub checked : Script → Reading
checked script = judged_fresh script (λ bounds. accepted (bound_at bounds script.output))

-- `check SCRIPT`
abbrev pub reading_of_check : List (List ℕ) → Reading
reading_of_check words = read_word words 1 script_file checked

-- `report SCRIPT OUT`
abbrev pub reading_of_report : List (List ℕ) → Reading
reading_of_report words = read_word words 1 script_file (λ script. judged_fresh script (reporting script))

-- ---- `run`

-- the line of a script's step
abbrev pub line_of_step : Script → ℕ → ℕ
line_of_step script step = slice_index (map (λ s. s.line) script.steps) step

-- the first step that needs a switching key is refused: no keys are read
abbrev pub needing_key : Script → Option Status
needing_key script =
    option_map (λ step. BadScript (Syntax (line_of_step script step))) (position (λ step. nat_lt 0 (length (keys_needed (degree_of script.set) step.op))) script.steps)

-- what is wrong with the bindings of `run`
abbrev pub badly_bound : Script → List (List ℕ) → Option Status
badly_bound script words = option_map Binding (fault_of_bindings script (bound_names words))

-- the file that a word binds to an input of this kind is read
abbrev pub reading_of_kind : SetName → InputKind → List ℕ → ℕ → (Operand → Reading) → Reading
reading_of_kind set input.Cipher name word rest = read name word (own_file wanted.Cipher) (λ content. rest (bound_cipher content))
reading_of_kind set input.Plain name word rest = read name word (values_file set) (λ listed. rest (bound_values listed))

-- the file of a binding is read, which is a word of this number
abbrev pub reading_of_binding : Script → ℕ → List ℕ → (Operand → Reading) → Reading
reading_of_binding script word binding rest =
    reading_of_kind script.set (kind_at script (input_named script (binding_name binding))) (binding_file binding) word rest

-- the files of bindings are read in order, the first of which is the word of this number
abbrev pub reading_of_bindings : Script → ℕ → List (List ℕ) → (List Operand → Reading) → Reading
reading_of_bindings script word [] rest = rest []
reading_of_bindings script word (binding ∷ bindings) rest =
    reading_of_binding script word binding (λ operand. reading_of_bindings script (word + 1) bindings (λ operands. rest (operand ∷ operands)))

-- what is demanded of a cipher that is bound; values meet every demand
abbrev pub of_cipher : (ℕ → FileContent → Option Status) → ℕ → Operand → Option Status
of_cipher demanded word (bound_cipher content) = demanded word content
of_cipher demanded word (bound_values listed) = None

-- the first refusal of operands in word order, the first of which is that of the word of this number
abbrev pub first_refusal : (ℕ → Operand → Option Status) → ℕ → List Operand → Option Status
first_refusal refusal word [] = None
first_refusal refusal word (operand ∷ operands) = option_or (refusal word operand) (first_refusal refusal (word + 1) operands)

-- what doesn't match among the operands of a script's bindings: the sets come first, and then the parts and the key ids
abbrev pub mismatch : Script → List Operand → Option Status
mismatch script operands =
    option_or (first_refusal (of_cipher (other_set script.set)) 3 operands)
    (option_or (first_refusal (of_cipher other_parts) 3 operands) (first_refusal (of_cipher (other_key (first_key_id operands))) 3 operands))

-- the bounds on the noise that contents state
abbrev pub stated_bounds : List FileContent → List ℕ
stated_bounds contents = map (λ content. bound_value content.mantissa content.exponent) contents

-- the run of a script on the operands of bindings of these names, where its output has this bound
abbrev pub run_of : Script → List (List ℕ) → List Operand → Bound → Run
run_of script names operands bound = record {
  script = script;
  ciphers = ciphers_of script names operands;
  plains = plains_of script names operands;
  key_id = first_key_id operands;
  bound = bound;
}

-- a script is run on operands that match, if it is accepted with the bounds that they state
abbrev pub run_on : Script → List (List ℕ) → List Operand → Reading
run_on script names operands =
    unless (mismatch script operands)
    (judged script (verdict_of script (stated_bounds (ciphers_of script names operands))) (λ bound. running (run_of script names operands bound)))

-- `run SCRIPT OUT BINDING..`
abbrev pub reading_of_run : List (List ℕ) → Reading
reading_of_run words =
    read_word words 1 script_file (λ script. unless (needing_key script) (unless (badly_bound script words)
    (reading_of_bindings script 3 (bindings_of words) (run_on script (bound_names words)))))

-- ---- all of them

-- `batch FILE`, before the first of its commands
abbrev pub reading_of_batch : List (List ℕ) → Reading
reading_of_batch words = read_word words 1 batch_file (λ listed. done (commands listed))

abbrev pub reading_of_form : Option Form → List (List ℕ) → Reading
reading_of_form None words = refused Usage
reading_of_form (Some form.Secret) words = reading_of_secret words
reading_of_form (Some form.Public) words = reading_of_public words
reading_of_form (Some form.Relin) words = reading_of_relin words
reading_of_form (Some form.Turn) words = reading_of_turn words
reading_of_form (Some form.Encrypt) words = reading_of_encrypt words
reading_of_form (Some form.Run) words = reading_of_run words
reading_of_form (Some form.Decrypt) words = reading_of_decrypt words
reading_of_form (Some form.Check) words = reading_of_check words
reading_of_form (Some form.Report) words = reading_of_report words
reading_of_form (Some form.Batch) words = reading_of_batch words

-- what the words of a command make it read
abbrev pub reading : List (List ℕ) → Reading
reading words = reading_of_form (form_of words) words

-- what the words and the files lead to. An `Err` is the refusal: the first test that fails, in the order of reading.
abbrev pub plan : List (List ℕ) → Files → Result Output Status
plan words files = outcome files (reading words)

-- ---- the file OUT

-- the bytes are the printed text of n values below t
pub record IsValuesText (set : SetName) (bytes : List ℕ) : Type 0 where
  pub values : List ℕ
  pub count : length values ≡ degree_of set
  pub below : All (λ value. value < plain_of set) values
  pub text : bytes ≡ printed_values values

-- the bytes are the file of the cipher of these values that is drawn under a public key, from the stream of a seed. It
-- states the bound on the noise of a fresh cipher.
pub record IsFreshCipher (public : FileContent) (listed seed bytes : List ℕ) : Type 0 where
  pub plaintext : ℕ → ℕ
  pub below : (k : ℕ) → k < degree_of public.set → plaintext k < plain_of public.set
  pub slots : slots_of public.set (natural_polynomial plaintext) ≡ listed
  pub mantissa : ℕ
  pub exponent : ℕ
  pub bound : IsUp (fresh_bound (degree_of public.set) (plain_of public.set) greatest_error) mantissa exponent
  pub text : bytes ≡ file_text (drawn_cipher_file public plaintext mantissa exponent (seed_word seed))

-- the bytes are the file of a cipher of the script's set and the run's key id, with the parts of the script's output, that states the
-- bound of the output
pub record IsRunFile (run : Run) (bytes : List ℕ) : Type 0 where
  pub content : FileContent
  pub is_file : IsFile bytes content
  pub states : content ≡ record {
    kind = kind.Cipher;
    set = run.script.set;
    parts = (shape_at (shapes_of run.script.inputs run.script.steps) run.script.output).parts;
    element = 0;
    key_id = run.key_id;
    mantissa = run.bound.m;
    exponent = run.bound.e;
    words = content.words;
  }

-- what is determined of the bytes that a command gives
abbrev pub IsWritten : Output → List ℕ → Type 0
IsWritten (file_with content) bytes = bytes ≡ file_text content
IsWritten (sealing public listed seed) bytes = IsFreshCipher public listed seed bytes
IsWritten (running run) bytes = IsRunFile run bytes
IsWritten (values secret cipher) bytes = IsValuesText cipher.set bytes
IsWritten (accepted bound) bytes = bytes ≡ accepted_text bound
IsWritten (reporting script bounds) bytes = bytes ≡ report_text script bounds
IsWritten (commands listed) bytes = ⊥

-- the name of the file OUT, where the form has one
abbrev pub out_name : Option Form → List (List ℕ) → Option (List ℕ)
out_name None words = None
out_name (Some form) words = option_map (λ word. word_at words word) (out_word form)
