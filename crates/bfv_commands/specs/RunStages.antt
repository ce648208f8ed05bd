-- What the stages of `run` say of their results.
use Rattle.std.specs.Prelude.{◌≡◌, ℕ, ◌+◌, ◌*◌, ◌<◌, ◌≤◌, List, [], length, map, slice_get, slice_index, slice_index_or, Some, None, IsTrue, Result, IfOk, IfErr}
use Rattle.std.specs.Option.{ForSome}
use Rattle.outer_io.specs.Store.{StoreState}
use Rattle.set_table.specs.Sets.{degree_of, data_of}
use Rattle.bound_num.specs.declared.Bound.{Bound}
use Rattle.bound_num.specs.Bound.{bound_value}
use Rattle.file_model.specs.declared.file_kind.FileKind.TheVariants as kind
use Rattle.file_model.specs.FileText.{FileContent, bound_fits}
use Rattle.file_model.specs.declared.head.Head.{Head}
use Rattle.script_text.specs.Scripts.{Script, IsSound, cipher_inputs, plain_inputs, is_cipher, is_plain, shape_at, shapes_of}
use Rattle.script_text.specs.Value.{value_of, lists_of}
use Rattle.noise_check.specs.ExactBounds.{exact_bounds}
use Rattle.noise_check.specs.Verdicts.{verdict_of}
use Rattle.script_run.specs.Premises.{IsQuiet}
use Rattle.script_run.specs.Workspaces.{whole_context}
use Rattle.command_words.specs.Line.{word_at}
use Rattle.command_words.specs.declared.status.Status.{Status}
use Rattle.command_model.specs.Bindings as bindings
use Rattle.command_model.specs.Bindings.{Run, no_content, bound_values, bindings_of, bound_names, ciphers_of}
use Rattle.command_model.specs.Reading.{script_file, running}
use Rattle.command_model.specs.Plan.{IsRunFile, reading_of_bindings, run_on, run_of, mismatch, judged, stated_bounds}
use Rattle.command_model.specs.Plain.{Owner, IsSealed}
use Rattle.command_model.specs.Commanded.{Stopped}
use Rattle.command_stages.specs.Stages.{Says, Way}
use Rattle.run_operands.specs.BoundFiles.{AreSeen, AreBound}
use Rattle.run_operands.specs.BoundReads.{MayBeReread}
use Rattle.run_operands.specs.declared.bound_files.BoundCipher.{BoundCipher}
use Rattle.run_operands.specs.declared.bound_files.Operand.{Operand}

-- The inputs of a script, of which each has a list in order of declaration: the contents of the cipher inputs seal theirs for this owner,
-- and the values of the plain inputs are theirs.
pub record AreSealed (owner : Owner) (script : Script) (contents : List FileContent) (plains lists : List (List ℕ)) : Type 0 where
  pub listed : length lists ≡ length script.inputs
  pub ciphers : (r : ℕ) → r < length (cipher_inputs script.inputs)
      → IsSealed owner (slice_index_or (lists_of is_cipher script.inputs lists) r []) (slice_index_or contents r no_content)
  pub values : (p : ℕ) → p < length (plain_inputs script.inputs)
      → slice_index_or plains p [] ≡ slice_index_or (lists_of is_plain script.inputs lists) p []

-- the bytes are the file of the cipher that a run gives: as determined, and where the inputs seal values for an owner, a cipher that
-- seals the script's value on these for the owner
pub record IsRunOf (run : Run) (bytes : List ℕ) : Type 0 where
  pub is : IsRunFile run bytes
  pub sound : IsSound run.script
  pub right : (owner : Owner) (lists : List (List ℕ)) → AreSealed owner run.script run.ciphers run.plains lists → IsSealed owner (value_of run.script lists) is.content

-- a script was read that is linear and whose inputs are each bound once, on the way to the files of its bindings
pub record ScriptCame (words : List (List ℕ)) (old new : StoreState) (result : Result Script Status) : Type 0 where
  pub ok : IfOk result (λ script. ForSome old.files (λ files. Says files (word_at words 1) 1 script_file script)
      × Way words (reading_of_bindings script 3 (bindings_of words) (run_on script (bound_names words))) old new)
  pub err : IfErr result (Stopped words old new)

-- the operands of a script's bindings were read, and match, on the way to the verdict on the bounds that they state
pub record AreMatched (script : Script) (words : List (List ℕ)) (begun now : StoreState) (operands : List Operand) : Type 0 where
  pub planned : List bindings.Operand
  pub seen : AreSeen operands planned
  pub bound : ForSome begun.files (λ files. AreBound script words files planned)
  pub again : (p : ℕ) → p < length planned → MayBeReread words begun (3 + p) (slice_index_or planned p (bound_values []))
  pub matched : mismatch script planned ≡ None
  pub way : Way words (judged script (verdict_of script (stated_bounds (ciphers_of script (bound_names words) planned)))
      (λ bound. running (run_of script (bound_names words) planned bound))) begun now

-- the word of a binding is that of one of these ciphers
pub record IsWordOf (ciphers : List BoundCipher) (word : ℕ) : Type 0 where
  pub place : ℕ
  pub cipher : BoundCipher
  pub there : slice_get ciphers place ≡ Some cipher
  pub is : cipher.word ≡ word

-- the bounds that ciphers state
abbrev pub bounds_of : List BoundCipher → List Bound
bounds_of ciphers = map (λ cipher. cipher.head.bound) ciphers

-- A bound may be stated of a script's output: it fits into a head, it is at least the exact one, and no exact bound is above q/4.
pub record LeavesRoom (script : Script) (inputs : List ℕ) (bound : Bound) : Type 0 where
  pub fits : IsTrue (bound_fits kind.Cipher script.set bound.m bound.e)
  pub above : slice_index (exact_bounds script inputs) script.output ≤ bound_value bound.m bound.e
  pub quiet : IsQuiet (whole_context script.set) script inputs

-- the head of the cipher that a script gives
abbrev pub run_head : Script → List ℕ → Bound → Head
run_head script id bound = record {
  kind = kind.Cipher;
  set = script.set;
  parts = (shape_at (shapes_of script.inputs script.steps) script.output).parts;
  element = 0;
  id = id;
  bound = bound;
  words = (shape_at (shapes_of script.inputs script.steps) script.output).parts * length (data_of script.set) * degree_of script.set;
}

-- the run of a script on these contents and values, the head of its output being given
abbrev pub run_with : Script → List FileContent → List (List ℕ) → Head → Run
run_with script contents plains head = record { script = script; ciphers = contents; plains = plains; key_id = head.id; bound = head.bound }

-- all contents are of one key id
abbrev pub AreOfKey : List FileContent → List ℕ → Type 0
AreOfKey contents id = (r : ℕ) → r < length contents → (slice_index_or contents r no_content).key_id ≡ id
