-- The words of a batch, and of its commands.
use Rattle.std.proofs.Common.{◌≡◌, ℕ, ◌<◌, true, not, List, [], ◌∷◌, length, take, refl, sym, ◌∙◌, ap}
use Rattle.std.specs.Prelude.{Some, Ok, Err}
use Rattle.std.proofs.lemmas.Bool.{and_parts, lt-ltb}
use Rattle.script_text.specs.declared.faults.ScriptPlace.TheVariants.{TooLong}
use Rattle.batch_text.specs.Commands.{begins_batch, are_plain, commands_of}
use Rattle.batch_text.proofs.Commands.{each_command}
use Rattle.command_words.specs.Form.{form_of}
use Rattle.command_words.specs.declared.form.Form.TheVariants.{Batch}
use Rattle.command_words.proofs.Words.{words_say}
use Rattle.bfv_commands.specs.Batching.{AreSingle}
use Rattle.command_stages.proofs.Fronts.{front_enough}

-- words with the form of a batch begin with `batch`
batch_begins : (words : List (List ℕ)) → form_of words ≡ Some Batch → begins_batch words ≡ true
batch_begins [] is = absurd (cc)
batch_begins (command ∷ words) is = words_say (command ∷ words) Batch is

-- none of the commands of a text is a batch
pub commands_single : (text : List ℕ) (listed : List (List (List ℕ))) → commands_of text ≡ Ok listed → AreSingle listed
commands_single text listed is count words at form =
    let other = (and_parts (are_plain words) (not (begins_batch words)) (each_command text listed is count words at)).1 in
    let never : not true ≡ true = ap not (sym (batch_begins words form)) ∙ other in
    absurd (cc)

too_long : (text : List ℕ) → 1048576 < length text → commands_of text ≡ Err TooLong
too_long text long = rw (lt-ltb 1048576 (length text) long) refl

-- a batch is known by a byte more than it may have
pub commands_of_front : (text : List ℕ) → commands_of (take 1048577 text) ≡ commands_of text
commands_of_front text = front_enough commands_of 1048576 (Err TooLong) too_long text
