-- The way of a command that makes a switching key.
use Rattle.std.proofs.Common.{◌≡◌, ℕ, ◌/◌, List, length, refl, sym, ◌∙◌, ap, subst}
use Rattle.std.specs.Prelude.{Bool, true, false, nat_lt, if◌then◌else◌, is_none, Some, None, IsSome, Ok}
use Rattle.std.specs.Option.{ForSome}
use Rattle.outer_io.specs.Store.{StoreState, OnlyReads, file}
use Rattle.set_table.specs.declared.SetName.{SetName}
use Rattle.set_table.specs.declared.KeyKind.{KeyKind}
use Rattle.set_table.specs.Sets.{degree_of, special_of}
use Rattle.file_model.specs.FileText.{FileContent, IsFile}
use Rattle.file_model.specs.DrawnFiles.{drawn_switch_file}
use Rattle.file_model.specs.Heads.{IsHeadOf}
use Rattle.file_model.specs.declared.head.Head.{Head}
use Rattle.file_model.specs.declared.head.Wanted.TheVariants as wanted
use Rattle.command_words.specs.Form.{form_of, IsOperand}
use Rattle.command_words.specs.Line.{word_at}
use Rattle.command_words.specs.declared.form.Form.{Form}
use Rattle.command_words.specs.declared.step.Step.{Step}
use Rattle.command_words.specs.declared.step.Step.TheVariants.{Left, Swap}
use Rattle.command_words.specs.declared.status.Status.{Status}
use Rattle.command_model.specs.Reading.{own_file, taken, Reading, read_word, file_with}
use Rattle.command_model.specs.Plan.{seed_word, too_far, without_special}
use Rattle.command_model.specs.Plain.{Item, State, item_made, switched}
use Rattle.command_stages.specs.Causes.{OwesNothing}
use Rattle.command_stages.specs.Operands.{HasContent}
use Rattle.command_stages.specs.Stages.{MayReread, Took, Way}
use Rattle.command_stages.proofs.Ways.{MadeFor, taken_on, says_taken, has_content, operand_named, reread}
use Rattle.key_commands.proofs.SwitchItems.{item_switched}

-- ---- refusals
by_test : {refusal status : Status} (test : Bool) → OwesNothing refusal → (if test then Some refusal else None) ≡ Some status → OwesNothing status
by_test {refusal} {status} true owes is = let same : refusal ≡ status = cc in subst OwesNothing same owes
by_test {refusal} {status} false owes is = absurd (cc)

by_other_test : {refusal status : Status} (test : Bool) → OwesNothing refusal → (if test then None else Some refusal) ≡ Some status → OwesNothing status
by_other_test {refusal} {status} true owes is = absurd (cc)
by_other_test {refusal} {status} false owes is = let same : refusal ≡ status = cc in subst OwesNothing same owes

-- a set without a special modulus is refused by its name alone
pub special_owes : (set : SetName) (status : Status) → without_special set ≡ Some status → OwesNothing status
special_owes set status is = by_test (is_none (special_of set)) (record { none = tt; nameless = refl }) is

-- a step that goes too far is refused by its number alone
pub step_owes : (step : Step) (n : ℕ) (status : Status) → too_far step n ≡ Some status → OwesNothing status
step_owes (Left places) n status is = by_other_test (nat_lt places (n / 2)) (record { none = tt; nameless = refl }) is
step_owes Swap n status is = absurd (cc)

-- ---- the secret
-- the secret was scanned, the first file that is read
pub record Scanned (words : List (List ℕ)) (next : FileContent → Reading) (old now : StoreState) (head : Head) : Type 0 where
  pub secret : FileContent
  pub set : secret.set ≡ head.set
  pub keeps : OnlyReads old now
  pub way : Way words (next secret) old now
  pub taken : ForSome old.files (λ files. taken (own_file wanted.Secret) 1 (file files (word_at words 1)) ≡ Ok secret)
  pub same : ForSome now.files (λ files. HasContent words files 1 head secret)
  pub again : (word : ℕ) → word ≡ 1 → MayReread words old word

pub scanned : {words : List (List ℕ)} {next : FileContent → Reading} {old now : StoreState} {head : Head} (form : Form) → form_of words ≡ Some form → IsOperand form (length words) 1
    → Way words (read_word words 1 (own_file wanted.Secret) next) old old → Took (word_at words 1) 1 (own_file wanted.Secret) (λ content head. IsHeadOf head content) old now (Ok head)
    → Scanned words next old now head
scanned {words} {next} {old} {now} {head} form formed operand begun took =
    let (secret, (states, held)) = took.ok in
    record {
      secret = secret;
      set = ap (λ (content : FileContent). content.set) states.states;
      keeps = took.keeps;
      way = taken_on secret begun took.keeps held;
      taken = λ files told. says_taken (held.says files told);
      same = λ files told. has_content states (held.says files (sym took.keeps.files ∙ told));
      again = λ word is. subst (MayReread words old) (sym is) (reread begun (operand_named form words 1 formed operand));
    }

-- ---- the key
-- what is written is the file that the reading comes to, and stands for what the plain machine makes
pub key_made : (form : Form) (words : List (List ℕ)) (old : StoreState) (kind : KeyKind) (element : ℕ → ℕ) (secret : FileContent) (seed bytes : List ℕ)
    → ForSome old.files (λ files. taken (own_file wanted.Secret) 1 (file files (word_at words 1)) ≡ Ok secret) → IsSome (special_of secret.set)
    → ((state : State) (item : Item) → item_made form words state ≡ Some item → switched kind element (state (word_at words 1)) ≡ Some item)
    → IsFile bytes (drawn_switch_file kind (element (degree_of secret.set)) secret (seed_word seed))
    → MadeFor form words (file_with (drawn_switch_file kind (element (degree_of secret.set)) secret (seed_word seed))) old bytes
key_made form words old kind element secret seed bytes secret_is some makes made = record {
  written = made.text;
  stands = λ files told state stands item is. item_switched words files state kind element secret seed bytes item stands (secret_is files told) some made (makes state item is);
}
