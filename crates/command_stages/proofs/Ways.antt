-- The way of a command through what it reads.
use Rattle.std.proofs.Common.{◌≡◌, ◌⊎◌, inl, inr, ⊎_elim, ℕ, ◌≤◌, List, length, refl, sym, ◌∙◌, ap, subst, le_trans, le_refl}
use Rattle.std.specs.Prelude.{Option, Some, None, IsSome, Result, Ok, Err, IsOk}
use Rattle.std.specs.Option.{ForSome}
use Rattle.std.specs.FinMap as map
use Rattle.outer_io.specs.Store.{Files, StoreState, OnlyReads, file}
use Rattle.outer_io.specs.declared.faults.Damage.TheVariants.{Changed}
use Rattle.file_model.specs.declared.faults.FileFault.TheVariants as faults
use Rattle.file_model.specs.declared.head.Wanted.{Wanted}
use Rattle.file_model.specs.FileText.{FileContent}
use Rattle.file_model.specs.Heads.{IsHeadOf}
use Rattle.file_model.specs.declared.head.Head.{Head}
use Rattle.bound_num.specs.declared.Bound.{Bound}
use Rattle.command_words.specs.Form.{form_of, IsOperand}
use Rattle.command_words.specs.Status.{parts_of}
use Rattle.command_words.specs.declared.form.Form.{Form}
use Rattle.command_words.specs.declared.status.Status.{Status}
use Rattle.command_words.specs.declared.status.Status.TheVariants.{Memory, WriteFault, MissingFile, Damaged}
use Rattle.command_words.specs.Line.{accepted_text}
use Rattle.command_model.specs.Reading.{Sort, own_file, Said, taken, Reading, read, refused, done, unless, Output, accepted, and_then, so_if_ok, outcome, IsReached, MayRefuse}
use Rattle.command_model.specs.Plan.{reading_of_form, for_named, out_name, IsWritten}
use Rattle.command_model.specs.Answers.{IsOperandOf, AreLeft}
use Rattle.command_model.specs.Plain.{Item, State, Stands, IsItem, item_made, step, step_of_form, with_item_at}
use Rattle.command_model.specs.Batches.{NoCountFell}
use Rattle.command_model.specs.Commanded.{Caused, Finished, Stopped, Commanded, IsLeftToPut}
use Rattle.command_model.proofs.Standing.{stands_with}
use Rattle.command_stages.specs.Operands.{HasContentAt}
use Rattle.command_stages.specs.Stages.{Says, Taken, Untaken, Way, MayReread, Unmade, Made, Wrote}
use Rattle.command_stages.specs.Causes.{OwesNoCall, OwesNothing}
use Rattle.command_stages.proofs.Causes.{caused_by_nothing, caused_as, caused_behind, memory_caused, reads_nothing}

-- reading and then reading is reading
pub reads_then : {old mid new : StoreState} → OnlyReads old mid → OnlyReads mid new → OnlyReads old new
reads_then {old} {mid} {new} first second = record {
  files = second.files ∙ first.files;
  pending = second.pending ∙ first.pending;
  written = second.written ∙ first.written;
  write_faults = second.write_faults ∙ first.write_faults;
  faults = le_trans first.faults second.faults;
  misses = le_trans first.misses second.misses;
}

-- no count falls where files are only read
pub counts_of_reads : {old new : StoreState} → OnlyReads old new → NoCountFell old new
counts_of_reads {old} {new} keeps = record { reading = keeps.faults; writing = subst (λ (n : ℕ). old.write_faults ≤ n) (sym keeps.write_faults) (le_refl old.write_faults); missing = keeps.misses }

-- a file that says something is taken
pub says_taken : {files : Files} {name : List ℕ} {word : ℕ} {sort : Sort} {said : Said sort} → Says files name word sort said → taken sort word (file files name) ≡ Ok said
says_taken {files} {name} {word} {sort} {said} says = ap (taken sort word) says.there ∙ says.is

-- ---- from step to step
-- nothing was read yet
pub start : (form : Form) (words : List (List ℕ)) (state : StoreState) → form_of words ≡ Some form → Way words (reading_of_form (Some form) words) state state
start form words state is = record {
  keeps = reads_nothing state;
  outcome_is = λ files told. ap (λ (f : Option Form). outcome files (reading_of_form f words)) is;
  reached = λ files told word. subst (λ (f : Option Form). IsReached files (reading_of_form f words) word) (sym is);
  may = λ status. subst (λ (f : Option Form). MayRefuse (reading_of_form f words) status) (sym is);
}

-- the next file was read
pub taken_on : {words : List (List ℕ)} {name : List ℕ} {word : ℕ} {sort : Sort} {next : Said sort → Reading} {old mid new : StoreState} (said : Said sort)
    → Way words (read name word sort next) old mid → OnlyReads mid new → Taken mid.files name word sort said → Way words (next said) old new
taken_on {words} {name} {word} {sort} {next} {old} {mid} {new} said way keeps held = record {
  keeps = reads_then way.keeps keeps;
  outcome_is = λ files told. way.outcome_is files told ∙ ap (λ (r : Result (Said sort) Status). and_then r (λ said. outcome files (next said))) (says files told);
  reached = λ files told other is. way.reached files told other
      (inr (subst (λ (r : Result (Said sort) Status). so_if_ok r (λ said. IsReached files (next said) other)) (sym (says files told)) is));
  may = λ status refuses. way.may status (inr (said, (held.may, refuses)));
}
  where
    says : (files : Files) → old.files ≡ Some files → taken sort word (file files name) ≡ Ok said
    says files told = says_taken (held.says files (way.keeps.files ∙ told))

-- nothing is refused before the rest
pub not_refused : {words : List (List ℕ)} {refusal : Option Status} {rest : Reading} {old now : StoreState} → refusal ≡ None
    → Way words (unless refusal rest) old now → Way words rest old now
not_refused {words} {refusal} {rest} {old} {now} none = subst (λ (r : Option Status). Way words (unless r rest) old now → Way words rest old now) (sym none) (λ way. way)

-- something is refused before the rest
pub refused_by : {words : List (List ℕ)} {refusal : Option Status} (rest : Reading) {old now : StoreState} {status : Status} → refusal ≡ Some status
    → Way words (unless refusal rest) old now → Way words (refused status) old now
refused_by {words} {refusal} rest {old} {now} {status} some =
    subst (λ (r : Option Status). Way words (unless r rest) old now → Way words (refused status) old now) (sym some) (λ way. way)

-- a word names what the reading wants
pub with_named : {A : Type 0} {words : List (List ℕ)} {named : Option A} (rest : A → Reading) {old now : StoreState} {value : A} → named ≡ Some value
    → Way words (for_named named rest) old now → Way words (rest value) old now
with_named {A} {words} {named} rest {old} {now} {value} some =
    subst (λ (n : Option A). Way words (for_named n rest) old now → Way words (rest value) old now) (sym some) (λ way. way)

-- a word that names a file operand of a form does so of words of this form
pub operand_named : (form : Form) (words : List (List ℕ)) (word : ℕ) → form_of words ≡ Some form → IsOperand form (length words) word → IsOperandOf (form_of words) (length words) word
operand_named form words word is = subst (λ (f : Option Form). IsOperandOf f (length words) word) (sym is)

-- the file of a name that says something of the scheme has this content
pub has_content : {files : Files} {name : List ℕ} {word : ℕ} {wanted : Wanted} {head : Head} {content : FileContent} → IsHeadOf head content
    → Says files name word (own_file wanted) content → HasContentAt files name head content
has_content {files} {name} {word} {wanted} {head} {content} states says = record { there = says.there; is_file = says.held; head_is = states }

-- ---- commands that stop
-- at a file of which nothing was taken
pub stopped_at : {words : List (List ℕ)} {name : List ℕ} {word : ℕ} {sort : Sort} {next : Said sort → Reading} {old mid new : StoreState} {status : Status}
    → Way words (read name word sort next) old mid → OnlyReads mid new → Untaken name word sort mid new status → IsOperandOf (form_of words) (length words) word
    → Stopped words old new status
stopped_at {words} {name} {word} {sort} {next} {old} {mid} {new} {status} way keeps un named = record {
  files = keeps.files ∙ way.keeps.files;
  told = λ files told. ⊎_elim inl (λ (is : taken sort word (file files name) ≡ Err status). inr (way.outcome_is files told
      ∙ ap (λ (r : Result (Said sort) Status). and_then r (λ said. outcome files (next said))) is)) (un.told files (way.keeps.files ∙ told));
  may = ⊎_elim inl (λ refuses. inr (way.may status (inl refuses))) un.may;
  read_fault = λ other is files told. way.reached files told other (inl (un.caused.word other (ap (λ (s : Status). (parts_of s).word) is)));
  write_fault = λ is. absurd (un.reads is);
  caused = caused_behind way.keeps (caused_as (λ other is. subst (λ (w : ℕ). IsOperandOf (form_of words) (length words) w) (sym is) named) un.caused);
}

-- at a refusal that no call of the store brings about
pub stopped_by : {words : List (List ℕ)} {old now : StoreState} (status : Status) → Way words (refused status) old now → OwesNoCall status
    → Caused (IsOperandOf (form_of words) (length words)) now now status → Stopped words old now status
stopped_by {words} {old} {now} status way none caused = record {
  files = way.keeps.files;
  told = λ files told. inr (way.outcome_is files told);
  may = inr (way.may status refl);
  read_fault = λ word is. absurd (subst OwesNoCall is none);
  write_fault = λ is. absurd (subst OwesNoCall is none);
  caused = caused_behind way.keeps caused;
}

-- where memory was wanting
pub stopped_for_memory : {words : List (List ℕ)} {rest : Reading} {old now : StoreState} → Way words rest old now → Stopped words old now Memory
stopped_for_memory {words} {rest} {old} {now} way = record {
  files = way.keeps.files;
  told = λ files told. inl tt;
  may = inl tt;
  read_fault = λ word is. absurd (cc);
  write_fault = λ is. absurd (cc);
  caused = memory_caused (IsOperandOf (form_of words) (length words)) old now;
}

-- ---- behind the last refusal
-- a file of the scheme that was read on the way may be read again
pub reread : {words : List (List ℕ)} {name : List ℕ} {word : ℕ} {wanted : Wanted} {next : Said (own_file wanted) → Reading} {old mid : StoreState}
    → Way words (read name word (own_file wanted) next) old mid → IsOperandOf (form_of words) (length words) word → MayReread words old word
reread {words} {name} {word} {wanted} {next} {old} {mid} way named = record {
  reached = λ files told. way.reached files told word (inl refl);
  may = λ status. ⊎_elim (λ (is : status ≡ MissingFile word). way.may status (inl (faults.Missing, (inl tt, is))))
      (λ (is : status ≡ Damaged word Changed). way.may status (inl (faults.Damaged Changed, (inr refl, is))));
  named = named;
}

-- a command stops that reads files again
stopped_again : {words : List (List ℕ)} {output : Output} {IsAgain : ℕ → Type 0} {AreSame : Files → Type 0} {old mid new : StoreState} {status : Status}
    → Way words (done output) old mid → new.files ≡ mid.files → Unmade IsAgain AreSame mid new status → ForSome mid.files AreSame
    → ((word : ℕ) → IsAgain word → MayReread words old word) → (status ≡ WriteFault → IsSome (out_name (form_of words) words)) → Stopped words old new status
stopped_again {words} {output} {IsAgain} {AreSame} {old} {mid} {new} {status} way kept un same again writes = record {
  files = kept ∙ way.keeps.files;
  told = λ files told. inl (un.told files (way.keeps.files ∙ told) (same files (way.keeps.files ∙ told)));
  may = ⊎_elim inl (λ (word, (is_again, is)). inr ((again word is_again).may status is)) un.may;
  read_fault = λ word is. (again word (un.caused.word word (ap (λ (s : Status). (parts_of s).word) is))).reached;
  write_fault = λ is. (writes is, λ files told. subst IsOk (sym (way.outcome_is files told)) refl);
  caused = caused_behind way.keeps (caused_as (λ word is_again. (again word is_again).named) un.caused);
}

-- before it writes
pub stopped_making : {B : Type 0} {words : List (List ℕ)} {output : Output} {IsAgain : ℕ → Type 0} {AreSame : Files → Type 0} {Is : B → Type 0} {old mid new : StoreState} (status : Status)
    → Way words (done output) old mid → Made IsAgain AreSame Is mid new (Err status) → ForSome mid.files AreSame
    → ((word : ℕ) → IsAgain word → MayReread words old word) → Stopped words old new status
stopped_making {B} {words} {output} {IsAgain} {AreSame} {Is} {old} {mid} {new} status way made same again =
    stopped_again way made.keeps.files made.err same again (λ is. absurd (made.reads is))

-- the bytes are those of an output, and stand for what the plain machine makes
pub record MadeFor (form : Form) (words : List (List ℕ)) (output : Output) (old : StoreState) (bytes : List ℕ) : Type 0 where
  pub written : IsWritten output bytes
  pub stands : ForSome old.files (λ files. (state : State) → Stands files state → (item : Item) → item_made form words state ≡ Some item → IsItem item bytes)

-- where there is a file OUT, nothing is left to be put
nothing_left : (words : List (List ℕ)) (name : Option (List ℕ)) (told : Option Files) → IsSome name → IsLeftToPut name words told None
nothing_left words (Some name) told some = refl
nothing_left words None told some = absurd (cc)

-- a command wrote the file OUT, or stopped
pub commanded : {B : Type 0} {words : List (List ℕ)} {output : Output} {IsAgain : ℕ → Type 0} {AreSame : Files → Type 0} {Is : List ℕ → Type 0} {old mid new : StoreState}
    (form : Form) (name : List ℕ) (result : Result B Status)
    → form_of words ≡ Some form → out_name (Some form) words ≡ Some name → Way words (done output) old mid → Wrote name IsAgain AreSame Is mid new result → ForSome mid.files AreSame
    → ((word : ℕ) → IsAgain word → MayReread words old word) → ((bytes : List ℕ) → Is bytes → MadeFor form words output old bytes)
    → Commanded words (λ _. None) old new result
commanded {B} {words} {output} {IsAgain} {AreSame} {Is} {old} {mid} {new} form name result formed named way wrote same again made = by result wrote
  where
    name_is : out_name (form_of words) words ≡ Some name
    name_is = ap (λ (f : Option Form). out_name f words) formed ∙ named

    some : IsSome (out_name (form_of words) words)
    some = subst IsSome (sym name_is) refl

    idle : OnlyReads old mid → (mid.pending ≡ None → new.pending ≡ None) → old.pending ≡ None → new.pending ≡ None
    idle keeps then none = then (keeps.pending ∙ none)

    counts : NoCountFell mid new → NoCountFell old new
    counts later = record {
      reading = le_trans way.keeps.faults later.reading;
      writing = subst (λ (n : ℕ). n ≤ new.write_faults) way.keeps.write_faults later.writing;
      missing = le_trans way.keeps.misses later.missing;
    }

    left : (output : Output) (before : Files) (after : Option Files) (bytes : List ℕ) → IsWritten output bytes → after ≡ Some (map.insert before name bytes)
        → AreLeft output (out_name (form_of words) words) before after
    left output before after bytes written is = subst (λ (n : Option (List ℕ)). AreLeft output n before after) (sym name_is) (bytes, (written, is))

    stands_after : (before after : Files) (bytes : List ℕ) (state : State) → Stands before state → after ≡ map.insert before name bytes
        → ((item : Item) → item_made form words state ≡ Some item → IsItem item bytes) → Stands after (step words state)
    stands_after before after bytes state stands written is =
        subst (λ (f : Option Form). Stands after (step_of_form f words state)) (sym formed)
        (subst (λ (n : Option (List ℕ)). Stands after (with_item_at state n (item_made form words state))) (sym named)
        (subst (λ (files : Files). Stands files (with_item_at state (Some name) (item_made form words state))) (sym written)
        (stands_with before state name bytes (item_made form words state) stands is)))

    finished : ForSome mid.files (λ files. AreSame files → (bytes : List ℕ) × (Is bytes × (new.files ≡ Some (map.insert files name bytes)))) → Finished words None old new
    finished ok = record {
      done = λ files told.
          let there = way.keeps.files ∙ told in
          let put = ok files there (same files there) in
          record { output = output; planned = way.outcome_is files told; files = left output files new.files put.0 (made put.0 put.1.0).written put.1.1 };
      stands = λ before told after now state stands.
          let there = way.keeps.files ∙ told in
          let put = ok before there (same before there) in
          let written : after ≡ map.insert before name put.0 = let both : Some after ≡ Some (map.insert before name put.0) = sym now ∙ put.1.1 in cc in
          stands_after before after put.0 state stands written ((made put.0 put.1.0).stands before told state stands);
      line = nothing_left words (out_name (form_of words) words) old.files some;
    }

    by : (result : Result B Status) → Wrote name IsAgain AreSame Is mid new result → Commanded words (λ _. None) old new result
    by (Ok value) wrote = record { idle = idle way.keeps wrote.idle; counts = counts wrote.counts; ok = finished wrote.ok; err = tt }
    by (Err status) wrote = record {
      idle = idle way.keeps wrote.idle;
      counts = counts wrote.counts;
      ok = tt;
      err = stopped_again way wrote.unchanged wrote.err same again (λ _. some);
    }

-- a command that stops before it writes keeps all
pub commanded_stop : {B : Type 0} {words : List (List ℕ)} {left : B → Option (List ℕ)} {old new : StoreState} (status : Status) → OnlyReads old new → Stopped words old new status
    → Commanded words left old new (Err status)
commanded_stop {B} {words} {left} {old} {new} status keeps stopped =
    record { idle = λ none. keeps.pending ∙ none; counts = counts_of_reads keeps; ok = tt; err = stopped }

-- ---- commands without a file OUT
-- a command puts the line of what an accepted script puts out
pub commanded_line : {B : Type 0} {words : List (List ℕ)} {bound : Bound} {old now : StoreState} (form : Form) (left : B → Option (List ℕ)) (value : B) (text : List ℕ) → form_of words ≡ Some form
    → out_name (Some form) words ≡ None → Way words (done (accepted bound)) old now → left value ≡ Some text → text ≡ accepted_text bound → Commanded words left old now (Ok value)
commanded_line {B} {words} {bound} {old} {now} form left value text formed no_file way left_is text_is = record {
  idle = λ none. way.keeps.pending ∙ none;
  counts = counts_of_reads way.keeps;
  ok = record {
    done = λ files told. record {
      output = accepted bound;
      planned = way.outcome_is files told;
      files = subst (λ (n : Option (List ℕ)). AreLeft (accepted bound) n files now.files) (sym none) (way.keeps.files ∙ told);
    };
    stands = λ before told after later state stands.
        subst (λ (f : Option Form). Stands after (step_of_form f words state)) (sym formed)
        (subst (λ (n : Option (List ℕ)). Stands after (with_item_at state n (item_made form words state))) (sym no_file)
        (subst (λ (files : Files). Stands files state) (same before after told later) stands));
    line = subst (λ (n : Option (List ℕ)). IsLeftToPut n words old.files (left value)) (sym none)
        (text, (left_is, record { no_file = none; bound = bound; planned = λ files told. way.outcome_is files told; is = text_is }));
  };
  err = tt;
}
  where
    none : out_name (form_of words) words ≡ None
    none = ap (λ (f : Option Form). out_name f words) formed ∙ no_file

    same : (before after : Files) → old.files ≡ Some before → now.files ≡ Some after → before ≡ after
    same before after told later = let both : Some before ≡ Some after = sym told ∙ sym way.keeps.files ∙ later in cc

-- what was computed was refused, or memory was wanting
pub stopped_coming : {words : List (List ℕ)} {rest : Reading} {old now : StoreState} {status : Status} → Way words rest old now → (status ≡ Memory) ⊎ (rest ≡ refused status)
    → (rest ≡ refused status → OwesNothing status) → Stopped words old now status
stopped_coming {words} {rest} {old} {now} {status} way (inl memory) owes = subst (Stopped words old now) (sym memory) (stopped_for_memory way)
stopped_coming {words} {rest} {old} {now} {status} way (inr is) owes =
    stopped_by status (subst (λ (r : Reading). Way words r old now) is way) (owes is).none (caused_by_nothing (IsOperandOf (form_of words) (length words)) now now status (owes is))
