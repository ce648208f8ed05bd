-- From what a command keeps to the answer of the top call.
use Rattle.std.proofs.Common.{◌≡◌, ◌≢◌, ◌⊎◌, inl, inr, ⊎_elim, ℕ, ◌≤◌, List, length, take, refl, sym, ◌∙◌, ap, subst, arith, le_refl}
use Rattle.std.specs.Prelude.{Option, Some, None, IsSome, Result, Ok, Err, IsOk}
use Rattle.std.specs.Option.{ForSome}
use Rattle.std.proofs.lemmas.List.{take_all}
use Rattle.outer_io.specs.Store.{Files, StoreState, Rose}
use Rattle.outer_io.specs.Sink.{SinkState, grown}
use Rattle.command_words.specs.Form.{form_of}
use Rattle.command_words.specs.Line.{line}
use Rattle.command_words.specs.declared.form.Form.{Form}
use Rattle.command_words.specs.declared.status.Status.{Status}
use Rattle.command_words.specs.declared.status.Status.TheVariants.{Done, Usage, Memory, ReadFault, WriteFault}
use Rattle.command_model.specs.Reading.{Output, IsReached, MayRefuse, outcome}
use Rattle.command_model.specs.Plan.{reading, reading_of_form, plan, out_name}
use Rattle.command_model.specs.Answers.{AreLeft, Cause, WriteRose, IsOutputLine, IsPrinted, Printed, IsComplete, IsFault, NoFaultRose}
use Rattle.command_model.specs.Batches.{World, NoCountFell, Answered}
use Rattle.command_model.specs.Commanded.{Commanded, Finished, IsLeftToPut, Stopped}
use Rattle.command_stages.specs.Stages.{Announced}
use Rattle.command_stages.proofs.Causes.{reads_nothing}
use Rattle.command_stages.proofs.Ways.{counts_of_reads}

-- the whole line of an answer was put
pub printed_whole : (words : List (List ℕ)) (before : Option Files) (old new : SinkState) (status : Status) → status ≢ Done → new.text ≡ grown old (line words status)
    → Printed words before old new status
printed_whole words before old new status refused is = record {
  done = λ done. absurd (refused done);
  whole = λ _ _. inl is;
  part = λ _. record {
    text = line words status;
    is_line = inl (status, (refused, inl refl, refl));
    count = length (line words status);
    put = is ∙ ap (λ (l : List ℕ). grown old l) (sym (take_all _ _ (omega arith)));
  };
}

memory_apart : Memory ≢ Done
memory_apart is = cc

-- the front of a line was put, and the answer is the status, or Memory
pub printed_part : (words : List (List ℕ)) (before : Option Files) (old new : SinkState) (status answer : Status) → status ≢ Done → (answer ≡ status) ⊎ (answer ≡ Memory)
    → (answer ≢ Memory → Rose old.faults new.faults) → (n : ℕ) × (new.text ≡ grown old (take n (line words status))) → Printed words before old new answer
printed_part words before old new status answer refused same rose front = record {
  done = λ done. absurd (⊎_elim (λ (is : answer ≡ status). refused (sym is ∙ done)) (λ (is : answer ≡ Memory). memory_apart (sym is ∙ done)) same);
  whole = λ _ other. inr (rose other);
  part = λ _. record { text = line words status; is_line = inl (status, (refused, same, refl)); count = front.0; put = front.1 };
}

-- a command that wrote the file OUT put nothing
printed_nothing : (words : List (List ℕ)) (name : List ℕ) (before : Option Files) (old : SinkState) → out_name (form_of words) words ≡ Some name → Printed words before old old Done
printed_nothing words name before old is = record {
  done = λ _. subst (λ (out : Option (List ℕ)). IsPrinted out words before old old) (sym is) refl;
  whole = λ refused. absurd (refused refl);
  part = λ refused. absurd (refused refl);
}

-- the line of an output was put, or part of it
printed_line : (words : List (List ℕ)) (before : Option Files) (old new : SinkState) (text : List ℕ) (answer : Status) → IsOutputLine words before text
    → Announced old new text answer → Printed words before old new answer
printed_line words before old new text answer is put = record {
  done = λ done. subst (λ (out : Option (List ℕ)). IsPrinted out words before old new) (sym is.no_file) (text, (is, put.done done));
  whole = λ other kept. ⊎_elim (λ done. absurd (other done)) (⊎_elim (λ memory. absurd (kept memory)) (λ fault. inr fault.1)) put.why;
  part = λ other. record {
    text = text;
    is_line = inr (is, ⊎_elim (λ done. absurd (other done)) (⊎_elim (λ memory. inr memory) (λ fault. inl fault.0)) put.why);
    count = (put.part other).0;
    put = (put.part other).1;
  };
}

-- where there is a file OUT, a fault of writing is one of the store
rose_of_store : (old new : StoreState) (old_sink new_sink : SinkState) (name : Option (List ℕ)) → IsSome name → Rose old.write_faults new.write_faults → WriteRose name old new old_sink new_sink
rose_of_store old new old_sink new_sink (Some name) some rose = rose
rose_of_store old new old_sink new_sink None some rose = absurd (cc)

-- ---- causes
-- words that have a form aren't without one
formed : (words : List (List ℕ)) (form : Form) → form_of words ≡ Some form → form_of words ≡ None → ⊥
formed words form is none = let never : Some form ≡ None = sym is ∙ none in cc

-- Done owes to nothing
pub cause_of_done : (words : List (List ℕ)) (form : Form) (old new : StoreState) (old_sink new_sink : SinkState) → form_of words ≡ Some form → Cause words old new old_sink new_sink Done
cause_of_done words form old new old_sink new_sink is = record {
  refusal = λ other. absurd (other refl);
  usage = λ usage. absurd (cc);
  no_form = λ none. absurd (formed words form is none);
  read = λ word fault. absurd (cc);
  write = λ fault. absurd (cc);
  missing = λ word fault. absurd (cc);
  word = λ word at. absurd (cc);
  binding = λ word at whole. absurd (cc);
}

-- and neither does Memory
cause_of_memory : (words : List (List ℕ)) (old new : StoreState) (old_sink new_sink : SinkState) → Cause words old new old_sink new_sink Memory
cause_of_memory words old new old_sink new_sink = record {
  refusal = λ _. inl tt;
  usage = λ usage. absurd (cc);
  no_form = λ _. inr refl;
  read = λ word fault. absurd (cc);
  write = λ fault. absurd (cc);
  missing = λ word fault. absurd (cc);
  word = λ word at. absurd (cc);
  binding = λ word at whole. absurd (cc);
}

-- the cause of what a command stops with
cause_of_stop : (words : List (List ℕ)) (form : Form) (old new : StoreState) (old_sink new_sink : SinkState) (status : Status) → form_of words ≡ Some form
    → Stopped words old new status → Cause words old new old_sink new_sink status
cause_of_stop words form old new old_sink new_sink status is stop = record {
  refusal = λ _. stop.may;
  usage = λ usage. absurd (stop.caused.formed usage);
  no_form = λ none. absurd (formed words form is none);
  read = stop.caused.read;
  write = λ fault. rose_of_store old new old_sink new_sink (out_name (form_of words) words) (stop.write_fault fault).0 (stop.caused.write fault);
  missing = stop.caused.missing;
  word = stop.caused.word;
  binding = stop.caused.binding;
}

-- words without a form are refused for that alone
cause_of_usage : (words : List (List ℕ)) (old new : StoreState) (old_sink new_sink : SinkState) → form_of words ≡ None → Cause words old new old_sink new_sink Usage
cause_of_usage words old new old_sink new_sink none = record {
  refusal = λ _. inr (subst (λ (form : Option Form). MayRefuse (reading_of_form form words) Usage) (sym none) refl);
  usage = λ _. none;
  no_form = λ _. inl refl;
  read = λ word fault. absurd (cc);
  write = λ fault. absurd (cc);
  missing = λ word fault. absurd (cc);
  word = λ word at. absurd (cc);
  binding = λ word at whole. absurd (cc);
}

-- a fault of the sink, where there is no file OUT
cause_of_put : (words : List (List ℕ)) (form : Form) (old new : StoreState) (old_sink new_sink : SinkState) → form_of words ≡ Some form → out_name (form_of words) words ≡ None
    → Rose old_sink.faults new_sink.faults → Cause words old new old_sink new_sink WriteFault
cause_of_put words form old new old_sink new_sink is no_file rose = record {
  refusal = λ _. inl tt;
  usage = λ usage. absurd (cc);
  no_form = λ none. absurd (formed words form is none);
  read = λ word fault. absurd (cc);
  write = λ _. subst (λ (name : Option (List ℕ)). WriteRose name old new old_sink new_sink) (sym no_file) rose;
  missing = λ word fault. absurd (cc);
  word = λ word at. absurd (cc);
  binding = λ word at whole. absurd (cc);
}

-- ---- answers
fault_cases : (status : Status) → IsFault status → (status ≡ Memory) ⊎ (((word : ℕ) × (status ≡ ReadFault word)) ⊎ (status ≡ WriteFault))
fault_cases Memory fault = inl refl
fault_cases (ReadFault word) fault = inr (inl (word, refl))
fault_cases WriteFault fault = inr (inr refl)
fault_cases _ fault = absurd fault

complete_done : (planned : Result Output Status) → IsOk planned → IsComplete planned Done
complete_done (Ok output) ok = inl refl
complete_done (Err refusal) ok = absurd (cc)

complete_refused : (planned : Result Output Status) (status : Status) → planned ≡ Err status → IsComplete planned status
complete_refused (Ok output) status is = absurd (cc)
complete_refused (Err refusal) status is = inl (cc)

complete_memory : (planned : Result Output Status) → IsComplete planned Memory
complete_memory (Ok output) = inr refl
complete_memory (Err refusal) = inr refl

-- where no call failed, an answer other than Done is the refusal or Memory
complete_answer : (words : List (List ℕ)) (old new : StoreState) (old_sink new_sink : SinkState) (planned : Result Output Status) (answer : Status)
    → Cause words old new old_sink new_sink answer → NoFaultRose old new old_sink new_sink → IsFault answer ⊎ (planned ≡ Err answer) → IsComplete planned answer
complete_answer words old new old_sink new_sink planned answer cause none (inr is) = complete_refused planned answer is
complete_answer words old new old_sink new_sink planned answer cause none (inl fault) = elim (fault_cases answer fault) [
  | inl memory ↦ subst (λ s. IsComplete planned s) (sym memory) (complete_memory planned)
  | inr other ↦ elim other [ inl read ↦ absurd (none.reading (cause.read read.0 read.1)) | inr write ↦ absurd (no_write (out_name (form_of words) words) (cause.write write)) ]
]
  where
    no_write : (name : Option (List ℕ)) → WriteRose name old new old_sink new_sink → ⊥
    no_write (Some name) rose = none.writing rose
    no_write None rose = none.printing rose

-- what is known of an answer other than Done, before which no file has changed
record Refusal (words : List (List ℕ)) (old new : World) (status : Status) : Type 0 where
  other : status ≢ Done
  idle : new.store.pending ≡ None
  counts : NoCountFell old.store new.store
  files : new.store.files ≡ old.store.files
  told : ForSome old.store.files (λ files. IsFault status ⊎ (plan words files ≡ Err status))
  write_fault : status ≡ WriteFault → ForSome old.store.files (λ files. IsOk (plan words files))
  read_fault : (word : ℕ) → status ≡ ReadFault word → ForSome old.store.files (λ files. IsReached files (reading words) word)
  cause : Cause words old.store new.store old.sink new.sink status

-- memory may be wanting for the line of the answer
for_memory : (words : List (List ℕ)) (old new : World) (status : Status) → Refusal words old new status → Refusal words old new Memory
for_memory words old new status r = record {
  other = memory_apart;
  idle = r.idle;
  counts = r.counts;
  files = r.files;
  told = λ files told. inl tt;
  write_fault = λ is. absurd (cc);
  read_fault = λ word is. absurd (cc);
  cause = cause_of_memory words old.store new.store old.sink new.sink;
}

refusal_answered : (words : List (List ℕ)) (old new : World) (status : Status) → Refusal words old new status → Printed words old.store.files old.sink new.sink status
    → old.sink.faults ≤ new.sink.faults → Answered words old new status
refusal_answered words old new status r printed puts = record {
  idle = r.idle;
  told = λ files told. record {
    done = λ done. absurd (r.other done);
    unchanged = λ _. r.files ∙ told;
    refused = λ _. r.told files told;
    write_fault = λ is. r.write_fault is files told;
    read_fault = λ word is. r.read_fault word is files told;
  };
  complete = λ files told none. complete_answer words old.store new.store old.sink new.sink (plan words files) status r.cause none (r.told files told);
  stands = λ done. absurd (r.other done);
  cause = r.cause;
  printed = printed;
  counts = r.counts;
  puts = puts;
}

-- the answer to a refusal is the status, or Memory
answered_refusal : (words : List (List ℕ)) (old new : World) (status answer : Status) → Refusal words old new status → (answer ≡ status) ⊎ (answer ≡ Memory)
    → Printed words old.store.files old.sink new.sink answer → old.sink.faults ≤ new.sink.faults → Answered words old new answer
answered_refusal words old new status answer r same printed puts =
    refusal_answered words old new answer
    (⊎_elim (λ is. subst (Refusal words old new) (sym is) r) (λ is. subst (Refusal words old new) (sym is) (for_memory words old new status r)) same) printed puts

-- a command stopped, and its line was put
pub answered_stopped : {T : Type 0} {left : T → Option (List ℕ)} (words : List (List ℕ)) (form : Form) (old new : World) (status answer : Status) → form_of words ≡ Some form
    → old.store.pending ≡ None → Commanded words left old.store new.store (Err status) → (answer ≡ status) ⊎ (answer ≡ Memory) → Printed words old.store.files old.sink new.sink answer
    → old.sink.faults ≤ new.sink.faults → Answered words old new answer
answered_stopped {T} {left} words form old new status answer is idle did =
    answered_refusal words old new status answer record {
      other = did.err.caused.refused;
      idle = did.idle idle;
      counts = did.counts;
      files = did.err.files;
      told = did.err.told;
      write_fault = λ fault. (did.err.write_fault fault).1;
      read_fault = did.err.read_fault;
      cause = cause_of_stop words form old.store new.store old.sink new.sink status is did.err;
    }

-- words without a form are refused, and the line was put
pub answered_usage : (words : List (List ℕ)) (store : StoreState) (old_sink new_sink : SinkState) (answer : Status) → form_of words ≡ None → store.pending ≡ None
    → (answer ≡ Usage) ⊎ (answer ≡ Memory) → Printed words store.files old_sink new_sink answer → old_sink.faults ≤ new_sink.faults
    → Answered words (record { store = store; sink = old_sink }) (record { store = store; sink = new_sink }) answer
answered_usage words store old_sink new_sink answer none idle =
    answered_refusal words (record { store = store; sink = old_sink }) (record { store = store; sink = new_sink }) Usage answer record {
      other = λ is. cc;
      idle = idle;
      counts = counts_of_reads (reads_nothing store);
      files = refl;
      told = λ files told. inr (ap (λ (form : Option Form). outcome files (reading_of_form form words)) none);
      write_fault = λ is. absurd (cc);
      read_fault = λ word is. absurd (cc);
      cause = cause_of_usage words store store old_sink new_sink none;
    }

-- where nothing is left to be put, there is a file OUT
file_out : (words : List (List ℕ)) (name : Option (List ℕ)) (before : Option Files) → IsLeftToPut name words before None → (file : List ℕ) × (name ≡ Some file)
file_out words (Some file) before left = (file, refl)
file_out words None before (text, (is, line)) = absurd (cc)

-- and where a line is, there is none, and it is the line of the output
line_left : (words : List (List ℕ)) (name : Option (List ℕ)) (before : Option Files) (text : List ℕ) → IsLeftToPut name words before (Some text) → IsOutputLine words before text
line_left words (Some file) before text is = absurd (cc)
line_left words None before text (other, (is, line)) = let same : text ≡ other = cc in subst (IsOutputLine words before) (sym same) line

-- a command wrote the file OUT
pub answered_written : {T : Type 0} {left : T → Option (List ℕ)} (words : List (List ℕ)) (form : Form) (old new : StoreState) (sink : SinkState) (value : T) → form_of words ≡ Some form
    → old.pending ≡ None → Commanded words left old new (Ok value) → left value ≡ None
    → Answered words (record { store = old; sink = sink }) (record { store = new; sink = sink }) Done
answered_written {T} {left} words form old new sink value is idle did nothing =
    let finished = subst (λ (text : Option (List ℕ)). Finished words text old new) nothing did.ok in
    let out = file_out words (out_name (form_of words) words) old.files finished.line in
    record {
      idle = did.idle idle;
      told = λ files told. record {
        done = λ _. finished.done files told;
        unchanged = λ other. absurd (other refl);
        refused = λ other. absurd (other refl);
        write_fault = λ fault. absurd (cc);
        read_fault = λ word fault. absurd (cc);
      };
      complete = λ files told none. complete_done (plan words files) (subst IsOk (sym (finished.done files told).planned) refl);
      stands = λ _. finished.stands;
      cause = cause_of_done words form old new sink sink is;
      printed = printed_nothing words out.0 old.files sink out.1;
      counts = did.counts;
      puts = le_refl sink.faults;
    }

-- a command that has no file OUT left the line of its output, which was put, or part of it
pub answered_line : {T : Type 0} {left : T → Option (List ℕ)} (words : List (List ℕ)) (form : Form) (old new : World) (value : T) (text : List ℕ) (answer : Status) → form_of words ≡ Some form
    → old.store.pending ≡ None → Commanded words left old.store new.store (Ok value) → left value ≡ Some text → Announced old.sink new.sink text answer
    → old.sink.faults ≤ new.sink.faults → Answered words old new answer
answered_line {T} {left} words form old new value text answer is idle did left_is put puts =
    let finished = subst (λ (text : Option (List ℕ)). Finished words text old.store new.store) left_is did.ok in
    let line = line_left words (out_name (form_of words) words) old.store.files text finished.line in
    let kept : ForSome old.store.files (λ files. new.store.files ≡ Some files) = λ files told.
    let done = finished.done files told in
    subst (λ (name : Option (List ℕ)). AreLeft done.output name files new.store.files) line.no_file done.files in
    let fault : answer ≢ Done → IsFault answer = λ other.
    ⊎_elim (λ done. absurd (other done)) (⊎_elim (λ memory. subst IsFault (sym memory) tt) (λ write. subst IsFault (sym write.0) tt)) put.why in
    record {
      idle = did.idle idle;
      told = λ files told. record {
        done = λ _. finished.done files told;
        unchanged = λ _. kept files told;
        refused = λ other. inl (fault other);
        write_fault = λ _. subst IsOk (sym (finished.done files told).planned) refl;
        read_fault = λ word read. absurd (put_reads_nothing word put.why read);
      };
      complete = λ files told none.
          ⊎_elim (λ done. subst (IsComplete (plan words files)) (sym done) (complete_done (plan words files) (subst IsOk (sym (finished.done files told).planned) refl)))
          (⊎_elim (λ memory. subst (IsComplete (plan words files)) (sym memory) (complete_memory (plan words files))) (λ write. absurd (none.printing write.1))) put.why;
      stands = λ _. finished.stands;
      cause = cause line.no_file put.why;
      printed = printed_line words old.store.files old.sink new.sink text answer line put;
      counts = did.counts;
      puts = puts;
    }
  where
    put_reads_nothing : (word : ℕ) → (answer ≡ Done) ⊎ (answer ≡ Memory) ⊎ ((answer ≡ WriteFault) × Rose old.sink.faults new.sink.faults) → answer ≡ ReadFault word → ⊥
    put_reads_nothing word (inl done) read = let never : Done ≡ ReadFault word = sym done ∙ read in cc
    put_reads_nothing word (inr (inl memory)) read = let never : Memory ≡ ReadFault word = sym memory ∙ read in cc
    put_reads_nothing word (inr (inr write)) read = let never : WriteFault ≡ ReadFault word = sym write.0 ∙ read in cc

    cause : out_name (form_of words) words ≡ None → (answer ≡ Done) ⊎ (answer ≡ Memory) ⊎ ((answer ≡ WriteFault) × Rose old.sink.faults new.sink.faults)
        → Cause words old.store new.store old.sink new.sink answer
    cause no_file (inl done) = subst (Cause words old.store new.store old.sink new.sink) (sym done) (cause_of_done words form old.store new.store old.sink new.sink is)
    cause no_file (inr (inl memory)) = subst (Cause words old.store new.store old.sink new.sink) (sym memory) (cause_of_memory words old.store new.store old.sink new.sink)
    cause no_file (inr (inr write)) =
        subst (Cause words old.store new.store old.sink new.sink) (sym write.0) (cause_of_put words form old.store new.store old.sink new.sink is no_file write.1)
