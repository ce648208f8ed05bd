-- From the stages of a batch to its answer.
use Rattle.std.proofs.Common.{◌≡◌, ◌≢◌, ◌⊎◌, inl, inr, ⊎_elim, ℕ, ◌≤◌, List, length, refl, sym, ◌∙◌, ap, subst, le_trans, le_of_eq}
use Rattle.std.specs.Prelude.{Some, None, Ok, Err, slice_get}
use Rattle.std.specs.Option.{ForSome}
use Rattle.outer_io.specs.Store.{Files, StoreState, OnlyReads}
use Rattle.outer_io.specs.Sink.{SinkState}
use Rattle.command_words.specs.Form.{form_of}
use Rattle.command_words.specs.Line.{word_at}
use Rattle.command_words.specs.declared.form.Form.TheVariants.{Batch}
use Rattle.command_words.specs.declared.status.Status.{Status}
use Rattle.command_words.specs.declared.status.Status.TheVariants.{Done, Memory, ReadFault, WriteFault}
use Rattle.command_model.specs.Reading.{batch_file, commands}
use Rattle.command_model.specs.Plan.{plan}
use Rattle.command_model.specs.Answers.{IsFault, Printed}
use Rattle.command_model.specs.Batches.{World, NoCountFell, Answered, Chain, AreRun, BatchAnswered}
use Rattle.bfv_commands.specs.Batching.{InOrder, all_done, stopped}
use Rattle.command_model.specs.Commanded.{Caused, Stopped}
use Rattle.command_stages.specs.Stages.{Untaken}
use Rattle.command_stages.proofs.Causes.{reads_nothing}
use Rattle.command_stages.proofs.Ways.{start, operand_named, stopped_at, commanded_stop, counts_of_reads}
use Rattle.bfv_commands.proofs.Answering.{answered_stopped, cause_of_done}
use Rattle.bfv_commands.proofs.Chains.{counts_then, chain_counts, cause_from, chain_told, same_stand, chain_follows}

-- ---- a batch whose text wasn't taken
-- a fault before the first command is want of memory, or the file of the batch couldn't be read
stop_of : (status answer : Status) (old new : StoreState) → IsFault status → status ≢ WriteFault → Caused (λ word. word ≡ 1) old new status
    → (answer ≡ status) ⊎ (answer ≡ Memory) → (answer ≡ Memory) ⊎ (answer ≡ ReadFault 1)
stop_of Memory answer old new fault not_written caused same = inl (⊎_elim (λ memory. memory) (λ memory. memory) same)
stop_of (ReadFault word) answer old new fault not_written caused same = ⊎_elim (λ is. inr (is ∙ ap ReadFault (caused.word word refl))) inl same
stop_of WriteFault answer old new fault not_written caused same = absurd (not_written refl)
stop_of _ answer old new fault not_written caused same = absurd fault

-- it answers as any command that stops
pub untaken : (words : List (List ℕ)) (old new : World) (status answer : Status) → form_of words ≡ Some Batch → old.store.pending ≡ None → OnlyReads old.store new.store
    → Untaken (word_at words 1) 1 batch_file old.store new.store status → (answer ≡ status) ⊎ (answer ≡ Memory) → Printed words old.store.files old.sink new.sink answer
    → old.sink.faults ≤ new.sink.faults → BatchAnswered words old new answer
untaken words old new status answer form idle reads un same printed puts = record {
  idle = answered.idle;
  counts = answered.counts;
  puts = puts;
  cause = (words, (inl refl, answered.cause));
  refused = λ files was refusal planned. (apart, answered);
  ran = λ files was listed planned.
      let fault : IsFault status =
      ⊎_elim (λ fault. fault) (λ (refusal : plan words files ≡ Err status). let never = sym planned ∙ refusal in absurd (cc)) (stop.told files was) in
      record {
        start = old;
        reads = reads_nothing old.store;
        silent = refl;
        count = 0;
        reached = old;
        chain = refl;
        files = reads.files;
        stands = λ before told after now state stands. same_stand before after old.store.files state told (sym reads.files ∙ now) stands;
        done = λ done. absurd (apart done);
        stopped = λ _. inr (refl, (stop_of status answer old.store new.store fault un.reads un.caused same, answered));
      };
}
  where
    stop : Stopped words old.store new.store status
    stop = stopped_at (start Batch words old.store form) reads un (operand_named Batch words 1 form refl)

    answered : Answered words old new answer
    answered = answered_stopped {T = Unit {0}} {left = λ _. None} words Batch old new status answer form idle (commanded_stop status reads stop) same printed puts

    apart : answer ≢ Done
    apart = ⊎_elim (λ (is : answer ≡ status). λ done. un.caused.refused (sym is ∙ done)) (λ (is : answer ≡ Memory). λ done. let never : Memory ≡ Done = sym is ∙ done in cc) same

-- ---- a batch whose commands were run
-- what is known then: the worlds before, with the text read, and after
pub record Taken (words : List (List ℕ)) (old mid new : World) (listed : List (List (List ℕ))) (answer : Status) : Type 0 where
  pub form : form_of words ≡ Some Batch
  pub reads : OnlyReads old.store mid.store
  pub silent : mid.sink ≡ old.sink
  pub planned : ForSome old.store.files (λ files. plan words files ≡ Ok (commands listed))
  pub order : InOrder listed mid new answer
  pub idle : new.store.pending ≡ None

-- no count fell up to a world that a chain reaches
taken_counts : (words : List (List ℕ)) (old mid new reached : World) (listed : List (List (List ℕ))) (answer : Status) (count : ℕ) → Taken words old mid new listed answer
    → Chain listed mid count reached → NoCountFell old.store reached.store × (old.sink.faults ≤ reached.sink.faults)
taken_counts words old mid new reached listed answer count t chain =
    let later = chain_counts listed mid reached count chain in (
      counts_then old.store mid.store reached.store (counts_of_reads t.reads) later.0,
      le_trans (le_of_eq (ap (λ (sink : SinkState). sink.faults) (sym t.silent))) later.1,
    )

-- a refusal of a text that was taken never comes
never_refused : (words : List (List ℕ)) (old mid new : World) (listed : List (List (List ℕ))) (answer : Status) → Taken words old mid new listed answer → (files : Files)
    → old.store.files ≡ Some files → (refusal : Status) → plan words files ≡ Err refusal → ⊥
never_refused words old mid new listed answer t files was refusal planned =
    let never = sym planned ∙ t.planned files was in cc

-- the commands that are planned are those that were run
same_commands : (words : List (List ℕ)) (old mid new : World) (listed others : List (List (List ℕ))) (answer : Status) → Taken words old mid new listed answer → (files : Files)
    → old.store.files ≡ Some files → plan words files ≡ Ok (commands others) → listed ≡ others
same_commands words old mid new listed others answer t files was planned =
    let both = sym (t.planned files was) ∙ planned in cc

-- all commands are done
taken_done : (words : List (List ℕ)) (old mid new : World) (listed : List (List (List ℕ))) → Taken words old mid new listed Done → Chain listed mid (length listed) new
    → BatchAnswered words old new Done
taken_done words old mid new listed t chain =
    let counts = taken_counts words old mid new new listed Done (length listed) t chain in
    record {
      idle = t.idle;
      counts = counts.0;
      puts = counts.1;
      cause = (words, (inl refl, cause_of_done words Batch old.store new.store old.sink new.sink t.form));
      refused = λ files was refusal planned. absurd (never_refused words old mid new listed Done t files was refusal planned);
      ran = λ files was others planned. subst (λ (l : List (List (List ℕ))). AreRun words l old new Done) (same_commands words old mid new listed others Done t files was planned) record {
        start = mid;
        reads = t.reads;
        silent = t.silent;
        count = length listed;
        reached = new;
        chain = chain;
        files = refl;
        stands = λ before told after now. chain_follows listed mid new (length listed) before after chain (t.reads.files ∙ told) now;
        done = λ _. (refl, refl);
        stopped = λ other. absurd (other refl);
      };
    }

-- one of the commands isn't done
taken_stopped : (words : List (List ℕ)) (old mid new : World) (listed : List (List (List ℕ))) (answer : Status) → Taken words old mid new listed answer → (count : ℕ)
    (next : List (List ℕ)) (reached : World) → slice_get listed count ≡ Some next → Chain listed mid count reached → answer ≢ Done → Answered next reached new answer
    → BatchAnswered words old new answer
taken_stopped words old mid new listed answer t count next reached at chain other answered =
    let counts = taken_counts words old mid new reached listed answer count t chain in
    record {
      idle = t.idle;
      counts = counts_then old.store reached.store new.store counts.0 answered.counts;
      puts = le_trans counts.1 answered.puts;
      cause = (
        next,
        (
          inr (λ files was. (listed, count, (t.planned files was, at))),
          cause_from next old.store reached.store new.store old.sink reached.sink new.sink answer counts.0 counts.1 answered.cause,
        ),
      );
      refused = λ files was refusal planned. absurd (never_refused words old mid new listed answer t files was refusal planned);
      ran = λ files was others planned.
          let told = chain_told listed mid reached count files chain (t.reads.files ∙ was) in
          let kept : new.store.files ≡ reached.store.files = (answered.told told.0 told.1).unchanged other ∙ sym told.1 in
          subst (λ (l : List (List (List ℕ))). AreRun words l old new answer) (same_commands words old mid new listed others answer t files was planned) record {
            start = mid;
            reads = t.reads;
            silent = t.silent;
            count = count;
            reached = reached;
            chain = chain;
            files = kept;
            stands = λ before is after now. chain_follows listed mid reached count before after chain (t.reads.files ∙ is) (sym kept ∙ now);
            done = λ done. absurd (other done);
            stopped = λ _. inl (next, (at, answered));
          };
    }

pub taken : (words : List (List ℕ)) (old mid new : World) (listed : List (List (List ℕ))) (answer : Status) → Taken words old mid new listed answer → BatchAnswered words old new answer
taken words old mid new listed answer t = by answer t.order t
  where
    by : (answer : Status) → InOrder listed mid new answer → Taken words old mid new listed answer → BatchAnswered words old new answer
    by _ (all_done chain) t = taken_done words old mid new listed t chain
    by answer (stopped count next reached at chain other answered) t = taken_stopped words old mid new listed answer t count next reached at chain other answered
