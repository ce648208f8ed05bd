-- Commands that are done one after another.
use Rattle.std.proofs.Common.{◌≡◌, ℕ, zero, suc, ◌+◌, ◌<◌, ◌≤◌, inl, inr, List, [], ◌∷◌, length, take, get_or, map, refl, sym, ◌∙◌, ap, subst, arith, add-one, le_trans, le_refl}
use Rattle.std.specs.Prelude.{Option, Some, None, slice_get, String, Vec}
use Rattle.std.specs.Option.{option_map}
use Rattle.std.specs.String.{string_bytes}
use Rattle.std.specs.FinMap as map_of
use Rattle.std.specs.declared.alloc.Global.{Global}
use Rattle.std.proofs.lemmas.Option.{slice_get-map, slice_get_read}
use Rattle.outer_io.specs.Store.{Files, StoreState, Rose}
use Rattle.outer_io.specs.Sink.{SinkState}
use Rattle.batch_text.specs.Reading.{texts}
use Rattle.command_words.specs.Form.{form_of}
use Rattle.command_words.specs.declared.status.Status.{Status}
use Rattle.command_words.specs.declared.status.Status.TheVariants.{Done}
use Rattle.command_model.specs.Plan.{out_name}
use Rattle.command_model.specs.Plain.{State, Stands, step}
use Rattle.command_model.specs.Answers.{AreLeft, IsDone, Cause, WriteRose}
use Rattle.command_model.specs.Batches.{World, NoCountFell, Answered, Chain, Follow, steps}

-- ---- a chain grows at its end
chain_suc : (listed : List (List (List ℕ))) (old mid new : World) (count : ℕ) (words : List (List ℕ)) → slice_get listed count ≡ Some words → Chain listed old count mid
    → Answered words mid new Done → Chain listed old (suc count) new
chain_suc [] old mid new count words at chain done = absurd (cc at)
chain_suc (first ∷ rest) old mid new zero words at chain done =
    let same : first ≡ words = cc at in
    (new, (subst (λ (w : List (List ℕ)). Answered w old new Done) (sym same) (subst (λ (world : World). Answered words world new Done) (sym chain) done), refl))
chain_suc (first ∷ rest) old mid new (suc count) words at chain done = (chain.0, (chain.1.0, chain_suc rest chain.0 mid new count words at chain.1.1 done))

pub chain_grows : (listed : List (List (List ℕ))) (old mid new : World) (count : ℕ) (words : List (List ℕ)) → slice_get listed count ≡ Some words → Chain listed old count mid
    → Answered words mid new Done → Chain listed old (count + 1) new
chain_grows listed old mid new count words at chain done = rw add-one (chain_suc listed old mid new count words at chain done)

-- the words of the command at a place
pub words_at : (commands : List (Vec (String Global) Global)) (i : ℕ) (words : Vec (String Global) Global) → i < length commands → words ≡ get_or commands i words
    → slice_get (texts commands) i ≡ Some (map string_bytes words.items)
words_at commands i words below is =
    slice_get-map (λ (ws : Vec (String Global) Global). map string_bytes ws.items) commands i
    ∙ ap (option_map (λ (ws : Vec (String Global) Global). map string_bytes ws.items)) (slice_get_read commands _ i words refl below is)

-- ---- counts
pub counts_then : (old mid new : StoreState) → NoCountFell old mid → NoCountFell mid new → NoCountFell old new
counts_then old mid new first second = record {
  reading = le_trans first.reading second.reading;
  writing = le_trans first.writing second.writing;
  missing = le_trans first.missing second.missing;
}

-- no count falls over a chain
pub chain_counts : (listed : List (List (List ℕ))) (old new : World) (count : ℕ) → Chain listed old count new → NoCountFell old.store new.store × (old.sink.faults ≤ new.sink.faults)
chain_counts listed old new zero chain =
    subst (λ (world : World). NoCountFell old.store world.store × (old.sink.faults ≤ world.sink.faults)) chain
    (record { reading = le_refl old.store.faults; writing = le_refl old.store.write_faults; missing = le_refl old.store.misses }, le_refl old.sink.faults)
chain_counts [] old new (suc count) chain = absurd chain
chain_counts (words ∷ listed) old new (suc count) chain =
    let next = chain.0 in
    let rest = chain_counts listed next new count chain.1.1 in
    (counts_then old.store next.store new.store chain.1.0.counts rest.0, le_trans chain.1.0.puts rest.1)

rose_from : (old mid new : ℕ) → old ≤ mid → Rose mid new → Rose old new
rose_from old mid new below (inl more) = inl (omega arith)
rose_from old mid new below (inr last) = inr last

-- what an answer owes to a later part of a call it owes to the whole call
pub cause_from : (words : List (List ℕ)) (old mid new : StoreState) (old_sink mid_sink new_sink : SinkState) (answer : Status) → NoCountFell old mid
    → old_sink.faults ≤ mid_sink.faults → Cause words mid new mid_sink new_sink answer → Cause words old new old_sink new_sink answer
cause_from words old mid new old_sink mid_sink new_sink answer counts puts cause = record {
  refusal = cause.refusal;
  usage = cause.usage;
  no_form = cause.no_form;
  read = λ word is. rose_from old.faults mid.faults new.faults counts.reading (cause.read word is);
  write = λ is. written (out_name (form_of words) words) (cause.write is);
  missing = λ word is. rose_from old.misses mid.misses new.misses counts.missing (cause.missing word is);
  word = cause.word;
  binding = cause.binding;
}
  where
    written : (name : Option (List ℕ)) → WriteRose name mid new mid_sink new_sink → WriteRose name old new old_sink new_sink
    written (Some name) rose = rose_from old.write_faults mid.write_faults new.write_faults counts.writing rose
    written None rose = rose_from old_sink.faults mid_sink.faults new_sink.faults puts rose

-- ---- files
-- where files are told before a command that is done, they are told after it
told_after : (words : List (List ℕ)) (before : Files) (after : Option Files) → IsDone words before after → (files : Files) × (after ≡ Some files)
told_after words before after done = of_name (out_name (form_of words) words) done.files
  where
    of_name : (name : Option (List ℕ)) → AreLeft done.output name before after → (files : Files) × (after ≡ Some files)
    of_name None same = (before, same)
    of_name (Some name) left = (map_of.insert before name left.0, left.1.1)

-- and so they are after a chain
pub chain_told : (listed : List (List (List ℕ))) (old new : World) (count : ℕ) (before : Files) → Chain listed old count new → old.store.files ≡ Some before
    → (after : Files) × (new.store.files ≡ Some after)
chain_told listed old new zero before chain was = (before, ap (λ (world : World). world.store.files) (sym chain) ∙ was)
chain_told [] old new (suc count) before chain was = absurd chain
chain_told (words ∷ listed) old new (suc count) before chain was =
    let next = chain.0 in
    let mid = told_after words before next.store.files ((chain.1.0.told before was).done refl) in
    chain_told listed next new count mid.0 chain.1.1 mid.1

-- files that are the same stand for the same
pub same_stand : (before after : Files) (told : Option Files) (state : State) → told ≡ Some before → told ≡ Some after → Stands before state → Stands after state
same_stand before after told state was now = subst (λ (files : Files). Stands files state) (let both = sym was ∙ now in cc)

-- over a chain what the files stand for goes the way of the plain machine
pub chain_follows : (listed : List (List (List ℕ))) (old new : World) (count : ℕ) (before after : Files) → Chain listed old count new → old.store.files ≡ Some before
    → new.store.files ≡ Some after → Follow (steps (take count listed)) before after
chain_follows listed old new zero before after chain was now =
    λ state stands. same_stand before after old.store.files state was (ap (λ (world : World). world.store.files) chain ∙ now) stands
chain_follows [] old new (suc count) before after chain was now = absurd chain
chain_follows (words ∷ listed) old new (suc count) before after chain was now =
    let next = chain.0 in
    let mid = told_after words before next.store.files ((chain.1.0.told before was).done refl) in
    λ state stands. chain_follows listed next new count mid.0 after chain.1.1 mid.1 now (step words state)
    (chain.1.0.stands refl before was mid.0 mid.1 state stands)
