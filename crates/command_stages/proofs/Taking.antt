-- Files that were read, or not.
use Rattle.std.proofs.Common.{◌≡◌, ◌⊎◌, inl, inr, ℕ, ◌≤◌, List, take, refl, sym, ◌∙◌, ap, subst}
use Rattle.std.specs.Prelude.{true, Option, Some, Result, Ok, Err, IfOk, IfErr}
use Rattle.std.specs.Option.{ForSome}
use Rattle.outer_io.specs.Store.{Files, StoreState, OnlyReads, ReadCause, ReadTold, file, contents}
use Rattle.outer_io.specs.declared.faults.StoreFault.{StoreFault}
use Rattle.outer_io.specs.declared.faults.StoreFault.TheVariants as store
use Rattle.file_model.specs.Reading.{of_store}
use Rattle.file_model.specs.declared.faults.FileFault.TheVariants as faults
use Rattle.set_table.specs.declared.SetName.{SetName}
use Rattle.script_text.specs.declared.faults.ValuePlace.{ValuePlace}
use Rattle.script_text.specs.declared.faults.ScriptPlace.{ScriptPlace}
use Rattle.command_words.specs.Status.{parts_of}
use Rattle.command_words.specs.declared.status.Status.{Status}
use Rattle.command_words.specs.declared.status.Status.TheVariants.{Memory, MissingFile, BadValues, BadScript}
use Rattle.command_model.specs.Reading.{Sort, own_file, seed_file, values_file, script_file, batch_file, Said, said_by, taken, status_of, MayBeRefused}
use Rattle.command_stages.specs.Stages.{IsHeld, Taken, Untaken, Took}
use Rattle.command_stages.specs.Causes.{OwesNoCall}
use Rattle.command_stages.proofs.Causes.{caused_by_no_call, memory_caused}

-- a file of any sort may be missing
pub missing_may : (sort : Sort) (word : ℕ) → MayBeRefused sort word (MissingFile word)
missing_may (own_file wanted) word = (faults.Missing, (inl tt, refl))
missing_may seed_file word = inl refl
missing_may (values_file set) word = inl refl
missing_may script_file word = inl refl
missing_may batch_file word = inl refl

-- nothing was taken of a file that the store didn't give
pub unread : {T : Type 0} {P : List ℕ → T → Type 0} (name : List ℕ) (word : ℕ) (sort : Sort) (old new : StoreState) (fault : StoreFault) → ReadCause {T = T} old new (Err fault)
    → ForSome old.files (λ files. ReadTold files name (Err fault) P) → Untaken name word sort old new (status_of word (of_store fault))
unread name word sort old new store.Memory cause told =
    record { may = inl tt; told = λ files is. inl tt; caused = memory_caused (λ w. w ≡ word) old new; reads = λ is. cc }
unread name word sort old new store.Failed cause told = record {
  may = inl tt;
  told = λ files is. inl tt;
  caused = record {
    refused = λ is. cc;
    formed = λ is. cc;
    read = λ w is. cause.failed refl;
    write = λ is. absurd (cc);
    missing = λ w is. absurd (cc);
    word = λ w is. cc;
    binding = λ w at whole. absurd (cc);
  };
  reads = λ is. cc;
}
unread name word sort old new store.Missing cause told = record {
  may = inr (missing_may sort word);
  told = λ files is. inr (ap (taken sort word) ((told files is).missing refl));
  caused = record {
    refused = λ is. cc;
    formed = λ is. cc;
    read = λ w is. absurd (cc);
    write = λ is. absurd (cc);
    missing = λ w is. cause.missing refl;
    word = λ w is. cc;
    binding = λ w at whole. absurd (cc);
  };
  reads = λ is. cc;
}

-- ---- texts, of which a byte more than they may have was read
-- this is the front of the file of a name, where the files are told
abbrev pub IsFront : Option Files → List ℕ → ℕ → List ℕ → Type 0
IsFront told name most text = ForSome told (λ files. (file files name ≡ Some (contents files name)) × (text ≡ take most (contents files name)))

-- what was read says this
pub taken_text : (told : Option Files) (name : List ℕ) (word : ℕ) (sort : Sort) (said : Said sort) (most : ℕ) (text : List ℕ)
    → ((bytes : List ℕ) → IsHeld sort bytes said) → ((bytes : List ℕ) → said_by sort word (take most bytes) ≡ said_by sort word bytes)
    → IsFront told name most text → said_by sort word text ≡ Ok said → Taken told name word sort said
taken_text told name word sort said most text held enough front is = record {
  may = (text, is);
  says = λ files told_is. let read = front files told_is in record {
    there = read.0;
    is = sym (enough (contents files name)) ∙ ap (said_by sort word) (sym read.1) ∙ is;
    held = held (contents files name);
  };
}

-- what was read is refused
pub refused_text : (name : List ℕ) (word : ℕ) (sort : Sort) (old new : StoreState) (status : Status) (most : ℕ) (text : List ℕ)
    → ((bytes : List ℕ) → said_by sort word (take most bytes) ≡ said_by sort word bytes) → IsFront old.files name most text
    → MayBeRefused sort word status → said_by sort word text ≡ Err status → OwesNoCall status
    → ((w : ℕ) → (parts_of status).word ≡ Some w → w ≡ word)
    → ((w : ℕ) → (parts_of status).word ≡ Some w → (parts_of status).whole ≡ true → 3 ≤ w) → Untaken name word sort old new status
refused_text name word sort old new status most text enough front may is none named binding = record {
  may = inr may;
  told = λ files told_is. let read = front files told_is in
      inr (ap (taken sort word) read.0 ∙ sym (enough (contents files name)) ∙ ap (said_by sort word) (sym read.1) ∙ is);
  caused = caused_by_no_call (λ w. w ≡ word) old new status none named binding;
  reads = λ writes. subst OwesNoCall writes none;
}

-- ---- stages that read a text
-- a text is refused by what it says
pub record RefusedBy (word : ℕ) (sort : Sort) (text : List ℕ) (status : Status) : Type 0 where
  pub is : said_by sort word text ≡ Err status
  pub may : MayBeRefused sort word status
  pub none : OwesNoCall status
  pub named : (w : ℕ) → (parts_of status).word ≡ Some w → w ≡ word
  pub binding : (w : ℕ) → (parts_of status).word ≡ Some w → (parts_of status).whole ≡ true → 3 ≤ w

pub values_refused : (word : ℕ) (set : SetName) (text : List ℕ) (place : ValuePlace) → said_by (values_file set) word text ≡ Err (BadValues word place)
    → RefusedBy word (values_file set) text (BadValues word place)
values_refused word set text place is =
    record { is = is; may = inr (text, is); none = tt; named = λ w at. cc; binding = λ w at whole. absurd (cc) }

pub script_refused : (word : ℕ) (text : List ℕ) (place : ScriptPlace) → said_by script_file word text ≡ Err (BadScript place) → RefusedBy word script_file text (BadScript place)
script_refused word text place is =
    record { is = is; may = inr (text, is); none = tt; named = λ w at. absurd (cc); binding = λ w at whole. absurd (cc) }

pub batch_refused : (word : ℕ) (text : List ℕ) (place : ScriptPlace) → said_by batch_file word text ≡ Err (BadScript place) → RefusedBy word batch_file text (BadScript place)
batch_refused word text place is =
    record { is = is; may = inr (text, is); none = tt; named = λ w at. absurd (cc); binding = λ w at whole. absurd (cc) }

-- the text of a file was read, and taken or refused by what it says
pub took_text : {B : Type 0} (name : List ℕ) (word : ℕ) (sort : Sort) (Fits : Said sort → B → Type 0) (old new : StoreState) (result : Result B Status) (most : ℕ) (text : List ℕ)
    → OnlyReads old new → IsFront old.files name most text → ((bytes : List ℕ) → said_by sort word (take most bytes) ≡ said_by sort word bytes)
    → ((said : Said sort) (bytes : List ℕ) → IsHeld sort bytes said)
    → IfOk result (λ value. (said : Said sort) × (Fits said value × (said_by sort word text ≡ Ok said)))
    → IfErr result (λ status. (status ≡ Memory) ⊎ RefusedBy word sort text status) → Took name word sort Fits old new result
took_text name word sort Fits old new (Ok value) most text keeps front enough held (said, (fits, is)) err = record {
  keeps = keeps;
  ok = (said, (fits, taken_text old.files name word sort said most text (held said) enough front is));
  err = tt;
}
took_text name word sort Fits old new (Err status) most text keeps front enough held ok (inl memory) = record {
  keeps = keeps;
  ok = tt;
  err = subst (Untaken name word sort old new) (sym memory)
      (record { may = inl tt; told = λ files is. inl tt; caused = memory_caused (λ w. w ≡ word) old new; reads = λ is. cc });
}
took_text name word sort Fits old new (Err status) most text keeps front enough held ok (inr by) = record {
  keeps = keeps;
  ok = tt;
  err = refused_text name word sort old new status most text enough front by.may by.is by.none by.named by.binding;
}
