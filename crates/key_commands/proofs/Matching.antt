-- Files that don't match.
use Rattle.std.proofs.Common.{◌≡◌, ℕ, subst}
use Rattle.std.specs.Prelude.{Bool, true, false, ◌==◌, if◌then◌else◌, Some, None}
use Rattle.std.specs.Option.{option_or}
use Rattle.std.specs.Str.{bytes_eq}
use Rattle.outer_io.specs.Store.{StoreState}
use Rattle.set_table.specs.Sets.{number_of}
use Rattle.file_model.specs.FileText.{FileContent}
use Rattle.command_words.specs.declared.status.Status.{Status}
use Rattle.command_words.specs.declared.status.Status.TheVariants.{SetMismatch, KeyMismatch}
use Rattle.command_model.specs.Plan.{unmatched, other_key}
use Rattle.command_model.specs.Commanded.{Caused}
use Rattle.command_stages.specs.Causes.{OwesNoCall}
use Rattle.command_stages.proofs.Causes.{caused_by_no_call}

-- what is said of files that don't match owes to no call of the store, and names the word of the file
pub record OwesWord (word : ℕ) (status : Status) : Type 0 where
  pub none : OwesNoCall status
  pub caused : (old new : StoreState) → Caused (λ w. w ≡ word) old new status

owes_sets : (word : ℕ) (content other : FileContent) → OwesWord word (SetMismatch word content.set other.set)
owes_sets word content other = record {
  none = tt;
  caused = λ old new. caused_by_no_call (λ w. w ≡ word) old new (SetMismatch word content.set other.set) tt (λ w at. cc) (λ w at whole. absurd (cc));
}

owes_keys : (word : ℕ) (content other : FileContent) → OwesWord word (KeyMismatch word content.key_id other.key_id)
owes_keys word content other = record {
  none = tt;
  caused = λ old new. caused_by_no_call (λ w. w ≡ word) old new (KeyMismatch word content.key_id other.key_id) tt (λ w at. cc) (λ w at whole. absurd (cc));
}

pub unmatched_owes : (word : ℕ) (content other : FileContent) (status : Status) → unmatched word content other ≡ Some status → OwesWord word status
unmatched_owes word content other status is = of_sets (number_of content.set == number_of other.set) is
  where
    of_keys : (same : Bool) → (if same then None else Some (KeyMismatch word content.key_id other.key_id)) ≡ Some status → OwesWord word status
    of_keys true is = absurd (cc)
    of_keys false is = let same : KeyMismatch word content.key_id other.key_id ≡ status = cc in subst (OwesWord word) same (owes_keys word content other)

    of_sets : (same : Bool) → option_or (if same then None else Some (SetMismatch word content.set other.set)) (other_key other.key_id word content) ≡ Some status → OwesWord word status
    of_sets true is = of_keys (bytes_eq content.key_id other.key_id) is
    of_sets false is = let same : SetMismatch word content.set other.set ≡ status = cc in subst (OwesWord word) same (owes_sets word content other)
