-- What is said of the ciphers that don't meet a demand.
use Rattle.std.proofs.Common.{◌≡◌, ◌≢◌, ◌⊎◌, inl, inr, ⊎_elim, ℕ, zero, suc, ◌+◌, ◌<◌, ◌≤◌, Bool, true, false, List, [], ◌∷◌, length, drop, map, refl, sym, ◌∙◌, ap, subst, arith}
use Rattle.std.specs.Prelude.{cond, slice_get, slice_index_or, Option, Some, None, ◌==◌}
use Rattle.std.specs.Option.{option_or, option_map}
use Rattle.std.specs.Str.{bytes_eq}
use Rattle.std.proofs.lemmas.List.{length-map}
use Rattle.std.proofs.lemmas.Option.{slice_get-map}
use borrow.Author.Tests.{eqb-true}
use Rattle.file_model.proofs.Sets.{number_of-once}
use Rattle.run_operands.proofs.Places.{drop_read}
use Rattle.outer_io.specs.Store.{StoreState}
use Rattle.set_table.specs.declared.SetName.{SetName}
use Rattle.set_table.specs.Sets.{number_of}
use Rattle.file_model.specs.declared.head.Head.{Head}
use Rattle.script_text.specs.Scripts.{Script}
use Rattle.command_words.specs.Status.{parts_of}
use Rattle.command_words.specs.declared.status.Status.{Status}
use Rattle.command_words.specs.declared.status.Status.TheVariants.{SetMismatch, KeyMismatch, PartsMismatch}
use Rattle.command_model.specs.Bindings as bindings
use Rattle.command_model.specs.Bindings.{bound_cipher, bound_values, first_key_id}
use Rattle.command_model.specs.Plan.{of_cipher, other_set, other_parts, other_key, first_refusal, mismatch}
use Rattle.run_operands.specs.BoundFiles.{IsSeen, AreSeen}
use Rattle.run_operands.specs.Demands.{operand_seen, CiphersFit}
use Rattle.command_model.specs.Commanded.{Caused}
use Rattle.command_stages.specs.Causes.{OwesNoCall}
use Rattle.command_stages.proofs.Causes.{caused_by_no_call}
use Rattle.run_operands.specs.declared.bound_files.Operand.{Operand}
use Rattle.run_operands.specs.declared.bound_files.Operand.TheVariants.{Cipher, Values}

-- ---- operands without the words of ciphers

abbrev bare : bindings.Operand → bindings.Operand
bare (bound_cipher content) = bound_cipher (record {
  kind = content.kind;
  set = content.set;
  parts = content.parts;
  element = content.element;
  key_id = content.key_id;
  mantissa = content.mantissa;
  exponent = content.exponent;
  words = [];
})
bare (bound_values listed) = bound_values listed

bare_seen : (operand : Operand) (planned : bindings.Operand) → IsSeen operand planned → operand_seen operand ≡ bare planned
bare_seen (Cipher head) (bound_cipher content) is = sym (ap (λ c. bare (bound_cipher c)) is.states)
bare_seen (Values listed) (bound_values values) is = ap bound_values is
bare_seen (Cipher head) (bound_values values) is = absurd is
bare_seen (Values listed) (bound_cipher content) is = absurd is

all_bare : (operands : List Operand) (planned : List bindings.Operand) → length operands ≡ length planned
    → ((p : ℕ) (operand : Operand) → slice_get operands p ≡ Some operand → IsSeen operand (slice_index_or planned p (bound_values [])))
    → map operand_seen operands ≡ map bare planned
all_bare [] [] count each = refl
all_bare (operand ∷ operands) (one ∷ planned) count each =
    let first = bare_seen operand one (each 0 operand refl) in
    let rest = all_bare operands planned (omega arith) (λ p other at. each (suc p) other at) in
    ap (λ o. o ∷ map operand_seen operands) first ∙ ap (λ os. bare one ∷ os) rest
all_bare [] (one ∷ planned) count each = absurd (omega arith)
all_bare (operand ∷ operands) [] count each = absurd (omega arith)

first_bare : (refusal : ℕ → bindings.Operand → Option Status) → ((word : ℕ) (operand : bindings.Operand) → refusal word (bare operand) ≡ refusal word operand)
    → (word : ℕ) (operands : List bindings.Operand) → first_refusal refusal word (map bare operands) ≡ first_refusal refusal word operands
first_bare refusal same word [] = refl
first_bare refusal same word (operand ∷ operands) =
    ap (λ (f : Option Status). option_or f (first_refusal refusal (word + 1) (map bare operands))) (same word operand)
    ∙ ap (λ (f : Option Status). option_or (refusal word operand) f) (first_bare refusal same (word + 1) operands)

set_bare : (set : SetName) (word : ℕ) (operand : bindings.Operand) → of_cipher (other_set set) word (bare operand) ≡ of_cipher (other_set set) word operand
set_bare set word (bound_cipher content) = refl
set_bare set word (bound_values listed) = refl

parts_bare : (word : ℕ) (operand : bindings.Operand) → (of_cipher other_parts) word (bare operand) ≡ (of_cipher other_parts) word operand
parts_bare word (bound_cipher content) = refl
parts_bare word (bound_values listed) = refl

key_bare : (id : List ℕ) (word : ℕ) (operand : bindings.Operand) → of_cipher (other_key id) word (bare operand) ≡ of_cipher (other_key id) word operand
key_bare id word (bound_cipher content) = refl
key_bare id word (bound_values listed) = refl

id_bare : (operands : List bindings.Operand) → first_key_id (map bare operands) ≡ first_key_id operands
id_bare [] = refl
id_bare (bound_cipher content ∷ operands) = refl
id_bare (bound_values listed ∷ operands) = id_bare operands

mismatch_bare : (script : Script) (operands : List bindings.Operand) → mismatch script (map bare operands) ≡ mismatch script operands
mismatch_bare script operands =
    let all = map bare operands in
    let keys = λ (id : List ℕ) (os : List bindings.Operand). first_refusal (of_cipher (other_key id)) 3 os in
    ap (λ (f : Option Status). option_or f (option_or (first_refusal (of_cipher other_parts) 3 all) (keys (first_key_id all) all)))
    (first_bare (of_cipher (other_set script.set)) (set_bare script.set) 3 operands)
    ∙ ap (λ (f : Option Status). option_or (first_refusal (of_cipher (other_set script.set)) 3 operands) (option_or f (keys (first_key_id all) all)))
    (first_bare (of_cipher other_parts) parts_bare 3 operands)
    ∙ ap (λ (id : List ℕ). option_or (first_refusal (of_cipher (other_set script.set)) 3 operands) (option_or (first_refusal (of_cipher other_parts) 3 operands) (keys id all)))
    (id_bare operands)
    ∙ ap (λ (f : Option Status). option_or (first_refusal (of_cipher (other_set script.set)) 3 operands) (option_or (first_refusal (of_cipher other_parts) 3 operands) f))
    (first_bare (of_cipher (other_key (first_key_id operands))) (key_bare (first_key_id operands)) 3 operands)

all_seen : (operands : List Operand) (planned : List bindings.Operand) → AreSeen operands planned → map operand_seen operands ≡ map bare planned
all_seen operands planned are = all_bare operands planned are.count are.each

-- what doesn't match is seen without the words of ciphers
pub mismatch_seen : (script : Script) (operands : List Operand) (planned : List bindings.Operand) → AreSeen operands planned
    → mismatch script (map operand_seen operands) ≡ mismatch script planned
mismatch_seen script operands planned are = ap (mismatch script) (all_seen operands planned are) ∙ mismatch_bare script planned

pub key_id_seen : (operands : List Operand) (planned : List bindings.Operand) → AreSeen operands planned → first_key_id (map operand_seen operands) ≡ first_key_id planned
key_id_seen operands planned are = ap first_key_id (all_seen operands planned are) ∙ id_bare planned

-- ---- refusals

-- from an operand on, its own refusal comes first
pub refusal_from : (refusal : ℕ → bindings.Operand → Option Status) (operands : List Operand) (i : ℕ) (operand : Operand) → slice_get operands i ≡ Some operand
    → first_refusal refusal (3 + i) (drop i (map operand_seen operands))
    ≡ option_or (refusal (3 + i) (operand_seen operand)) (first_refusal refusal (3 + (i + 1)) (drop (i + 1) (map operand_seen operands)))
refusal_from refusal operands i operand at =
    let next : 3 + i + 1 ≡ 3 + (i + 1) = omega arith in
    ap (first_refusal refusal (3 + i)) (drop_read operand_seen operands i operand at)
    ∙ ap (λ (word : ℕ). option_or (refusal (3 + i) (operand_seen operand)) (first_refusal refusal word (drop (i + 1) (map operand_seen operands)))) next

-- where there is no cipher none is refused
pub no_refusal : (id : List ℕ) (word : ℕ) (operands : List Operand) → ((p : ℕ) (head : Head) → slice_get operands p ≡ Some (Cipher head) → ⊥)
    → first_refusal (of_cipher (other_key id)) word (map operand_seen operands) ≡ None
no_refusal id word [] none = refl
no_refusal id word (Cipher head ∷ operands) none = absurd (none 0 head refl)
no_refusal id word (Values listed ∷ operands) none = no_refusal id (word + 1) operands (λ p head at. none (suc p) head at)

either : (first rest : Option Status) (status : Status) → option_or first rest ≡ Some status → (first ≡ Some status) ⊎ (rest ≡ Some status)
either (Some found) rest status is = inl is
either None rest status is = inr is

neither : (first rest : Option Status) → option_or first rest ≡ None → (first ≡ None) × (rest ≡ None)
neither (Some found) rest is = absurd (cc)
neither None rest is = (refl, is)

-- a status says that the cipher in the file of a word doesn't match
abbrev IsMismatch : ℕ → Status → Type 0
IsMismatch word (SetMismatch at have want) = at ≡ word
IsMismatch word (KeyMismatch at have want) = at ≡ word
IsMismatch word (PartsMismatch at have want) = at ≡ word
IsMismatch word _ = ⊥

refused_by : (passes : Bool) (refused status : Status) → cond passes None (Some refused) ≡ Some status → refused ≡ status
refused_by true refused status is = absurd (cc)
refused_by false refused status is = cc

set_is : (set : SetName) (word : ℕ) (operand : bindings.Operand) (status : Status) → of_cipher (other_set set) word operand ≡ Some status → IsMismatch word status
set_is set word (bound_cipher content) status is = subst (IsMismatch word) (refused_by (number_of content.set == number_of set) (SetMismatch word content.set set) status is) refl
set_is set word (bound_values listed) status is = absurd (cc)

parts_is : (word : ℕ) (operand : bindings.Operand) (status : Status) → (of_cipher other_parts) word operand ≡ Some status → IsMismatch word status
parts_is word (bound_cipher content) status is = subst (IsMismatch word) (refused_by (content.parts == 2) (PartsMismatch word content.parts 2) status is) refl
parts_is word (bound_values listed) status is = absurd (cc)

key_is : (id : List ℕ) (word : ℕ) (operand : bindings.Operand) (status : Status) → of_cipher (other_key id) word operand ≡ Some status → IsMismatch word status
key_is id word (bound_cipher content) status is = subst (IsMismatch word) (refused_by (bytes_eq content.key_id id) (KeyMismatch word content.key_id id) status is) refl
key_is id word (bound_values listed) status is = absurd (cc)

-- a mismatch at one of so many words from one on
abbrev IsMismatchWithin : ℕ → ℕ → Status → Type 0
IsMismatchWithin from count status = (word : ℕ) × ((from ≤ word) × ((word < from + count) × IsMismatch word status))

first_is : (refusal : ℕ → bindings.Operand → Option Status) → ((word : ℕ) (operand : bindings.Operand) (status : Status) → refusal word operand ≡ Some status → IsMismatch word status)
    → (from : ℕ) (operands : List bindings.Operand) (status : Status) → first_refusal refusal from operands ≡ Some status → IsMismatchWithin from (length operands) status
first_is refusal each from [] status is = absurd (cc)
first_is refusal each from (operand ∷ operands) status is =
    ⊎_elim (λ here. (from, (omega arith, (omega arith, each from operand status here))))
    (λ later. let found = first_is refusal each (from + 1) operands status later in (found.0, (omega (arith, found.1.0), (omega (arith, found.1.1.0), found.1.1.1))))
    (either (refusal from operand) (first_refusal refusal (from + 1) operands) status is)

mismatch_is : (script : Script) (operands : List bindings.Operand) (status : Status) → mismatch script operands ≡ Some status → IsMismatchWithin 3 (length operands) status
mismatch_is script operands status is =
    ⊎_elim (first_is (of_cipher (other_set script.set)) (set_is script.set) 3 operands status)
    (λ others. ⊎_elim (first_is (of_cipher other_parts) parts_is 3 operands status) (first_is (of_cipher (other_key (first_key_id operands))) (key_is (first_key_id operands)) 3 operands status)
    (either (first_refusal (of_cipher other_parts) 3 operands) (first_refusal (of_cipher (other_key (first_key_id operands))) 3 operands) status others))
    (either (first_refusal (of_cipher (other_set script.set)) 3 operands)
    (option_or (first_refusal (of_cipher other_parts) 3 operands) (first_refusal (of_cipher (other_key (first_key_id operands))) 3 operands)) status is)

no_call : (word : ℕ) (status : Status) → IsMismatch word status → OwesNoCall status
no_call word (SetMismatch at have want) is = tt
no_call word (KeyMismatch at have want) is = tt
no_call word (PartsMismatch at have want) is = tt
no_call word _ is = absurd is

named : (word : ℕ) (status : Status) → IsMismatch word status → (w : ℕ) → (parts_of status).word ≡ Some w → w ≡ word
named word (SetMismatch at have want) is w at_is = cc
named word (KeyMismatch at have want) is w at_is = cc
named word (PartsMismatch at have want) is w at_is = cc
named word _ is w at_is = absurd is

not_whole : (word : ℕ) (status : Status) → IsMismatch word status → (parts_of status).whole ≡ false
not_whole word (SetMismatch at have want) is = refl
not_whole word (KeyMismatch at have want) is = refl
not_whole word (PartsMismatch at have want) is = refl
not_whole word _ is = absurd is

-- what a mismatch owes to: the word of a binding
pub mismatch_caused : (script : Script) (operands : List Operand) (old new : StoreState) (status : Status) → mismatch script (map operand_seen operands) ≡ Some status
    → Caused (λ w. (3 ≤ w) × (w < 3 + length operands)) old new status
mismatch_caused script operands old new status is =
    let found = mismatch_is script (map operand_seen operands) status is in
    let within : found.0 < 3 + length operands = omega (arith, found.1.1.0, length-map operands operand_seen) in
    caused_by_no_call (λ w. (3 ≤ w) × (w < 3 + length operands)) old new status (no_call found.0 status found.1.1.1)
    (λ w at. subst (λ (n : ℕ). (3 ≤ n) × (n < 3 + length operands)) (sym (named found.0 status found.1.1.1 w at)) (found.1.0, within))
    (λ w at whole. let never : true ≡ false = sym whole ∙ not_whole found.0 status found.1.1.1 in absurd (cc))

pub mismatch_no_call : (script : Script) (operands : List Operand) (status : Status) → mismatch script (map operand_seen operands) ≡ Some status → OwesNoCall status
mismatch_no_call script operands status is = let found = mismatch_is script (map operand_seen operands) status is in no_call found.0 status found.1.1.1

-- ---- ciphers that fit

passed : (passes : Bool) (refused : Status) → cond passes None (Some refused) ≡ None → passes ≡ true
passed true refused is = refl
passed false refused is = absurd (cc)

none_refused : (refusal : ℕ → bindings.Operand → Option Status) (from : ℕ) (operands : List bindings.Operand) → first_refusal refusal from operands ≡ None
    → (p : ℕ) (operand : bindings.Operand) → slice_get operands p ≡ Some operand → (word : ℕ) × (refusal word operand ≡ None)
none_refused refusal from [] none p operand at = absurd (cc)
none_refused refusal from (one ∷ operands) none zero operand at =
    let same : one ≡ operand = cc in
    (from, subst (λ o. refusal from o ≡ None) same (neither (refusal from one) (first_refusal refusal (from + 1) operands) none).0)
none_refused refusal from (one ∷ operands) none (suc p) operand at =
    none_refused refusal (from + 1) operands (neither (refusal from one) (first_refusal refusal (from + 1) operands) none).1 p operand at

-- where nothing is refused all ciphers are of the script's set and have two parts
pub ciphers_fit : (script : Script) (operands : List Operand) → mismatch script (map operand_seen operands) ≡ None → CiphersFit script.set operands
ciphers_fit script operands none p head at =
    let seen = map operand_seen operands in
    let sets = neither (first_refusal (of_cipher (other_set script.set)) 3 seen)
    (option_or (first_refusal (of_cipher other_parts) 3 seen) (first_refusal (of_cipher (other_key (first_key_id seen))) 3 seen)) none in
    let parts = neither (first_refusal (of_cipher other_parts) 3 seen) (first_refusal (of_cipher (other_key (first_key_id seen))) 3 seen) sets.1 in
    let there : slice_get seen p ≡ Some (operand_seen (Cipher head)) = slice_get-map operand_seen operands p ∙ ap (option_map operand_seen) at in
    let of_set = none_refused (of_cipher (other_set script.set)) 3 seen sets.0 p (operand_seen (Cipher head)) there in
    let of_parts = none_refused (of_cipher other_parts) 3 seen parts.0 p (operand_seen (Cipher head)) there in (
      number_of-once head.set script.set (eqb-true (number_of head.set) (number_of script.set)
          (passed (number_of head.set == number_of script.set) (SetMismatch of_set.0 head.set script.set) of_set.1)),
      eqb-true head.parts 2 (passed (head.parts == 2) (PartsMismatch of_parts.0 head.parts 2) of_parts.1),
    )

-- the key id from a cipher on, and behind values
pub id_at_cipher : (operands : List Operand) (i : ℕ) (head : Head) → slice_get operands i ≡ Some (Cipher head) → first_key_id (drop i (map operand_seen operands)) ≡ head.id
id_at_cipher operands i head at = ap first_key_id (drop_read operand_seen operands i (Cipher head) at)

pub id_behind_values : (operands : List Operand) (i : ℕ) (operand : Operand) → slice_get operands i ≡ Some operand → ((head : Head) → operand ≢ Cipher head)
    → first_key_id (drop i (map operand_seen operands)) ≡ first_key_id (drop (i + 1) (map operand_seen operands))
id_behind_values operands i (Cipher head) at other = absurd (other head refl)
id_behind_values operands i (Values listed) at other = ap first_key_id (drop_read operand_seen operands i (Values listed) at)
