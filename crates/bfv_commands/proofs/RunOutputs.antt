-- From what was read of bound files to the cipher that `run` writes.
use Rattle.std.proofs.Common.{◌≡◌, ◌⊎◌, inl, inr, ⊎_elim, ℕ, ◌+◌, ◌-◌, ◌*◌, ◌<◌, ◌≤◌, zero, suc, All, List, [], ◌∷◌, ◌++◌, length, take, get_or, refl, sym, ◌∙◌, ap, ap₂, subst, arith}
use Rattle.std.specs.Prelude.{Bool, true, false, cond, filter, is_none, slice_get, slice_index, slice_index_or, unwrap_or, Option, Some, None, Ok, Err, if◌then◌else◌, IsTrue}
use Rattle.std.specs.Option.{option_or}
use Rattle.std.specs.Str.{bytes_eq}
use Rattle.std.proofs.lemmas.Slice.Eq.{bytes_eq-Decides}
use Rattle.std.proofs.lemmas.List.{ext_get_or, get_or-map, length-map, take_more}
use Rattle.std.proofs.lemmas.Option.{get_or_from_slice_get}
use Rattle.outer_io.specs.Store.{Files, contents, with_file}
use Rattle.set_table.specs.declared.SetName.{SetName}
use Rattle.set_table.specs.Sets.{degree_of, data_of}
use Rattle.bound_num.specs.declared.Bound.{Bound}
use Rattle.bound_num.specs.Bound.{bound_value}
use Rattle.file_model.specs.declared.file_kind.FileKind.{FileKind}
use Rattle.file_model.specs.declared.file_kind.FileKind.TheVariants as kind
use Rattle.file_model.specs.FileText.{FileContent, IsFile, KeepsRules, file_text, parts_fit, bound_fits}
use Rattle.bfv_model.specs.Holds.{secret_polynomial}
use Rattle.file_model.proofs.Rules.{cipher_bound-IsCanonical}
use Rattle.bfv_params.specs.Kept.{IsCipher}
use Rattle.bfv_params.specs.Values.{CipherValue}
use Rattle.bfv_params.specs.Ciphers.{IsCipherOf}
use Rattle.script_text.specs.declared.script.InputKind.{InputKind}
use Rattle.script_text.specs.declared.script.InputKind.TheVariants as input
use Rattle.script_text.specs.Scripts.{Script, IsSound, cipher_inputs, is_cipher, shape_at, shapes_of}
use Rattle.script_text.specs.Value.{value_of}
use Rattle.noise_check.specs.ExactBounds.{exact_bounds}
use Rattle.script_run.specs.Premises.{IsQuiet}
use Rattle.script_run.specs.Runs.{Carries}
use Rattle.script_run.specs.Workspaces.{whole_context}
use Rattle.noise_check.specs.declared.verdict.Verdict.{Verdict}
use Rattle.noise_check.specs.declared.verdict.Verdict.TheVariants as verdict
use Rattle.noise_check.specs.Numbers.{numbers, AllCanonical}
use Rattle.file_model.specs.declared.head.Head.{Head}
use Rattle.cipher_files.specs.Contents.{part_words}
use Rattle.file_model.specs.Heads.{IsHeadOf, content_with, wants}
use Rattle.file_model.specs.declared.head.Wanted.TheVariants as wanted
use Rattle.command_words.specs.Form.{binding_file}
use Rattle.command_words.specs.Line.{word_at}
use Rattle.command_words.specs.declared.status.Status.{Status}
use Rattle.command_words.specs.declared.status.Status.TheVariants.{KeyMismatch}
use Rattle.command_model.specs.Bindings as bindings
use Rattle.command_model.specs.Bindings.{bound_cipher, bound_values, no_content, bound_names, place_bound, first_key_id, plains_of}
use Rattle.command_model.specs.Plain.{Owner}
use Rattle.command_model.specs.Reading.{accepted, done}
use Rattle.command_model.specs.Plan.{judged, bound_at, mismatch, of_cipher, other_set, other_parts, other_key, first_refusal, stated_bounds}
use Rattle.run_operands.specs.BoundFiles.{AreHeld, AreSeen, AreStated, FitsKind, MayBeBound}
use Rattle.bfv_commands.specs.Filled.{AreListed, IsListed, values_listed}
use Rattle.run_operands.specs.Ordered.{ArePlainValues, CanRunOn}
use Rattle.bfv_commands.specs.RunStages.{AreOfKey, AreSealed, IsRunOf, LeavesRoom, bounds_of, run_head, run_with}
use Rattle.run_operands.specs.declared.bound_files.BoundCipher.{BoundCipher}
use Rattle.run_operands.specs.declared.bound_files.Operand.{Operand}
use Rattle.run_operands.specs.declared.bound_files.Operand.TheVariants.{Cipher, Values}
use Rattle.run_operands.proofs.Places.{element_there}
use Rattle.run_operands.proofs.InOrder.{input_bound, place_is}
use Rattle.bfv_commands.proofs.AcceptedRuns.{stated_exponent}
use Rattle.bfv_commands.proofs.OutputParts.{IsTwoOrThree, output_parts}
use Rattle.bfv_commands.proofs.Executing.{some_cipher, output_sealed}

-- ---- the verdict
-- a bound that is accepted is that of the output
pub accepted_is : (script : Script) (v : Verdict) (bound : Bound) → judged script v accepted ≡ done (accepted bound)
    → (bounds : List Bound) × ((v ≡ verdict.Accepted bounds) × (bound_at bounds script.output ≡ bound))
accepted_is script (verdict.Accepted bounds) bound is = (bounds, (refl, cc))
accepted_is script (verdict.TooNoisy line most limit) bound is = absurd (cc)

-- ---- the bounds that are stated
-- heads state the bounds of their contents
pub stated_of_heads : (ciphers : List BoundCipher) (contents : List FileContent) → length ciphers ≡ length contents
    → ((r : ℕ) (cipher : BoundCipher) → slice_get ciphers r ≡ Some cipher → IsHeadOf cipher.head (slice_index_or contents r no_content))
    → stated_bounds contents ≡ numbers (bounds_of ciphers)
stated_of_heads ciphers contents count each =
    let left = length-map contents (λ content. bound_value content.mantissa content.exponent) in
    let right = length-map (bounds_of ciphers) (λ bound. bound_value bound.m bound.e) in
    let between = length-map ciphers (λ cipher. cipher.head.bound) in
    ext_get_or 0 (stated_bounds contents) (numbers (bounds_of ciphers)) (omega arith) (λ r below.
    let inside : r < length contents = omega arith in
    let there = element_there ciphers r (omega arith) in
    let cipher_is : get_or ciphers r there.0 ≡ there.0 = get_or_from_slice_get ciphers r there.0 there.0 there.1 in
    get_or-map (λ content. bound_value content.mantissa content.exponent) contents r no_content 0 inside
    ∙ ap (λ (content : FileContent). bound_value content.mantissa content.exponent) (each r there.0 there.1).states
    ∙ ap (λ (cipher : BoundCipher). bound_value cipher.head.bound.m cipher.head.bound.e) (sym cipher_is)
    ∙ sym (
    get_or-map (λ bound. bound_value bound.m bound.e) (bounds_of ciphers) r there.0.head.bound 0 (omega arith)
    ∙ ap (λ (bound : Bound). bound_value bound.m bound.e) (get_or-map (λ cipher. cipher.head.bound) ciphers r there.0 there.0.head.bound (omega arith))
    ))

-- ---- the key ids
no_first : {A : Type 0} (first rest : Option A) → option_or first rest ≡ None → (first ≡ None) × (rest ≡ None)
no_first None rest is = (refl, is)
no_first (Some refusal) rest is = absurd (cc)

-- a cipher that isn't refused for its key id is of this one
keyed_one : (id : List ℕ) (word : ℕ) (operand : bindings.Operand) (content : FileContent) → of_cipher (other_key id) word operand ≡ None → operand ≡ bound_cipher content
    → content.key_id ≡ id
keyed_one id word (bound_cipher other) content none is =
    let same : other ≡ content = cc in
    subst (λ (c : FileContent). c.key_id ≡ id) same (of_test (bytes_eq other.key_id id) (bytes_eq-Decides other.key_id id).0 none)
  where
    of_test : (test : Bool) → (test ≡ true → other.key_id ≡ id) → (if test then None else Some (KeyMismatch word other.key_id id)) ≡ None → other.key_id ≡ id
    of_test true same is = same refl
    of_test false same is = absurd (cc)
keyed_one id word (bound_values listed) content none is = absurd (cc)

keyed_at : (id : List ℕ) (word : ℕ) (operands : List bindings.Operand) (content : FileContent) → first_refusal (of_cipher (other_key id)) word operands ≡ None → (p : ℕ)
    → slice_index_or operands p (bound_values []) ≡ bound_cipher content → content.key_id ≡ id
keyed_at id word [] content none p is = absurd (cc)
keyed_at id word (operand ∷ operands) content none zero is =
    keyed_one id word operand content (no_first (of_cipher (other_key id) word operand) (first_refusal (of_cipher (other_key id)) (word + 1) operands) none).0 is
keyed_at id word (operand ∷ operands) content none (suc p) is =
    keyed_at id (word + 1) operands content (no_first (of_cipher (other_key id) word operand) (first_refusal (of_cipher (other_key id)) (word + 1) operands) none).1 p is

-- ciphers that match are of one key id
pub of_one_key : (script : Script) (planned : List bindings.Operand) (ciphers : List BoundCipher) (contents : List FileContent) → mismatch script planned ≡ None
    → AreStated planned ciphers contents → AreOfKey contents (first_key_id planned)
of_one_key script planned ciphers contents matched stated = λ r below.
    let id = first_key_id planned in
    let sets = first_refusal (of_cipher (other_set script.set)) 3 planned in
    let parts = first_refusal (of_cipher other_parts) 3 planned in
    let keys = first_refusal (of_cipher (other_key id)) 3 planned in
    let there = element_there ciphers r (let count = stated.count in omega arith) in
    keyed_at id 3 planned (slice_index_or contents r no_content) (no_first parts keys (no_first sets (option_or parts keys) matched).1).1 (there.0.word - 3)
    (stated.each r there.0 there.1).named

-- ---- lists by their places
-- what holds of each element that is there
pub all_there : {X : Type 0} (P : X → Type 0) (xs : List X) → ((i : ℕ) (x : X) → slice_get xs i ≡ Some x → P x) → All P xs
all_there P xs each i d below =
    let there = element_there xs i below in
    subst P (sym (get_or_from_slice_get xs i there.0 d there.1)) (each i there.0 there.1)

-- values that stand at these places
pub listed_there : (script : Script) (words : List (List ℕ)) (operands : List Operand) (places : List ℕ)
    → ((p place : ℕ) → slice_get places p ≡ Some place → ArePlainValues script words operands p place)
    → (p : ℕ) → p < length places → IsListed script.set (slice_get operands (slice_index places p))
listed_there script words operands places each p below =
    let there = element_there places p below in
    let at = each p there.0 there.1 in
    let place_is : slice_index places p ≡ there.0 = get_or_from_slice_get places p there.0 0 there.1 in
    subst (λ (found : Option Operand). IsListed script.set found) (sym (ap (slice_get operands) place_is ∙ at.there)) at.values

-- and they are those that are bound to the plain inputs
pub listed_values : (script : Script) (words : List (List ℕ)) (operands : List Operand) (planned : List bindings.Operand) (places : List ℕ) → AreSeen operands planned
    → ((p place : ℕ) → slice_get places p ≡ Some place → ArePlainValues script words operands p place)
    → AreListed operands places (plains_of script (bound_names words) planned)
listed_values script words operands planned places seen each = λ p below.
    let there = element_there places p below in
    let at = each p there.0 there.1 in
    let place_is : slice_index places p ≡ there.0 = get_or_from_slice_get places p there.0 0 there.1 in
    at.is planned seen ∙ sym (ap values_listed (ap (slice_get operands) place_is ∙ at.there))

-- ---- a script has a cipher input
-- an element of a list that passes a test
abbrev Passing : {X : Type 0} → (X → Bool) → List X → Type 0
Passing {X} test xs = (i : ℕ) × ((x : X) × ((slice_get xs i ≡ Some x) × (test x ≡ true)))

passing_later : {X : Type 0} (test : X → Bool) (x : X) (xs : List X) → Passing test xs → Passing test (x ∷ xs)
passing_later test x xs (i, rest) = (suc i, rest)

passing_first : {X : Type 0} (test : X → Bool) (x : X) (xs : List X) → (0 < length (filter test xs) → Passing test xs) → (b : Bool) → test x ≡ b
    → 0 < length (cond b (x ∷ filter test xs) (filter test xs)) → Passing test (x ∷ xs)
passing_first test x xs others true is some = (0, (x, (refl, is)))
passing_first test x xs others false is some = passing_later test x xs (others some)

-- where elements pass a test, there is one
passing_at : {X : Type 0} (test : X → Bool) (xs : List X) → 0 < length (filter test xs) → Passing test xs
passing_at test [] some = absurd (omega arith)
passing_at test (x ∷ xs) some = passing_first test x xs (passing_at test xs) (test x) refl some

bound_place : (found : Option ℕ) → is_none found ≡ false → (place : ℕ) × (found ≡ Some place)
bound_place (Some place) is = (place, refl)
bound_place None is = absurd (cc)

cipher_head_there : (set : SetName) (kind : InputKind) (operand : Operand) → kind ≡ input.Cipher → FitsKind set kind operand → (head : Head) × (operand ≡ Cipher head)
cipher_head_there set input.Cipher (Cipher head) is fits = (head, refl)
cipher_head_there set input.Cipher (Values listed) is fits = absurd fits
cipher_head_there set input.Plain operand is fits = absurd (cc)

kind_is_cipher : (kind : InputKind) → (elim kind as (λ _. Bool) [ input.Cipher ↦ true | input.Plain ↦ false ]) ≡ true → kind ≡ input.Cipher
kind_is_cipher input.Cipher is = refl
kind_is_cipher input.Plain is = absurd (cc)

-- a cipher is bound to an input of a script that can be run
pub some_cipher_bound : (script : Script) (words : List (List ℕ)) (operands : List Operand) → IsSound script → CanRunOn script words operands
    → (p : ℕ) × ((head : Head) × (slice_get operands p ≡ Some (Cipher head)))
some_cipher_bound script words operands sound can =
    let found = passing_at is_cipher script.inputs (some_cipher script sound) in
    let x = found.1.0 in
    let place = bound_place (place_bound (bound_names words) x.name) (input_bound script words found.0 x can.well_bound found.1.1.0) in
    let at = place_is script words operands found.0 x place.0 sound can found.1.1.0 place.1 in
    let there = element_there operands place.0 at.within in
    let head = cipher_head_there script.set x.kind there.0 (kind_is_cipher x.kind found.1.1.1) (at.fits there.0 there.1) in
    (place.0, (head.0, there.1 ∙ ap Some head.1))

-- ---- the head of the output
two_or_three : (parts : ℕ) → IsTwoOrThree parts → parts_fit kind.Cipher parts ≡ true
two_or_three parts (inl is) = ap (parts_fit kind.Cipher) is
two_or_three parts (inr is) = ap (parts_fit kind.Cipher) is

-- the bounds of one cipher more
pub bounds_more : (ciphers : List BoundCipher) (i : ℕ) (d : BoundCipher) (bounds : List Bound) → i < length ciphers → bounds ≡ take i (bounds_of ciphers)
    → bounds ++ (get_or ciphers i d).head.bound ∷ [] ≡ take (i + 1) (bounds_of ciphers)
bounds_more ciphers i d bounds inside so_far =
    ap₂ (λ (before : List Bound) (bound : Bound). before ++ bound ∷ []) so_far (sym (get_or-map (λ cipher. cipher.head.bound) ciphers i d d.head.bound inside))
    ∙ sym (take_more (bounds_of ciphers) i d.head.bound (omega (arith, inside, length-map ciphers (λ cipher. cipher.head.bound))))

-- the parts of a script's output are those of a cipher
pub output_parts_fit : (script : Script) (parts : ℕ) → IsSound script → parts ≡ (shape_at (shapes_of script.inputs script.steps) script.output).parts → parts_fit kind.Cipher parts ≡ true
output_parts_fit script parts sound is = two_or_three parts (subst IsTwoOrThree (sym is) (output_parts script sound))

-- a head that is of its own id and bound
pub own_head : (script : Script) (id : List ℕ) (bound : Bound) (head : Head) → head ≡ run_head script id bound → head ≡ run_head script head.id head.bound
own_head script id bound head is = is ∙ ap (λ (h : Head). run_head script h.id h.bound) (sym is)

-- the bounds that ciphers state are canonical, and their exponents small
stated_bound : (set : SetName) (count : ℕ) (ciphers : List BoundCipher) → ((r : ℕ) (cipher : BoundCipher) → slice_get ciphers r ≡ Some cipher → MayBeBound set count cipher)
    → All (λ bound. IsTrue (bound_fits kind.Cipher set bound.m bound.e)) (bounds_of ciphers)
stated_bound set count ciphers each r d below =
    let inside : r < length ciphers = let same = length-map ciphers (λ cipher. cipher.head.bound) in omega arith in
    let there = element_there ciphers r inside in
    let may = each r there.0 there.1 in
    let bound_is : get_or (bounds_of ciphers) r d ≡ there.0.head.bound =
    get_or-map (λ cipher. cipher.head.bound) ciphers r there.0 d inside ∙ ap (λ (cipher : BoundCipher). cipher.head.bound) (get_or_from_slice_get ciphers r there.0 there.0 there.1) in
    let fits = fits_as there.0.head.kind there.0.head.set set there.0.head.bound (of_kind there.0.head.kind may.is_cipher) may.of_set may.rules.bound in
    subst (λ (bound : Bound). IsTrue (bound_fits kind.Cipher set bound.m bound.e)) (sym bound_is) fits
  where
    of_kind : (k : FileKind) → wants wanted.Cipher k ≡ true → k ≡ kind.Cipher
    of_kind kind.Cipher is = refl
    of_kind _ is = absurd (cc)

    fits_as : (k : FileKind) (z set : SetName) (bound : Bound) → k ≡ kind.Cipher → z ≡ set → IsTrue (bound_fits k z bound.m bound.e) → IsTrue (bound_fits kind.Cipher set bound.m bound.e)
    fits_as k z set bound k_is z_is fits =
        subst (λ (y : SetName). IsTrue (bound_fits kind.Cipher y bound.m bound.e)) z_is (subst (λ (l : FileKind). IsTrue (bound_fits l z bound.m bound.e)) k_is fits)

pub stated_canonical : (set : SetName) (count : ℕ) (ciphers : List BoundCipher) → ((r : ℕ) (cipher : BoundCipher) → slice_get ciphers r ≡ Some cipher → MayBeBound set count cipher)
    → AllCanonical (bounds_of ciphers)
stated_canonical set count ciphers each r d below =
    let bound = get_or (bounds_of ciphers) r d in
    cipher_bound-IsCanonical set bound.m bound.e (stated_bound set count ciphers each r d below)

pub stated_small : (set : SetName) (count : ℕ) (ciphers : List BoundCipher) → ((r : ℕ) (cipher : BoundCipher) → slice_get ciphers r ≡ Some cipher → MayBeBound set count cipher)
    → All (λ bound. bound.e ≤ 500000) (bounds_of ciphers)
stated_small set count ciphers each r d below =
    let bound = get_or (bounds_of ciphers) r d in
    stated_exponent set bound.m bound.e (stated_bound set count ciphers each r d below)

-- ---- the file of the output
-- the file of the cipher that a run gives
pub run_made : (n count : ℕ) (words : List (List ℕ)) (files : Files) (script : Script) (ciphers : List BoundCipher) (contents : List FileContent) (plains : List (List ℕ))
    (head : Head) (cipher : CipherValue) → n ≡ degree_of script.set → IsSound script
    → head ≡ run_head script head.id head.bound → LeavesRoom script (numbers (bounds_of ciphers)) head.bound → All (MayBeBound script.set count) ciphers
    → length ciphers ≡ length (cipher_inputs script.inputs) → stated_bounds contents ≡ numbers (bounds_of ciphers) → AreHeld words files ciphers contents → AreOfKey contents head.id
    → IsCipherOf (whole_context script.set) cipher → IsCipher n cipher.set cipher.room cipher.level cipher.parts cipher.rows
    → cipher.parts ≡ (shape_at (shapes_of script.inputs script.steps) script.output).parts → KeepsRules (content_with head (part_words n head.set head.parts cipher.rows))
    → ((owner : Owner) (lists : List (List ℕ)) → AreSealed owner script contents plains lists → IsQuiet (whole_context script.set) script (stated_bounds contents)
    → Carries n (whole_context script.set) (secret_polynomial owner.secret) cipher (value_of script lists) (slice_index (exact_bounds script (stated_bounds contents)) script.output))
    → IsRunOf (run_with script contents plains head) (file_text (content_with head (part_words n head.set head.parts cipher.rows)))
run_made n count words files script ciphers contents plains head cipher degree sound head_is room bound_all same_count stated held keyed of_context kept parts rules carries = record {
  is = record {
    content = content;
    is_file = record { text = refl; rules = rules };
    states = ap (λ (h : Head). content_with h listed) head_is;
  };
  sound = sound;
  right = λ owner lists sealed.
      let one = sealed.ciphers 0 some in
      output_sealed n script.set owner (value_of script lists) (slice_index (exact_bounds script (stated_bounds contents)) script.output) cipher content degree of_context kept
      (carries owner lists sealed quiet)
      record {
        is_kind = ap (λ (h : Head). h.kind) head_is;
        of_set = set_is ∙ sym first_set ∙ one.belongs.of_set;
        of_key = sym (keyed 0 (let both = held.count in omega (arith, same_count, some))) ∙ one.belongs.of_key;
        ternary = one.belongs.ternary;
      }
      set_is
      (ap (λ (set : SetName). part_words n set head.parts cipher.rows) set_is ∙ ap (λ (parts : ℕ). part_words n script.set parts cipher.rows) (ap (λ (h : Head). h.parts) head_is ∙ sym parts))
      larger;
}
  where
    listed : List ℕ
    listed = part_words n head.set head.parts cipher.rows

    content : FileContent
    content = content_with head listed

    quiet : IsQuiet (whole_context script.set) script (stated_bounds contents)
    quiet = subst (λ (bounds : List ℕ). IsQuiet (whole_context script.set) script bounds) (sym stated) room.quiet

    larger : slice_index (exact_bounds script (stated_bounds contents)) script.output ≤ bound_value head.bound.m head.bound.e
    larger = subst (λ (bounds : List ℕ). slice_index (exact_bounds script bounds) script.output ≤ bound_value head.bound.m head.bound.e) (sym stated) room.above

    set_is : head.set ≡ script.set
    set_is = ap (λ (h : Head). h.set) head_is

    some : 0 < length (cipher_inputs script.inputs)
    some = some_cipher script sound

    first_set : (slice_index_or contents 0 no_content).set ≡ script.set
    first_set =
        let there = element_there ciphers 0 (omega (arith, same_count, some)) in
        let first = held.each 0 there.0 there.1 in
        let first_bound = subst (MayBeBound script.set count) (get_or_from_slice_get ciphers 0 there.0 there.0 there.1) (bound_all 0 there.0 (omega (arith, same_count, some))) in
        ap (λ (c : FileContent). c.set) first.head_is.states ∙ first_bound.of_set
