-- Operands of bindings, in the order in which a script declares the inputs.
use Rattle.std.proofs.Common.{◌≡◌, ℕ, zero, suc, ◌+◌, ◌-◌, ◌<◌, ◌≤◌, Bool, true, false, List, [], ◌∷◌, ◌++◌, length, get_or, take, map, filter, position, cond, append-nil, refl, sym, ◌∙◌, ap, subst, arith}
use Rattle.std.specs.Prelude.{Vec, slice_get, slice_index_or, Option, Some, None, is_none, unwrap_or}
use Rattle.std.specs.Option.{option_or, option_map}
use Rattle.std.specs.List.{AllZip, position_or_len}
use Rattle.std.specs.Str.{bytes_eq}
use Rattle.std.specs.declared.alloc.Global.{Global}
use Rattle.std.proofs.lemmas.Slice.Zip.{AllZip-long}
use Rattle.std.proofs.lemmas.Grind.{common_steps}
use Rattle.std.proofs.lemmas.List.{length-append, length-map, get_or-map, get_or_append_left}
use Rattle.std.proofs.lemmas.List.Elements.{filter_more}
use Rattle.std.proofs.lemmas.List.Quantifiers.{position-Some}
use Rattle.std.proofs.lemmas.List.Sums.{fails_before_first}
use Rattle.std.proofs.lemmas.Option.{slice_get_within, get_or_from_slice_get}
use Rattle.std.proofs.lemmas.Slice.Eq.{bytes_eq-Decides}
use Rattle.outer_io.specs.Store.{Files}
use Rattle.file_model.specs.declared.head.Head.{Head}
use Rattle.script_text.specs.declared.script.Input.{Input}
use Rattle.script_text.specs.declared.script.InputKind.{InputKind}
use Rattle.script_text.specs.declared.script.InputKind.TheVariants as input
use Rattle.script_text.specs.Scripts.{Script, IsSound, names_of, cipher_inputs, plain_inputs, is_cipher, is_plain}
use Rattle.command_words.specs.Form.{binding_name, binding_file}
use Rattle.command_words.specs.Line.{word_at}
use Rattle.command_words.specs.declared.status.BindingFault.TheVariants.{Unbound}
use Rattle.command_words.specs.declared.status.Status.TheVariants.{Binding}
use Rattle.command_model.specs.Bindings as bindings
use Rattle.command_model.specs.Bindings.{bound_names, place_bound, input_named, kind_at, first_binding_fault, unbound_input, fault_of_bindings, bound_cipher, bound_values, no_content, content_of, values_in, operand_of, ciphers_of}
use Rattle.command_model.specs.Plan.{badly_bound}
use Rattle.command_stages.specs.Operands.{HasContentAt}
use Rattle.run_operands.specs.BoundFiles.{FitsKind, IsSeen, AreSeen, IsOperandAt, AreOperands, AreHeld, IsStatedBy, AreStated, MayBeBound}
use Rattle.run_operands.specs.Ordered.{CanRunOn, IsPlaceOf, IsCipherOf, AreValuesOf, ArePlainValues}
use Rattle.run_operands.specs.declared.bound_files.BoundCipher.{BoundCipher}
use Rattle.run_operands.specs.declared.bound_files.Operand.{Operand}
use Rattle.run_operands.specs.declared.bound_files.Operand.TheVariants.{Cipher, Values}
use Rattle.run_operands.proofs.Places.{FailsBefore, position_is, element_there}
use Rattle.run_operands.proofs.BoundWords.{length-bound_names, name_at}

-- ---- places of bindings

passes_nowhere : {X : Type 0} (p : X → Bool) (xs : List X) (i : ℕ) (x : X) → position p xs ≡ None → slice_get xs i ≡ Some x → p x ≡ false
passes_nowhere p xs i x none at =
    let past : length xs ≤ position_or_len p xs = grind (arith, common_steps) in
    let within : i < length xs = slice_get_within xs i x at in
    ap p (sym (get_or_from_slice_get xs i x x at)) ∙ fails_before_first p xs i x (omega arith)

none_of : {A B : Type 0} (f : A → B) (found : Option A) → option_map f found ≡ None → found ≡ None
none_of f (Some value) is = absurd (cc)
none_of f None is = refl

none_second : {A : Type 0} (first second : Option A) → option_or first second ≡ None → second ≡ None
none_second (Some value) second is = absurd (cc)
none_second None second is = is

-- where the bindings are without fault, each input is bound
pub input_bound : (script : Script) (words : List (List ℕ)) (i : ℕ) (input : Input) → badly_bound script words ≡ None → slice_get script.inputs i ≡ Some input
    → is_none (place_bound (bound_names words) input.name) ≡ false
input_bound script words i input bound at =
    let names = bound_names words in
    let faultless = none_of Binding (fault_of_bindings script names) bound in
    let all_bound = none_second (first_binding_fault script [] names) (unbound_input script names) faultless in
    let nowhere = none_of Unbound (position (λ other. is_none (place_bound names other.name)) script.inputs) all_bound in
    passes_nowhere (λ other. is_none (place_bound names other.name)) script.inputs i input nowhere at

abbrev input_name : Input → List ℕ
input_name input = input.name

-- the input that is found by an input's own name is that input
own_place : (script : Script) (i : ℕ) (input : Input) → IsSound script → slice_get script.inputs i ≡ Some input → input_named script input.name ≡ Some i
own_place script i input sound at =
    position_is (λ other. bytes_eq other.name input.name) script.inputs i input at ((bytes_eq-Decides input.name input.name).1 refl) others
  where
    named : (k : ℕ) (other : Input) → slice_get script.inputs k ≡ Some other → get_or (names_of script.inputs script.steps) k [] ≡ other.name
    named k other there =
        let within : k < length script.inputs = slice_get_within script.inputs k other there in
        let inside : k < length (map input_name script.inputs) = omega (arith, length-map script.inputs input_name) in
        get_or_append_left (map input_name script.inputs) (map (λ step. step.name) script.steps) [] k inside
        ∙ get_or-map input_name script.inputs k other [] within
        ∙ ap input_name (get_or_from_slice_get script.inputs k other other there)

    differ : (same : Bool) (k : ℕ) (other : Input) → k < i → slice_get script.inputs k ≡ Some other → bytes_eq other.name input.name ≡ same → same ≡ false
    differ false k other below there is = refl
    differ true k other below there is =
        let within : i < length script.inputs = slice_get_within script.inputs i input at in
        let inside : i < length (names_of script.inputs script.steps) =
        omega (arith, length-append (map input_name script.inputs) (map (λ step. step.name) script.steps), length-map script.inputs input_name) in
        absurd (sound.distinct k i [] below inside (named k other there ∙ (bytes_eq-Decides other.name input.name).0 is ∙ sym (named i input at)))

    others : FailsBefore (λ other. bytes_eq other.name input.name) script.inputs i
    others k other below there = differ (bytes_eq other.name input.name) k other below there refl

pub own_kind : (script : Script) (i : ℕ) (input : Input) → IsSound script → slice_get script.inputs i ≡ Some input → kind_at script (input_named script input.name) ≡ input.kind
own_kind script i one sound at =
    let within : i < length script.inputs = slice_get_within script.inputs i one at in
    ap (kind_at script) (own_place script i one sound at)
    ∙ get_or-map (λ (x : Input). x.kind) script.inputs i one input.Cipher within
    ∙ ap (λ (x : Input). x.kind) (get_or_from_slice_get script.inputs i one one at)

-- the place of an input's binding
pub place_is : (script : Script) (words : List (List ℕ)) (operands : List Operand) (i : ℕ) (input : Input) (place : ℕ) → IsSound script → CanRunOn script words operands
    → slice_get script.inputs i ≡ Some input → place_bound (bound_names words) input.name ≡ Some place → IsPlaceOf script words operands input place
place_is script words operands i one place sound can at placed =
    let names = bound_names words in
    let found = position-Some (λ other. bytes_eq other one.name) names place [] placed in
    let inside : place < length operands = omega (arith, found.0, length-bound_names words, can.count) in
    let word : 3 + place - 3 ≡ place = omega arith in
    let named : binding_name (word_at words (3 + place)) ≡ one.name =
    name_at words (3 + place) (omega arith) (omega (arith, can.count)) ∙ ap (λ (n : ℕ). get_or names n []) word ∙ (bytes_eq-Decides (get_or names place []) one.name).0 found.1 in
    record {
      placed = placed;
      within = inside;
      fits = λ operand there.
          subst (λ kind. FitsKind script.set kind operand) (own_kind script i one sound at)
          (subst (λ name. FitsKind script.set (kind_at script (input_named script name)) operand) named (can.inputs place operand there));
    }

-- ---- what is bound

operand_at : (words : List (List ℕ)) (planned : List bindings.Operand) (one : Input) (place : ℕ) → place_bound (bound_names words) one.name ≡ Some place
    → slice_index_or planned place (bound_values []) ≡ operand_of (bound_names words) planned one
operand_at words planned one place placed = sym (ap (λ (found : Option ℕ). slice_index_or planned (unwrap_or found 0) (bound_values [])) placed)

content_held : (files : Files) (name : List ℕ) (head : Head) (planned : bindings.Operand) → IsOperandAt files name (Cipher head) planned
    → HasContentAt files name head (content_of planned)
content_held files name head (bound_cipher content) is = is
content_held files name head (bound_values values) is = absurd is

values_seen : (listed : Vec ℕ Global) (planned : bindings.Operand) → IsSeen (Values listed) planned → values_in planned ≡ listed.items
values_seen listed (bound_cipher content) is = absurd is
values_seen listed (bound_values values) is = sym is

content_stated : (planned : List bindings.Operand) (place : ℕ) (head : Head) (one : bindings.Operand) → slice_index_or planned place (bound_values []) ≡ one → IsSeen (Cipher head) one
    → IsStatedBy planned (record { word = 3 + place; head = head }) (content_of one)
content_stated planned place head (bound_cipher content) is seen =
    let same : 3 + place - 3 ≡ place = omega arith in
    record { named = ap (λ (p : ℕ). slice_index_or planned p (bound_values [])) same ∙ is; states = seen }
content_stated planned place head (bound_values values) is seen = absurd seen

-- a cipher at the place of a cipher input's binding
pub cipher_is : (script : Script) (words : List (List ℕ)) (operands : List Operand) (one : Input) (place : ℕ) (head : Head) → CanRunOn script words operands
    → IsPlaceOf script words operands one place → one.kind ≡ input.Cipher → slice_get operands place ≡ Some (Cipher head)
    → IsCipherOf script words operands one (record { word = 3 + place; head = head })
cipher_is script words operands one place head can is kind at =
    let fits = subst (λ k. FitsKind script.set k (Cipher head)) kind (is.fits (Cipher head) at) in
    let matches = can.ciphers place head at in
    record {
      bound = record {
        rules = fits.0;
        is_cipher = fits.1;
        of_set = matches.0;
        two_parts = matches.1;
        behind = omega arith;
        within = omega (arith, is.within, can.count);
      };
      stated = λ planned seen.
          content_stated planned place head (operand_of (bound_names words) planned one) (operand_at words planned one place is.placed)
          (subst (IsSeen (Cipher head)) (operand_at words planned one place is.placed) (seen.each place (Cipher head) at));
      held = λ files planned are.
          content_held files (binding_file (word_at words (3 + place))) head (operand_of (bound_names words) planned one)
          (subst (IsOperandAt files (binding_file (word_at words (3 + place))) (Cipher head)) (operand_at words planned one place is.placed) (are.each place (Cipher head) at));
    }

-- no values stand at the place of a cipher input's binding, and no cipher at that of a plain input's
pub no_values : (script : Script) (words : List (List ℕ)) (operands : List Operand) (one : Input) (place : ℕ) (listed : Vec ℕ Global)
    → IsPlaceOf script words operands one place → one.kind ≡ input.Cipher → slice_get operands place ≡ Some (Values listed) → ⊥
no_values script words operands one place listed is kind at = subst (λ k. FitsKind script.set k (Values listed)) kind (is.fits (Values listed) at)

-- values at the place of a plain input's binding
pub values_are : (script : Script) (words : List (List ℕ)) (operands : List Operand) (one : Input) (place : ℕ)
    → IsPlaceOf script words operands one place → one.kind ≡ input.Plain → AreValuesOf script words operands one place
values_are script words operands one place is kind =
    let there = element_there operands place is.within in
    of_operand there.0 there.1
  where
    of_operand : (operand : Operand) → slice_get operands place ≡ Some operand → AreValuesOf script words operands one place
    of_operand (Cipher head) at = absurd (subst (λ k. FitsKind script.set k (Cipher head)) kind (is.fits (Cipher head) at))
    of_operand (Values listed) at = record {
      listed = listed;
      there = at;
      values = subst (λ k. FitsKind script.set k (Values listed)) kind (is.fits (Values listed) at);
      is = λ planned seen.
          values_seen listed (operand_of (bound_names words) planned one)
          (subst (IsSeen (Values listed)) (operand_at words planned one place is.placed) (seen.each place (Values listed) at));
    }

-- ---- lists in order of declaration

zip_more : {A B : Type 0} (R : A → B → Type 0) (xs : List A) (ys : List B) (x : A) (y : B) → AllZip R xs ys → R x y → AllZip R (xs ++ x ∷ []) (ys ++ y ∷ [])
zip_more R [] [] x y all one = (one, tt)
zip_more R [] (b ∷ ys) x y all one = absurd all
zip_more R (a ∷ xs) [] x y all one = absurd all
zip_more R (a ∷ xs) (b ∷ ys) x y all one = (all.0, zip_more R xs ys x y all.1 one)

-- the next input is of the kind in question
pub zip_passed : {B : Type 0} (R : Input → B → Type 0) (test : Input → Bool) (inputs : List Input) (i : ℕ) (one : Input) (found : List B) (y : B) → slice_get inputs i ≡ Some one
    → test one ≡ true → AllZip R (filter test (take i inputs)) found → R one y → AllZip R (filter test (take (i + 1) inputs)) (found ++ y ∷ [])
zip_passed R test inputs i one found y at passes all is =
    let within : i < length inputs = slice_get_within inputs i one at in
    let more : filter test (take (i + 1) inputs) ≡ filter test (take i inputs) ++ one ∷ [] =
    filter_more test inputs i one within
    ∙ ap (λ (x : Input). filter test (take i inputs) ++ cond (test x) (x ∷ []) []) (get_or_from_slice_get inputs i one one at)
    ∙ ap (λ (b : Bool). filter test (take i inputs) ++ cond b (one ∷ []) []) passes in
    subst (λ (xs : List Input). AllZip R xs (found ++ y ∷ [])) (sym more) (zip_more R (filter test (take i inputs)) found one y all is)

-- the next input isn't
pub zip_failed : {B : Type 0} (R : Input → B → Type 0) (test : Input → Bool) (inputs : List Input) (i : ℕ) (one : Input) (found : List B) → slice_get inputs i ≡ Some one
    → test one ≡ false → AllZip R (filter test (take i inputs)) found → AllZip R (filter test (take (i + 1) inputs)) found
zip_failed R test inputs i one found at fails all =
    let within : i < length inputs = slice_get_within inputs i one at in
    let same : filter test (take (i + 1) inputs) ≡ filter test (take i inputs) =
    filter_more test inputs i one within
    ∙ ap (λ (x : Input). filter test (take i inputs) ++ cond (test x) (x ∷ []) []) (get_or_from_slice_get inputs i one one at)
    ∙ ap (λ (b : Bool). filter test (take i inputs) ++ cond b (one ∷ []) []) fails
    ∙ append-nil (filter test (take i inputs)) in
    subst (λ (xs : List Input). AllZip R xs found) (sym same) all

kind_of_cipher : (kind : InputKind) → kind ≡ input.Cipher → (elim kind as (λ _. Bool) [ input.Cipher ↦ true | input.Plain ↦ false ]) ≡ true
kind_of_cipher input.Cipher is = refl
kind_of_cipher input.Plain is = absurd (cc)

kind_of_plain : (kind : InputKind) → kind ≡ input.Plain → (elim kind as (λ _. Bool) [ input.Cipher ↦ true | input.Plain ↦ false ]) ≡ false
kind_of_plain input.Plain is = refl
kind_of_plain input.Cipher is = absurd (cc)

plain_kind : (kind : InputKind) → kind ≡ input.Plain → (elim kind as (λ _. Bool) [ input.Cipher ↦ false | input.Plain ↦ true ]) ≡ true
plain_kind input.Plain is = refl
plain_kind input.Cipher is = absurd (cc)

cipher_kind : (kind : InputKind) → kind ≡ input.Cipher → (elim kind as (λ _. Bool) [ input.Cipher ↦ false | input.Plain ↦ true ]) ≡ false
cipher_kind input.Cipher is = refl
cipher_kind input.Plain is = absurd (cc)

-- the tests of an input, by its kind
pub cipher_is_cipher : (one : Input) → one.kind ≡ input.Cipher → is_cipher one ≡ true
cipher_is_cipher one is = kind_of_cipher one.kind is

pub plain_no_cipher : (one : Input) → one.kind ≡ input.Plain → is_cipher one ≡ false
plain_no_cipher one is = kind_of_plain one.kind is

pub plain_is_plain : (one : Input) → one.kind ≡ input.Plain → is_plain one ≡ true
plain_is_plain one is = plain_kind one.kind is

pub cipher_no_plain : (one : Input) → one.kind ≡ input.Cipher → is_plain one ≡ false
cipher_no_plain one is = cipher_kind one.kind is

zip_left : {A B : Type 0} (R : A → B → Type 0) (xs : List A) (ys : List B) (p : ℕ) (y : B) → AllZip R xs ys → slice_get ys p ≡ Some y
    → (x : A) × ((slice_get xs p ≡ Some x) × R x y)
zip_left R [] [] p y all at = absurd (cc)
zip_left R [] (b ∷ ys) p y all at = absurd all
zip_left R (a ∷ xs) [] p y all at = absurd all
zip_left R (a ∷ xs) (b ∷ ys) zero y all at = let same : b ≡ y = cc in (a, (refl, subst (R a) same all.0))
zip_left R (a ∷ xs) (b ∷ ys) (suc p) y all at = zip_left R xs ys p y all.1 at

made_at : {X Y : Type 0} (f : X → Y) (xs : List X) (p : ℕ) (x : X) (default : Y) → slice_get xs p ≡ Some x → slice_index_or (map f xs) p default ≡ f x
made_at f xs p x default at = get_or-map f xs p x default (slice_get_within xs p x at) ∙ ap f (get_or_from_slice_get xs p x x at)

pub ciphers_bound : (script : Script) (words : List (List ℕ)) (operands : List Operand) (ciphers : List BoundCipher)
    → AllZip (IsCipherOf script words operands) (cipher_inputs script.inputs) ciphers → (r : ℕ) (cipher : BoundCipher) → slice_get ciphers r ≡ Some cipher
    → MayBeBound script.set (length words) cipher
ciphers_bound script words operands ciphers all r cipher at = (zip_left (IsCipherOf script words operands) (cipher_inputs script.inputs) ciphers r cipher all at).1.1.bound

pub ciphers_held : (script : Script) (words : List (List ℕ)) (operands : List Operand) (ciphers : List BoundCipher)
    → AllZip (IsCipherOf script words operands) (cipher_inputs script.inputs) ciphers → (files : Files) (planned : List bindings.Operand)
    → AreOperands words files operands planned → AreHeld words files ciphers (ciphers_of script (bound_names words) planned)
ciphers_held script words operands ciphers all files planned are =
    let content = λ (one : Input). content_of (operand_of (bound_names words) planned one) in
    record {
      count = AllZip-long (IsCipherOf script words operands) (cipher_inputs script.inputs) ciphers all ∙ sym (length-map (cipher_inputs script.inputs) content);
      each = λ r cipher at.
          let one = zip_left (IsCipherOf script words operands) (cipher_inputs script.inputs) ciphers r cipher all at in
          subst (HasContentAt files (binding_file (word_at words cipher.word)) cipher.head) (sym (made_at content (cipher_inputs script.inputs) r one.0 no_content one.1.0))
          (one.1.1.held files planned are);
    }

pub ciphers_stated : (script : Script) (words : List (List ℕ)) (operands : List Operand) (ciphers : List BoundCipher)
    → AllZip (IsCipherOf script words operands) (cipher_inputs script.inputs) ciphers → (planned : List bindings.Operand)
    → AreSeen operands planned → AreStated planned ciphers (ciphers_of script (bound_names words) planned)
ciphers_stated script words operands ciphers all planned seen =
    let content = λ (one : Input). content_of (operand_of (bound_names words) planned one) in
    record {
      count = AllZip-long (IsCipherOf script words operands) (cipher_inputs script.inputs) ciphers all ∙ sym (length-map (cipher_inputs script.inputs) content);
      each = λ r cipher at.
          let one = zip_left (IsCipherOf script words operands) (cipher_inputs script.inputs) ciphers r cipher all at in
          subst (IsStatedBy planned cipher) (sym (made_at content (cipher_inputs script.inputs) r one.0 no_content one.1.0)) (one.1.1.stated planned seen);
    }

pub plains_bound : (script : Script) (words : List (List ℕ)) (operands : List Operand) (places : List ℕ)
    → AllZip (AreValuesOf script words operands) (plain_inputs script.inputs) places → (p place : ℕ) → slice_get places p ≡ Some place
    → ArePlainValues script words operands p place
plains_bound script words operands places all p place at =
    let one = zip_left (AreValuesOf script words operands) (plain_inputs script.inputs) places p place all at in
    record {
      listed = one.1.1.listed;
      there = one.1.1.there;
      values = one.1.1.values;
      is = λ planned seen.
          made_at (λ (x : Input). values_in (operand_of (bound_names words) planned x)) (plain_inputs script.inputs) p one.0 [] one.1.0 ∙ one.1.1.is planned seen;
    }
