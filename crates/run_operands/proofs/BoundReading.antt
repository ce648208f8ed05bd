-- The files of bindings, one after the other.
use Rattle.std.proofs.Common.{◌≡◌, ⊎_elim, ℕ, zero, suc, ◌+◌, ◌-◌, ◌<◌, ◌≤◌, List, [], ◌∷◌, ◌++◌, length, get_or, drop, refl, sym, ◌∙◌, ap, subst, arith}
use Rattle.std.specs.Prelude.{Vec, slice_get, slice_index_or, Option, Some, Result, Ok, Err}
use Rattle.std.specs.Option.{ForSome}
use Rattle.std.proofs.lemmas.Bool.{cases_lt}
use Rattle.std.proofs.lemmas.Grind.{common_steps}
use Rattle.std.proofs.lemmas.List.{length-append, length-drop, get_or-drop, append-nil, append_assoc, get_or_append_left}
use Rattle.std.proofs.lemmas.Option.{unwrap_or-slice_get, slice_get_within}
use Rattle.std.proofs.Math.Seq.{get_or-append_right}
use Rattle.std.specs.declared.alloc.Global.{Global}
use Rattle.outer_io.specs.Store.{Files, StoreState, OnlyReads}
use Rattle.set_table.specs.declared.SetName.{SetName}
use Rattle.file_model.specs.FileText.{FileContent}
use Rattle.file_model.specs.Heads.{IsHeadOf}
use Rattle.file_model.specs.declared.head.Head.{Head}
use Rattle.file_model.specs.declared.head.Wanted.TheVariants as wanted
use Rattle.script_text.specs.declared.script.InputKind.{InputKind}
use Rattle.script_text.specs.declared.script.InputKind.TheVariants as input
use Rattle.script_text.specs.Scripts.{Script}
use Rattle.command_words.specs.Form.{form_of, binding_name, binding_file}
use Rattle.command_words.specs.Line.{word_at}
use Rattle.command_words.specs.declared.form.Form.TheVariants.{Run}
use Rattle.command_words.specs.declared.status.Status.{Status}
use Rattle.command_model.specs.Bindings as bindings
use Rattle.command_model.specs.Bindings.{bindings_of, bound_cipher, bound_values, input_named, kind_at}
use Rattle.command_model.specs.Reading.{Reading, own_file, values_file}
use Rattle.command_model.specs.Plan.{reading_of_kind, reading_of_binding, reading_of_bindings}
use Rattle.command_model.specs.Answers.{IsOperandOf}
use Rattle.command_stages.specs.Stages.{Says, Way, Took}
use Rattle.command_stages.proofs.Ways.{taken_on, reread, has_content}
use Rattle.run_operands.specs.BoundFiles.{IsSeen, AreSeen, IsBoundAt, AreBound, IsOperandAt, AreOperands}
use Rattle.run_operands.specs.BoundReads.{OperandCame, MayBeReread}
use Rattle.run_operands.specs.declared.bound_files.Operand.TheVariants.{Cipher, Values}
use Rattle.run_operands.specs.declared.bound_files.Operand.{Operand}
use Rattle.run_operands.proofs.Places.{each_push}

-- ---- one file
-- a cipher was scanned for a cipher input, or its file was refused
pub cipher_came : (words : List (List ℕ)) (set : SetName) (name : List ℕ) (word : ℕ) (rest : bindings.Operand → Reading) (begun old new : StoreState) (head : Head)
    → IsOperandOf (form_of words) (length words) word → Way words (reading_of_kind set input.Cipher name word rest) begun old
    → Took name word (own_file wanted.Cipher) (λ content head. IsHeadOf head content) old new (Ok head) → OperandCame words set input.Cipher name word rest begun new (Ok (Cipher head))
cipher_came words set name word rest begun old new head named way took =
    let (content, (states, held)) = took.ok in
    record {
      ok = (
        bound_cipher content,
        (states, (λ files told. (content, (refl, held.says files (way.keeps.files ∙ told))), (reread way named, taken_on content way took.keeps held))),
      );
      err = tt;
    }

-- values were read for a plain input, or their file was refused
pub values_came : (words : List (List ℕ)) (set : SetName) (name : List ℕ) (word : ℕ) (rest : bindings.Operand → Reading) (begun old new : StoreState) (listed : Vec ℕ Global)
    → Way words (reading_of_kind set input.Plain name word rest) begun old
    → Took name word (values_file set) (λ values v. v.items ≡ values) old new (Ok listed) → OperandCame words set input.Plain name word rest begun new (Ok (Values listed))
values_came words set name word rest begun old new listed way took =
    let (values, (same, held)) = took.ok in
    record {
      ok = (
        bound_values values,
        (same, (λ files told. (values, (refl, held.says files (way.keeps.files ∙ told))), (tt, taken_on values way took.keeps held))),
      );
      err = tt;
    }

-- an operand that was seen, of a file that says it
operand_is : (files : Files) (set : SetName) (kind : InputKind) (name : List ℕ) (word : ℕ) (operand : Operand) (one : bindings.Operand) → IsSeen operand one
    → IsBoundAt files set kind name word one → IsOperandAt files name operand one
operand_is files set input.Cipher name word (Cipher head) (bound_cipher content) seen (said, (is, says)) =
    let same : said ≡ content = cc in has_content {word = word} {wanted = wanted.Cipher} seen (subst (Says files name word (own_file wanted.Cipher)) same says)
operand_is files set input.Plain name word (Cipher head) (bound_cipher content) seen (said, (is, says)) = absurd (cc)
operand_is files set kind name word (Values listed) (bound_values values) seen bound = seen
operand_is files set kind name word (Cipher head) (bound_values values) seen bound = absurd seen
operand_is files set kind name word (Values listed) (bound_cipher content) seen bound = absurd seen

-- and all of them
pub operands_are : (script : Script) (words : List (List ℕ)) (files : Files) (operands : List Operand) (planned : List bindings.Operand) → AreSeen operands planned
    → AreBound script words files planned → AreOperands words files operands planned
operands_are script words files operands planned seen bound = record {
  count = seen.count;
  each = λ p operand at.
      operand_is files script.set (kind_at script (input_named script (binding_name (word_at words (3 + p))))) (binding_file (word_at words (3 + p))) (3 + p) operand
      (slice_index_or planned p (bound_values [])) (seen.each p operand at) (bound.each p (subst (λ (n : ℕ). p < n) seen.count (slice_get_within operands p operand at)));
}

-- ---- file after file
-- the bindings from a word on are this word and those behind it
bindings_from : (words : List (List ℕ)) (word : ℕ) → 3 ≤ word → word < length words
    → drop (word - 3) (bindings_of words) ≡ word_at words word ∷ drop (word + 1 - 3) (bindings_of words)
bindings_from words word behind within =
    let bindings = bindings_of words in
    let i = word - 3 in
    let long : length bindings ≡ length words - 3 = length-drop 3 words in
    let inside : i < length bindings = omega arith in
    let place : 3 + i ≡ word = omega arith in
    let next : i + 1 ≡ word + 1 - 3 = omega arith in
    let here : get_or bindings i [] ≡ word_at words word =
    get_or-drop 3 words i [] ∙ ap (λ (n : ℕ). get_or words n []) place ∙ sym (unwrap_or-slice_get words word []) in
    let from : drop i bindings ≡ get_or bindings i [] ∷ drop (i + 1) bindings = grind (arith, common_steps) in
    from ∙ ap (λ (w : List ℕ). w ∷ drop (i + 1) bindings) here ∙ ap (λ (n : ℕ). word_at words word ∷ drop n bindings) next

-- the rest of the reading behind an operand that a word binds
abbrev pub behind : Script → List (List ℕ) → (List bindings.Operand → Reading) → (List bindings.Operand → List bindings.Operand) → ℕ → bindings.Operand → Reading
behind script words rest joined word one = reading_of_bindings script (word + 1) (drop (word + 1 - 3) (bindings_of words)) (λ later. rest (joined (one ∷ later)))

-- the files of the bindings before a word were read, on the way to the rest
pub record Progress (script : Script) (words : List (List ℕ)) (rest : List bindings.Operand → Reading) (begun now : StoreState) (word : ℕ) (operands : List Operand) : Type 0 where
  pub planned : List bindings.Operand
  pub seen : AreSeen operands planned
  pub bound : ForSome begun.files (λ files. AreBound script words files planned)
  pub again : (p : ℕ) → p < length planned → MayBeReread words begun (3 + p) (slice_index_or planned p (bound_values []))
  pub joined : List bindings.Operand → List bindings.Operand
  pub joined_is : (later : List bindings.Operand) → joined later ≡ planned ++ later
  pub way : Way words (reading_of_bindings script word (drop (word - 3) (bindings_of words)) (λ later. rest (joined later))) begun now

-- none was read yet
pub progress_begun : (script : Script) (words : List (List ℕ)) (rest : List bindings.Operand → Reading) (begun now : StoreState)
    → Way words (reading_of_bindings script 3 (bindings_of words) rest) begun now → Progress script words rest begun now 3 []
progress_begun script words rest begun now way = record {
  planned = [];
  seen = record { count = refl; each = λ p operand at. absurd (cc) };
  bound = λ files told. record { each = λ p within. absurd (omega arith) };
  again = λ p within. absurd (omega arith);
  joined = λ later. later;
  joined_is = λ later. refl;
  way = way;
}

-- the next file is that of the next word
pub progress_next : (script : Script) (words : List (List ℕ)) (rest : List bindings.Operand → Reading) (begun now : StoreState) (word : ℕ) (operands : List Operand) → 3 ≤ word → word < length words
    → (progress : Progress script words rest begun now word operands)
    → Way words (reading_of_binding script word (word_at words word) (behind script words rest progress.joined word)) begun now
progress_next script words rest begun now word operands from within progress =
    subst (λ (bs : List (List ℕ)). Way words (reading_of_bindings script word bs (λ later. rest (progress.joined later))) begun now) (bindings_from words word from within) progress.way

-- one was read more
pub progress_more : (script : Script) (words : List (List ℕ)) (rest : List bindings.Operand → Reading) (begun now later : StoreState) (word : ℕ) (operands : List Operand) (operand : Operand)
    → 3 + length operands ≡ word → (progress : Progress script words rest begun now word operands)
    → OperandCame words script.set (kind_at script (input_named script (binding_name (word_at words word)))) (binding_file (word_at words word)) word
    (behind script words rest progress.joined word) begun later (Ok operand) → Progress script words rest begun later (word + 1) (operands ++ operand ∷ [])
progress_more script words rest begun now later word operands operand place progress came =
    let (one, (seen, (bound, (again, way)))) = came.ok in
    let count = progress.seen.count in
    record {
      planned = progress.planned ++ one ∷ [];
      seen = record {
        count = length-append operands (operand ∷ []) ∙ ap (λ (n : ℕ). n + 1) count ∙ sym (length-append progress.planned (one ∷ []));
        each = each_push (λ p o. IsSeen o (slice_index_or (progress.planned ++ one ∷ []) p (bound_values []))) operands operand
            (λ p o at. subst (IsSeen o) (sym (get_or_append_left progress.planned (one ∷ []) (bound_values []) p (subst (λ (n : ℕ). p < n) count (slice_get_within operands p o at))))
            (progress.seen.each p o at))
            (subst (IsSeen operand) (sym (last progress.planned one (length operands) count)) seen);
      };
      bound = λ files told. record {
        each = λ p within. ⊎_elim
            (λ (before : p < length progress.planned). subst (At files p) (sym (get_or_append_left progress.planned (one ∷ []) (bound_values []) p before)) ((progress.bound files told).each p before))
            (λ (past : length progress.planned ≤ p).
            let here : p ≡ length operands = omega (arith, within, length-append progress.planned (one ∷ []), count) in
            let at : 3 + p ≡ word = omega (arith, here, place) in
            subst (At files p) (sym (ap (λ (q : ℕ). slice_index_or (progress.planned ++ one ∷ []) q (bound_values [])) here ∙ last progress.planned one (length operands) count))
            (subst (λ (w : ℕ). IsBoundAt files script.set (kind_at script (input_named script (binding_name (word_at words w)))) (binding_file (word_at words w)) w one) (sym at) (bound files told)))
            (cases_lt p (length progress.planned));
      };
      again = λ p within. ⊎_elim
          (λ (before : p < length progress.planned). subst (MayBeReread words begun (3 + p)) (sym (get_or_append_left progress.planned (one ∷ []) (bound_values []) p before)) (progress.again p before))
          (λ (past : length progress.planned ≤ p).
          let here : p ≡ length operands = omega (arith, within, length-append progress.planned (one ∷ []), count) in
          let at : 3 + p ≡ word = omega (arith, here, place) in
          subst (MayBeReread words begun (3 + p)) (sym (ap (λ (q : ℕ). slice_index_or (progress.planned ++ one ∷ []) q (bound_values [])) here ∙ last progress.planned one (length operands) count))
          (subst (λ (w : ℕ). MayBeReread words begun w one) (sym at) again))
          (cases_lt p (length progress.planned));
      joined = λ later. progress.joined (one ∷ later);
      joined_is = λ later. progress.joined_is (one ∷ later) ∙ sym (append_assoc progress.planned (one ∷ []) later);
      way = way;
    }
  where
    At : Files → ℕ → bindings.Operand → Type 0
    At files p = IsBoundAt files script.set (kind_at script (input_named script (binding_name (word_at words (3 + p))))) (binding_file (word_at words (3 + p))) (3 + p)

    last : (planned : List bindings.Operand) (one : bindings.Operand) (n : ℕ) → n ≡ length planned → slice_index_or (planned ++ one ∷ []) n (bound_values []) ≡ one
    last planned one n count =
        get_or-append_right planned (one ∷ []) n (bound_values []) (omega (arith, count)) ∙ ap (λ (i : ℕ). get_or (one ∷ []) i (bound_values [])) (zero_is n planned count)
      where
        zero_is : (n : ℕ) (planned : List bindings.Operand) → n ≡ length planned → n - length planned ≡ 0
        zero_is n planned count = omega (arith, count)

-- all were read
pub progress_ended : (script : Script) (words : List (List ℕ)) (rest : List bindings.Operand → Reading) (begun now : StoreState) (word : ℕ) (operands : List Operand) → length words ≡ word → 3 ≤ word
    → (progress : Progress script words rest begun now word operands) → Way words (rest progress.planned) begun now
progress_ended script words rest begun now word operands all from progress =
    let none : drop (word - 3) (bindings_of words) ≡ [] = grind (arith, common_steps) in
    subst (λ (os : List bindings.Operand). Way words (rest os) begun now) (progress.joined_is [] ∙ append-nil progress.planned)
    (subst (λ (bs : List (List ℕ)). Way words (reading_of_bindings script word bs (λ later. rest (progress.joined later))) begun now) none progress.way)

-- ---- other names of one thing
-- what came of a file came of it by equal sets, kinds and names
pub came_as : (words : List (List ℕ)) (word : ℕ) (rest : bindings.Operand → Reading) (begun old new : StoreState) (result : Result Operand Status) (set other_set : SetName)
    (kind other_kind : InputKind) (name other_name : List ℕ) → set ≡ other_set → kind ≡ other_kind → name ≡ other_name
    → (Way words (reading_of_kind other_set other_kind other_name word rest) begun old → OperandCame words other_set other_kind other_name word rest begun new result)
    → Way words (reading_of_kind set kind name word rest) begun old → OperandCame words set kind name word rest begun new result
came_as words word rest begun old new result set other_set kind other_kind name other_name set_is kind_is name_is came =
    subst (λ (z : SetName). Came z kind name) (sym set_is) (subst (λ (k : InputKind). Came other_set k name) (sym kind_is) (subst (λ (n : List ℕ). Came other_set other_kind n) (sym name_is) came))
  where
    Came : SetName → InputKind → List ℕ → Type 0
    Came z k n = Way words (reading_of_kind z k n word rest) begun old → OperandCame words z k n word rest begun new result
