use Rattle.std.proofs.Common.{◌≡◌, ◌⊎◌, inr, ◌+◌, ◌-◌, ◌<◌, ◌≤◌, ℕ, All, List, [], length, map, refl, sym, subst, ap, ◌∙◌, arith}
use Rattle.std.specs.Prelude.{slice_get, slice_index, slice_index_or, Some}
use Rattle.std.specs.Option.{ForSome}
use Rattle.std.specs.String.{string_bytes}
use Rattle.std.proofs.lemmas.List.{length-drop, length-map}
use Rattle.std.proofs.lemmas.Result.{err_from_is_err_and}
use Rattle.outer_io.specs.Store.{Files, StoreState, OnlyReads}
use Rattle.bound_num.specs.declared.Bound.{Bound}
use Rattle.file_model.specs.FileText.{FileContent}
use Rattle.file_model.specs.declared.head.Head.{Head}
use Rattle.script_text.specs.Scripts.{Script}
use Rattle.noise_check.specs.Numbers.{numbers}
use Rattle.noise_check.specs.Verdicts.{verdict_of}
use Rattle.command_words.specs.Line.{word_at}
use Rattle.command_words.specs.declared.form.Form.TheVariants as form
use Rattle.command_model.specs.Bindings as bindings
use Rattle.command_model.specs.Bindings.{Run, bound_cipher, bound_values, bindings_of, bound_names, ciphers_of, first_key_id, plains_of}
use Rattle.command_model.specs.Reading.{Output, Reading, done, refused, running, script_file}
use Rattle.command_model.specs.Plan.{judged, run_of, stated_bounds}
use Rattle.command_stages.specs.Stages.{MayReread, Says, Way, Wrote}
use Rattle.command_stages.proofs.Verdicts.{judged_owes}
use Rattle.command_stages.proofs.Ways.{MadeFor, commanded, commanded_stop, stopped_coming, stopped_for_memory}
use Rattle.run_operands.specs.BoundFiles.{AreHeld, AreSeen, AreStated, MayBeBound}
use Rattle.run_operands.specs.BoundReads.{MayBeReread}
use Rattle.run_operands.specs.Ordered.{CanRunOn}
use Rattle.run_operands.specs.declared.bound_files.BoundCipher.{BoundCipher}
use Rattle.run_operands.specs.declared.bound_files.Operand.{Operand}
use Rattle.run_operands.proofs.BoundReading.{operands_are}
use Rattle.bfv_commands.specs.Filled.{AreListed, IsListed}
use Rattle.bfv_commands.specs.RunStages.{AreMatched, AreOfKey, IsRunOf, IsWordOf, bounds_of, run_with}
use Rattle.bfv_commands.proofs.RunItems.{item_ran}
use Rattle.bfv_commands.proofs.RunOutputs.{all_there, listed_there, listed_values, of_one_key, stated_of_heads}
use Rattle.bfv_commands.proofs.run_output.write_run.Goals as goal

-- ---- what is left to do is the run on the operands that match
-- the judgement on the bounds that the ciphers state
judgement : (script : Script) (words : List (List ℕ)) (begun now : StoreState) (operands : List Operand) (ciphers : List BoundCipher) → (m : AreMatched script words begun now operands)
    → AreStated m.planned ciphers (ciphers_of script (bound_names words) m.planned)
    → Way words (judged script (verdict_of script (numbers (bounds_of ciphers))) (λ bound. running (run_of script (bound_names words) m.planned bound))) begun now
judgement script words begun now operands ciphers m stated =
    subst (λ (bounds : List ℕ). Way words (judged script (verdict_of script bounds) (λ bound. running (run_of script (bound_names words) m.planned bound))) begun now)
    (stated_of_heads ciphers (ciphers_of script (bound_names words) m.planned) stated.count (λ r cipher there. (stated.each r cipher there).states)) m.way

-- the file of a cipher may be read again
again : (script : Script) (words : List (List ℕ)) (begun now : StoreState) (operands : List Operand) (ciphers : List BoundCipher) (m : AreMatched script words begun now operands)
    → length operands + 3 ≡ length words → ((r : ℕ) (cipher : BoundCipher) → slice_get ciphers r ≡ Some cipher → MayBeBound script.set (length words) cipher)
    → AreStated m.planned ciphers (ciphers_of script (bound_names words) m.planned) → (word : ℕ) → IsWordOf ciphers word → MayReread words begun word
again script words begun now operands ciphers m count bound stated word of =
    let may = bound of.place of.cipher of.there in
    let at = (stated.each of.place of.cipher of.there).named in
    let below : of.cipher.word - 3 < length m.planned = let within = may.within in let behind = may.behind in let seen = m.seen.count in omega arith in
    let again = subst (MayBeReread words begun (3 + (of.cipher.word - 3))) at (m.again (of.cipher.word - 3) below) in
    subst (MayReread words begun) {x = 3 + (of.cipher.word - 3)} {y = word} (let behind = may.behind in let is = of.is in omega arith) again

pub accepted_output-requires-clause-bound : goal.accepted_output-requires-clause-bound
accepted_output-requires-clause-bound g c =
    let set = c.args.script.now.set in
    let count = length c.args.words.now in
    subst (λ (ciphers : List BoundCipher). (r : ℕ) (cipher : BoundCipher) → slice_get ciphers r ≡ Some cipher → MayBeBound set count cipher) (sym c.deref.ensures.value) c.in-Ok.ensures.bound

pub returns-in_err-bound : goal.returns-in_err-bound
returns-in_err-bound g c = λ begun said m.
    let words = map string_bytes c.args.words.now in
    let script = c.args.script.now in
    let now = g.S.Store.state c.args.store.now in
    let output : Bound → Output = λ bound. running (run_of script (bound_names words) m.planned bound) in
    let way = subst (λ (ciphers : List BoundCipher). Way words (judged script (verdict_of script (numbers (bounds_of ciphers))) output) begun now) (sym c.deref.ensures.value)
    (judgement script words begun now c.args.operands.now c.in-Ok.ciphers.items m (c.in-Ok.ensures.stated m.planned m.seen)) in
    let status = c.in_err-bound.field-0.0 in
    let p = err_from_is_err_and c.from_residual.result c.from_residual.ensures.1 in
    rw (p.1, p.2) (commanded_stop status m.way.keeps
    (stopped_coming way (c.in_err-bound.ensures.came output).err (judged_owes script (verdict_of script (numbers (bounds_of c.deref.result.now))) output status)))

pub write_output-requires-clause-bound : goal.write_output-requires-clause-bound
write_output-requires-clause-bound g c =
    let may = MayBeBound c.args.script.now.set (length c.args.words.now) in
    subst (All may) (sym c.deref-2.ensures.value) (all_there may c.in-Ok.ciphers.items c.in-Ok.ensures.bound)

pub write_output-requires-clause-listed : goal.write_output-requires-clause-listed
write_output-requires-clause-listed g c =
    let script = c.args.script.now in
    let operands = c.args.operands.now in
    subst (λ (places : List ℕ). (p : ℕ) → p < length places → IsListed script.set (slice_get operands (slice_index places p))) (sym c.deref-3.ensures.value)
    (listed_there script (map string_bytes c.args.words.now) operands c.in-Ok-plain_places.places.items c.in-Ok-plain_places.ensures.values)

pub returns : goal.returns
returns g c = λ begun said m.
    let words = map string_bytes c.args.words.now in
    let script = c.args.script.now in
    let operands = c.args.operands.now in
    let names = bound_names words in
    let now = g.S.Store.state c.args.store.now in
    let head = c.output_head-head.result in
    let ciphers = c.in-Ok.ciphers.items in
    let contents = ciphers_of script names m.planned in
    let plains = plains_of script names m.planned in
    let output : Bound → Output = λ bound. running (run_of script names m.planned bound) in
    let stated = c.in-Ok.ensures.stated m.planned m.seen in
    let head_is = c.output_head-head.ensures.is in
    let of_key : head.id ≡ first_key_id m.planned = ap (λ (h : Head). h.id) head_is ∙ c.key_id.ensures m.planned m.seen in
    let run_is : run_of script names m.planned c.in_ok-bound.bound ≡ run_with script contents plains head =
    ap (run_of script names m.planned) (sym (ap (λ (h : Head). h.bound) head_is))
    ∙ ap (λ (id : List ℕ). record { script = script; ciphers = contents; plains = plains; key_id = id; bound = head.bound }) (sym of_key) in
    let judged_is = ap (λ (found : List BoundCipher). judged script (verdict_of script (numbers (bounds_of found))) output) (sym c.deref.ensures.value) ∙ (c.in_ok-bound.ensures.came output).ok
    ∙ ap (λ (run : Run). done (running run)) run_is in
    let way = subst (λ (rest : Reading). Way words rest begun now) judged_is (judgement script words begun now operands ciphers m stated) in
    let same : ForSome now.files (λ files. AreHeld words files ciphers contents) = λ files told.
    c.in-Ok.ensures.held files m.planned (operands_are script words files operands m.planned m.seen (m.bound files (sym m.way.keeps.files ∙ told))) in
    let keyed = subst (AreOfKey contents) (sym of_key) (of_one_key script m.planned ciphers contents m.matched stated) in
    let listed = subst (λ (places : List ℕ). AreListed operands places plains) (sym c.deref-3.ensures.value)
    (listed_values script words operands m.planned c.in-Ok-plain_places.places.items m.seen c.in-Ok-plain_places.ensures.values) in
    let wrote = subst (λ (found : List BoundCipher). Wrote (word_at words 2) (IsWordOf found) (λ files. AreHeld words files found contents) (IsRunOf (run_with script contents plains head))
    now (g.S.Store.state c.write_output.new.store) c.write_output.result) c.deref-2.ensures.value (c.write_output.ensures contents plains keyed listed) in
    let counted : length operands + 3 ≡ length words = c.requires.matched.count in
    let bound_count : length m.planned ≡ length (bindings_of words) = omega (arith, counted, m.seen.count, length-drop 3 words) in
    commanded form.Run (word_at words 2) c.write_output.result c.requires.form refl way wrote same
    (again script words begun now operands ciphers m counted
    (subst (λ (n : ℕ). (r : ℕ) (cipher : BoundCipher) → slice_get ciphers r ≡ Some cipher → MayBeBound script.set n cipher) (sym (length-map c.args.words.now string_bytes)) c.in-Ok.ensures.bound) stated)
    (λ bytes made. record {
      written = made.is;
      stands = λ files told state stands item is_made.
          item_ran words files state script m.planned c.in_ok-bound.bound bytes item stands (said files told) (m.bound files told) bound_count
          (subst (λ (run : Run). IsRunOf run bytes) (sym run_is) made) is_made;
    })
