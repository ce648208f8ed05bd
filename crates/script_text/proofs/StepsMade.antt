-- Each step finds its operands, and makes the next list.
use Rattle.std.proofs.Common.{◌≡◌, ◌<◌, ◌≤◌, ◌/◌, ℕ, zero, suc, ◌+◌, List, [], ◌∷◌, ◌++◌, length, take, replicate, Some, refl, sym, ap, ◌∙◌, subst, arith, length-take}
use Rattle.std.specs.Prelude.{slice_get, slice_index_or, IfSome}
use Rattle.std.proofs.lemmas.List.{take_more, take_all, length-replicate, get_or_read}
use Rattle.std.proofs.lemmas.List.Elements.{All-push}
use Rattle.std.proofs.lemmas.Option.{get_or_from_slice_get}
use Rattle.set_table.specs.declared.SetName.{SetName}
use Rattle.set_table.specs.declared.SetName.TheVariants.{One16, Toy16, S4096, S8192, S16384}
use Rattle.set_table.specs.Sets.{degree_of, plain_of}
use Rattle.script_text.specs.declared.script.Op.{Op}
use Rattle.script_text.specs.declared.script.Step.{Step}
use Rattle.script_text.specs.declared.script.Shape.{Shape}
use Rattle.script_text.specs.Scripts.{Script, IsSound, Fits, AllFit, registers, shape_made, cipher_inputs, plain_inputs, is_cipher, is_plain, input_shape}
use Rattle.script_text.specs.Value.{value_made, lists_of, lists_in, value_of}
use Rattle.script_text.specs.Evaluating.{IsWithin, AreLists, AreValues}
use Rattle.script_text.proofs.Registers.{length-registers}
use Rattle.script_text.proofs.DraftParts.{registers-push}
use Rattle.script_text.proofs.InputLists.{length-lists_of}

pub degree_halves : (set : SetName) → degree_of set / 2 + degree_of set / 2 ≡ degree_of set
degree_halves One16 = refl
degree_halves Toy16 = refl
degree_halves S4096 = refl
degree_halves S8192 = refl
degree_halves S16384 = refl

-- a step fits the registers before it
pub fits_at : (set : SetName) (plains : ℕ) (shapes : List Shape) (steps : List Step) (i : ℕ) (step : Step) → AllFit set plains shapes steps → slice_get steps i ≡ Some step
    → Fits set plains (registers shape_made shapes (take i steps)) step.op
fits_at set plains shapes [] i step all is = absurd cc
fits_at set plains shapes (first ∷ steps) zero step all is =
    let same : first ≡ step = cc in
    subst (λ (s : Step). Fits set plains shapes s.op) same all.0
fits_at set plains shapes (first ∷ steps) (suc i) step all is = fits_at set plains (shapes ++ shape_made shapes first.op ∷ []) steps i step all.1 is

-- the step at a place
step_at : (steps : List Step) (i : ℕ) (op : Op) → i < length steps → IfSome (slice_get steps i) (λ step. op ≡ step.op) → (step : Step) × (slice_get steps i ≡ Some step) × (op ≡ step.op)
step_at [] i op below is = absurd (omega arith)
step_at (first ∷ steps) zero op below is = (first, refl, is)
step_at (first ∷ steps) (suc i) op below is = step_at steps i op (omega arith) is

count_before : (script : Script) (i : ℕ) → i ≤ length script.steps → length (registers shape_made (replicate (length (cipher_inputs script.inputs)) input_shape) (take i script.steps)) ≡ length (cipher_inputs script.inputs) + i
count_before script i below =
    let all = length-registers shape_made (replicate (length (cipher_inputs script.inputs)) input_shape) (take i script.steps) in
    let ciphers = length-replicate {A = Shape} (length (cipher_inputs script.inputs)) input_shape in
    let taken = length-take i script.steps in
    omega arith

-- the operands of a step are among the lists so far
pub within_at : (script : Script) (i : ℕ) (op : Op) (t plains registers : ℕ) → IsSound script → i < length script.steps → IfSome (slice_get script.steps i) (λ step. op ≡ step.op)
    → t ≡ plain_of script.set → plains ≡ length (plain_inputs script.inputs) → registers ≡ length (cipher_inputs script.inputs) + i → IsWithin t plains registers op
within_at script i op t plains registers sound below is t_is plains_are registers_are =
    let found = step_at script.steps i op below is in
    let fits = fits_at script.set (length (plain_inputs script.inputs)) (replicate (length (cipher_inputs script.inputs)) input_shape) script.steps i found.0 sound.fit found.1 in
    let count = count_before script i (omega arith) in
    rw (t_is, plains_are, registers_are, ← count, found.2) (fits.operands, fits.plain, fits.factor)

-- how many lists there are before a step
pub lists_before : (script : Script) (n t : ℕ) (plains : List (List ℕ)) (values : List ℕ) (i : ℕ) → i ≤ length script.steps
    → length (registers (value_made n t plains) (lists_of is_cipher script.inputs (lists_in n (length script.inputs) values)) (take i script.steps)) ≡ length (cipher_inputs script.inputs) + i
lists_before script n t plains values i below =
    let all = length-registers (value_made n t plains) (lists_of is_cipher script.inputs (lists_in n (length script.inputs) values)) (take i script.steps) in
    let ciphers = length-lists_of is_cipher script.inputs n values in
    let taken = length-take i script.steps in
    omega arith

-- one step more
pub step_made : (n t : ℕ) (plains start lists new : List (List ℕ)) (steps : List Step) (i : ℕ) (op : Op) (list : List ℕ) → i < length steps → IfSome (slice_get steps i) (λ step. op ≡ step.op)
    → lists ≡ registers (value_made n t plains) start (take i steps) → list ≡ value_made n t plains lists op → AreLists n t lists → AreValues n t list → new ≡ lists ++ list ∷ []
    → (new ≡ registers (value_made n t plains) start (take (i + 1) steps)) × AreLists n t new
step_made n t plains start lists new steps i op list below is so_far made all values pushed =
    let found = step_at steps i op below is in
    let at = get_or_from_slice_get steps i found.0 found.0 found.1 in
    let taken = take_more steps i found.0 below ∙ ap (λ (s : Step). take i steps ++ s ∷ []) at in
    let further = ap (λ (ss : List Step). registers (value_made n t plains) start ss) taken ∙ registers-push (value_made n t plains) start (take i steps) found.0 in
    let list_is : list ≡ value_made n t plains (registers (value_made n t plains) start (take i steps)) found.0.op
    = made ∙ ap (λ (o : Op). value_made n t plains lists o) found.2 ∙ ap (λ (ls : List (List ℕ)). value_made n t plains ls found.0.op) so_far in (
      pushed ∙ ap (λ (ls : List (List ℕ)). ls ++ list ∷ []) so_far ∙ ap (λ (l : List ℕ). registers (value_made n t plains) start (take i steps) ++ l ∷ []) list_is ∙ sym further,
      subst (AreLists n t) (sym pushed) (All-push (AreValues n t) lists list all values),
    )

-- the list that is put out
pub output_list : (script : Script) (values : List ℕ) (lists plains : List (List ℕ)) (i output : ℕ) (list items : List ℕ) → IsSound script → length script.steps ≤ i → output ≡ script.output
    → plains ≡ lists_of is_plain script.inputs (lists_in (degree_of script.set) (length script.inputs) values)
    → lists ≡ registers (value_made (degree_of script.set) (plain_of script.set) plains) (lists_of is_cipher script.inputs (lists_in (degree_of script.set) (length script.inputs) values)) (take i script.steps)
    → list ≡ slice_index_or lists output list → items ≡ list → items ≡ value_of script (lists_in (degree_of script.set) (length script.inputs) values)
output_list script values lists plains i output list items sound all output_is plains_are lists_are read items_are =
    let whole = ap (λ (ss : List Step). registers (value_made (degree_of script.set) (plain_of script.set) plains) (lists_of is_cipher script.inputs (lists_in (degree_of script.set) (length script.inputs) values)) ss) (take_all i script.steps all) in
    let every = lists_before script (degree_of script.set) (plain_of script.set) plains values (length script.steps) (omega arith) in
    let ended = ap (λ (ss : List Step). length (registers (value_made (degree_of script.set) (plain_of script.set) plains) (lists_of is_cipher script.inputs (lists_in (degree_of script.set) (length script.inputs) values)) ss)) (take_all (length script.steps) script.steps (omega arith)) in
    let count = ap length (lists_are ∙ whole) in
    let within : output < length lists = omega (arith, sound.output) in
    items_are ∙ get_or_read lists output list within read []
    ∙ ap (λ (ls : List (List ℕ)). slice_index_or ls output []) (lists_are ∙ whole)
    ∙ ap (λ (k : ℕ). slice_index_or (registers (value_made (degree_of script.set) (plain_of script.set) plains) (lists_of is_cipher script.inputs (lists_in (degree_of script.set) (length script.inputs) values)) script.steps) k []) output_is
    ∙ ap (λ (ps : List (List ℕ)). slice_index_or (registers (value_made (degree_of script.set) (plain_of script.set) ps) (lists_of is_cipher script.inputs (lists_in (degree_of script.set) (length script.inputs) values)) script.steps) script.output []) plains_are
