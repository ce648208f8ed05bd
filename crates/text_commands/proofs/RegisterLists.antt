-- The registers of a script beside their bounds, one by one.
use Rattle.std.proofs.Common.{◌≡◌, ℕ, zero, suc, ◌+◌, List, [], ◌∷◌, ◌++◌, length, map, take, refl, ◌∙◌, ap, arith, length-append}
use Rattle.std.specs.Prelude.{Some, slice_get, zip, false}
use Rattle.std.proofs.lemmas.List.{length-map, take_more, take_all}
use Rattle.std.proofs.lemmas.Option.{slice_get_within, slice_get-map, get_or_from_slice_get}
use Rattle.std.proofs.lemmas.Slice.Zip.{length-zip}
use Rattle.bound_num.specs.declared.Bound.{Bound}
use Rattle.script_text.specs.declared.script.Shape.{Shape}
use Rattle.script_text.specs.Scripts.{Script, Register, cipher_inputs, register_names, register_lines, registers_of, registers_with, shapes_of}
use Rattle.script_text.proofs.Registers.{length-shapes_of}
use Rattle.serde_json.specs.Data.{Data}
use Rattle.serde_json.specs.View.{items_of}
use Rattle.serde_json.specs.Written.{has_float, items_have_float}
use Rattle.command_model.specs.Report.{register_object, report_of}

length-registers_with : (n : ℕ) (names : List (List ℕ)) (lines : List ℕ) (shapes : List Shape) → length names ≡ n → length lines ≡ n → length shapes ≡ n
    → length (registers_with names lines shapes) ≡ n
length-registers_with n [] lines shapes of_names of_lines of_shapes = of_names
length-registers_with n (name ∷ names) [] shapes of_names of_lines of_shapes = of_lines
length-registers_with n (name ∷ names) (line ∷ lines) [] of_names of_lines of_shapes = of_shapes
length-registers_with zero (name ∷ names) (line ∷ lines) (shape ∷ shapes) of_names of_lines of_shapes = absurd (omega arith)
length-registers_with (suc n) (name ∷ names) (line ∷ lines) (shape ∷ shapes) of_names of_lines of_shapes =
    ap suc (length-registers_with n names lines shapes (omega arith) (omega arith) (omega arith))

-- a script has as many registers as cipher inputs and steps
pub length-registers_of : (script : Script) → length (registers_of script) ≡ length (cipher_inputs script.inputs) + length script.steps
length-registers_of script =
    length-registers_with (length (cipher_inputs script.inputs) + length script.steps) (register_names script) (register_lines script) (shapes_of script.inputs script.steps)
    names lines (length-shapes_of script.inputs script.steps)
  where
    names : length (register_names script) ≡ length (cipher_inputs script.inputs) + length script.steps
    names =
        let both = length-append (map (λ input. input.name) (cipher_inputs script.inputs)) (map (λ step. step.name) script.steps) in
        let inputs = length-map (cipher_inputs script.inputs) (λ input. input.name) in
        let steps = length-map script.steps (λ step. step.name) in
        omega arith

    lines : length (register_lines script) ≡ length (cipher_inputs script.inputs) + length script.steps
    lines =
        let both = length-append (map (λ input. input.line) (cipher_inputs script.inputs)) (map (λ step. step.line) script.steps) in
        let inputs = length-map (cipher_inputs script.inputs) (λ input. input.line) in
        let steps = length-map script.steps (λ step. step.line) in
        omega arith

slice_get-zip : {A B : Type 0} (ks : List A) (vs : List B) (i : ℕ) (k : A) (v : B) → slice_get ks i ≡ Some k → slice_get vs i ≡ Some v → slice_get (zip ks vs) i ≡ Some (k, v)
slice_get-zip [] vs i k v first second = absurd (cc)
slice_get-zip (x ∷ ks) [] i k v first second = absurd (cc)
slice_get-zip (x ∷ ks) (y ∷ vs) zero k v first second = let a : x ≡ k = cc in let b : y ≡ v = cc in rw a (rw b refl)
slice_get-zip (x ∷ ks) (y ∷ vs) (suc i) k v first second = slice_get-zip ks vs i k v first second

-- the objects of registers with these bounds
abbrev pub objects : List Register → List Bound → List Data
objects registers bounds = map register_object (zip registers bounds)

-- the next one
pub next_object : (registers : List Register) (bounds : List Bound) (i : ℕ) (register : Register) (bound : Bound) → slice_get registers i ≡ Some register → slice_get bounds i ≡ Some bound
    → take (i + 1) (objects registers bounds) ≡ take i (objects registers bounds) ++ register_object (register, bound) ∷ []
next_object registers bounds i register bound first second =
    let pair = slice_get-zip registers bounds i register bound first second in
    let at : slice_get (objects registers bounds) i ≡ Some (register_object (register, bound)) =
    slice_get-map register_object (zip registers bounds) i ∙ rw pair refl in
    let inside = slice_get_within (objects registers bounds) i (register_object (register, bound)) at in
    take_more (objects registers bounds) i (register_object (register, bound)) inside
    ∙ ap (λ (d : Data). take i (objects registers bounds) ++ d ∷ []) (get_or_from_slice_get (objects registers bounds) i (register_object (register, bound)) (register_object (register, bound)) at)

-- all of them
pub all_objects : (registers : List Register) (bounds : List Bound) → take (length bounds) (objects registers bounds) ≡ objects registers bounds
all_objects registers bounds =
    let count = length-map (zip registers bounds) register_object in
    let pairs = length-zip registers bounds in
    take_all (length bounds) (objects registers bounds) (omega arith)

-- none of them has a number that is no whole number
no_float : (pairs : List (Register × Bound)) → items_have_float (items_of (map register_object pairs)) ≡ false
no_float [] = refl
no_float ((register, bound) ∷ pairs) = no_float pairs

pub report_no_float : (script : Script) (bounds : List Bound) → has_float (report_of script bounds) ≡ false
report_no_float script bounds = rw (no_float (zip (registers_of script) bounds)) refl
