-- The registers of a script are its inputs and then one for each step.
use Rattle.std.proofs.Common.{◌≡◌, ◌∙◌, sym, ap, refl, ℕ, zero, suc, ◌+◌, get_or, Option, Some, None, List, [], ◌∷◌, ◌++◌, length, replicate, arith, length-append}
use Rattle.std.specs.Prelude.{IfSome, slice_get, slice_index}
use Rattle.std.specs.Option.{option_map, unwrap_or}
use Rattle.std.proofs.lemmas.Option.{unwrap_or-slice_get}
use Rattle.std.proofs.lemmas.List.{length-replicate}
use Rattle.script_text.specs.declared.script.Op.{Op}
use Rattle.script_text.specs.declared.script.Step.{Step}
use Rattle.script_text.specs.declared.script.Input.{Input}
use Rattle.script_text.specs.declared.script.Shape.{Shape}
use Rattle.script_text.specs.Scripts.{registers, shapes_of, shape_made, cipher_inputs, input_shape, shape_at, registers_with}

pub length-registers : {A : Type 0} (made : List A → Op → A) (inputs : List A) (steps : List Step) → length (registers made inputs steps) ≡ length inputs + length steps
length-registers made inputs [] = omega arith
length-registers made inputs (step ∷ steps) =
    let more = length-registers made (inputs ++ made inputs step.op ∷ []) steps in
    let one = length-append inputs (made inputs step.op ∷ []) in
    omega arith

pub length-shapes_of : (inputs : List Input) (steps : List Step) → length (shapes_of inputs steps) ≡ length (cipher_inputs inputs) + length steps
length-shapes_of inputs steps =
    let all = length-registers shape_made (replicate (length (cipher_inputs inputs)) input_shape) steps in
    let ciphers = length-replicate {A = Shape} (length (cipher_inputs inputs)) input_shape in
    omega arith

-- a register that is listed has the name, the line and the shape at its place
pub name_listed : (names : List (List ℕ)) (lines : List ℕ) (shapes : List Shape) (i : ℕ) → IfSome (slice_get (registers_with names lines shapes) i) (λ listed. get_or names i [] ≡ listed.name)
name_listed [] lines shapes i = tt
name_listed (name ∷ names) [] shapes i = tt
name_listed (name ∷ names) (line ∷ lines) [] i = tt
name_listed (name ∷ names) (line ∷ lines) (shape ∷ shapes) zero = refl
name_listed (name ∷ names) (line ∷ lines) (shape ∷ shapes) (suc i) = name_listed names lines shapes i

pub line_listed : (names : List (List ℕ)) (lines : List ℕ) (shapes : List Shape) (i : ℕ) → IfSome (slice_get (registers_with names lines shapes) i) (λ listed. slice_index lines i ≡ listed.line)
line_listed [] lines shapes i = tt
line_listed (name ∷ names) [] shapes i = tt
line_listed (name ∷ names) (line ∷ lines) [] i = tt
line_listed (name ∷ names) (line ∷ lines) (shape ∷ shapes) zero = refl
line_listed (name ∷ names) (line ∷ lines) (shape ∷ shapes) (suc i) = line_listed names lines shapes i

pub shape_listed : (names : List (List ℕ)) (lines : List ℕ) (shapes : List Shape) (i : ℕ) → IfSome (slice_get (registers_with names lines shapes) i) (λ listed. shape_at shapes i ≡ listed.shape)
shape_listed [] lines shapes i = tt
shape_listed (name ∷ names) [] shapes i = tt
shape_listed (name ∷ names) (line ∷ lines) [] i = tt
shape_listed (name ∷ names) (line ∷ lines) (shape ∷ shapes) zero = refl
shape_listed (name ∷ names) (line ∷ lines) (shape ∷ shapes) (suc i) = shape_listed names lines shapes i

-- what is at a place of a list of numbers, and 0 past the last
pub number_some : (numbers : List ℕ) (i : ℕ) (found : Option ℕ) (number : ℕ) → option_map (λ n. n) found ≡ slice_get numbers i → found ≡ Some number → number ≡ slice_index numbers i
number_some numbers i found number is some = ap (λ (o : Option ℕ). unwrap_or o 0) (sym (ap (option_map (λ (n : ℕ). n)) some) ∙ is) ∙ unwrap_or-slice_get numbers i 0

pub number_none : (numbers : List ℕ) (i : ℕ) (found : Option ℕ) → option_map (λ n. n) found ≡ slice_get numbers i → found ≡ None → 0 ≡ slice_index numbers i
number_none numbers i found is none = ap (λ (o : Option ℕ). unwrap_or o 0) (sym (ap (option_map (λ (n : ℕ). n)) none) ∙ is) ∙ unwrap_or-slice_get numbers i 0
