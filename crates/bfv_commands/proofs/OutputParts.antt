-- The parts of a script's registers are two or three.
use Rattle.std.proofs.Common.{◌≡◌, ◌⊎◌, inl, inr, ⊎_elim, ℕ, ◌-◌, ◌<◌, List, [], ◌∷◌, ◌++◌, length, refl, sym, ap, ap₂, subst, arith, length-append}
use Rattle.std.specs.Prelude.{max, replicate, fold}
use Rattle.std.proofs.lemmas.Bool.{cases_lt}
use Rattle.std.proofs.lemmas.List.{get_or_append_left, get_or-append_right, get_or-replicate, length-replicate}
use Rattle.set_table.specs.declared.SetName.{SetName}
use Rattle.script_text.specs.declared.script.Op.{Op}
use Rattle.script_text.specs.declared.script.Op.TheVariants.{Add, Sub, Neg, AddPlain, SubPlain, MulPlain, MulConst, Mul, Relin, Turn, Swap}
use Rattle.script_text.specs.declared.script.Step.{Step}
use Rattle.script_text.specs.declared.script.Shape.{Shape}
use Rattle.script_text.specs.Scripts.{Script, IsSound, Fits, AllFit, input_shape, shape_made, shape_at, shapes_of, cipher_inputs, plain_inputs}
use Rattle.script_text.proofs.Registers.{length-shapes_of}

abbrev pub IsTwoOrThree : ℕ → Type 0
IsTwoOrThree parts = (parts ≡ 2) ⊎ (parts ≡ 3)

-- so many parts has each register
abbrev AllTwoOrThree : List Shape → Type 0
AllTwoOrThree shapes = (r : ℕ) → r < length shapes → IsTwoOrThree (shape_at shapes r).parts

greater_part : (a b : ℕ) → IsTwoOrThree a → IsTwoOrThree b → IsTwoOrThree (max a b)
greater_part a b (inl x) (inl y) = inl (ap₂ max x y)
greater_part a b (inl x) (inr y) = inr (ap₂ max x y)
greater_part a b (inr x) (inl y) = inr (ap₂ max x y)
greater_part a b (inr x) (inr y) = inr (ap₂ max x y)

part_made : (set : SetName) (plains : ℕ) (shapes : List Shape) (op : Op) → Fits set plains shapes op → AllTwoOrThree shapes → IsTwoOrThree (shape_made shapes op).parts
part_made set plains shapes (Add a b) fits all = greater_part (shape_at shapes a).parts (shape_at shapes b).parts (all a fits.operands.0) (all b fits.operands.1.0)
part_made set plains shapes (Sub a b) fits all = greater_part (shape_at shapes a).parts (shape_at shapes b).parts (all a fits.operands.0) (all b fits.operands.1.0)
part_made set plains shapes (Neg a) fits all = all a fits.operands.0
part_made set plains shapes (AddPlain a p) fits all = all a fits.operands.0
part_made set plains shapes (SubPlain a p) fits all = all a fits.operands.0
part_made set plains shapes (MulPlain a p) fits all = all a fits.operands.0
part_made set plains shapes (MulConst a k) fits all = all a fits.operands.0
part_made set plains shapes (Mul a b) fits all = inr refl
part_made set plains shapes (Relin a) fits all = inl refl
part_made set plains shapes (Turn a k) fits all = inl refl
part_made set plains shapes (Swap a) fits all = inl refl

part_more : (shapes : List Shape) (made : Shape) → AllTwoOrThree shapes → IsTwoOrThree made.parts → AllTwoOrThree (shapes ++ made ∷ [])
part_more shapes made all one r below = ⊎_elim
    (λ (before : r < length shapes). subst (λ (shape : Shape). IsTwoOrThree shape.parts) (sym (get_or_append_left shapes (made ∷ []) (record { parts = 0 }) r before)) (all r before))
    (λ last.
    let count = length-append shapes (made ∷ []) in
    let here : r ≡ length shapes = omega arith in
    subst (λ (shape : Shape). IsTwoOrThree shape.parts) (sym (get_or-append_right shapes (made ∷ []) (length shapes) r (record { parts = 0 }) refl last))
    (subst (λ (place : ℕ). IsTwoOrThree (shape_at (made ∷ []) place).parts) {x = 0} {y = r - length shapes} (omega arith) one))
    (cases_lt r (length shapes))

parts_kept : (set : SetName) (plains : ℕ) (shapes : List Shape) (steps : List Step) → AllFit set plains shapes steps → AllTwoOrThree shapes
    → AllTwoOrThree (fold (λ so_far step. so_far ++ shape_made so_far step.op ∷ []) shapes steps)
parts_kept set plains shapes [] fit all = all
parts_kept set plains shapes (step ∷ steps) fit all =
    parts_kept set plains (shapes ++ shape_made shapes step.op ∷ []) steps fit.1 (part_more shapes (shape_made shapes step.op) all (part_made set plains shapes step.op fit.0 all))

-- the output of a sound script has two or three parts
pub output_parts : (script : Script) → IsSound script → IsTwoOrThree (shape_at (shapes_of script.inputs script.steps) script.output).parts
output_parts script sound =
    parts_kept script.set (length (plain_inputs script.inputs)) (replicate (length (cipher_inputs script.inputs)) input_shape) script.steps sound.fit
    (λ r below. inl (ap (λ (shape : Shape). shape.parts) (get_or-replicate (length (cipher_inputs script.inputs)) r input_shape (record { parts = 0 }) (omega (arith, below, length-replicate {A = Shape} (length (cipher_inputs script.inputs)) input_shape)))))
    script.output (omega (arith, length-shapes_of script.inputs script.steps, sound.output))
