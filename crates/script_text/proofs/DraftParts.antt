-- The shapes of the registers when a draft gains an input or a step.
use Rattle.std.proofs.Common.{◌≡◌, List, [], ◌∷◌, ◌++◌, length, replicate, refl, ap, sym, ◌∙◌}
use Rattle.script_text.specs.declared.script.Op.{Op}
use Rattle.script_text.specs.declared.script.Step.{Step}
use Rattle.script_text.specs.declared.script.Input.{Input}
use Rattle.script_text.specs.declared.script.Shape.{Shape}
use Rattle.script_text.specs.Scripts.{registers, shapes_of, shape_made, cipher_inputs, input_shape}

pub registers-push : {A : Type 0} (made : List A → Op → A) (inputs : List A) (steps : List Step) (step : Step)
    → registers made inputs (steps ++ step ∷ []) ≡ registers made inputs steps ++ made (registers made inputs steps) step.op ∷ []
registers-push made inputs [] step = refl
registers-push made inputs (first ∷ steps) step = registers-push made (inputs ++ made inputs first.op ∷ []) steps step

-- the shapes after a step
pub shapes_push : (inputs : List Input) (steps : List Step) (step : Step) (shapes : List Shape) → shapes ≡ shapes_of inputs steps
    → shapes ++ shape_made shapes step.op ∷ [] ≡ shapes_of inputs (steps ++ step ∷ [])
shapes_push inputs steps step shapes are =
    ap (λ (ss : List Shape). ss ++ shape_made ss step.op ∷ []) are ∙ sym (registers-push shape_made (replicate (length (cipher_inputs inputs)) input_shape) steps step)
