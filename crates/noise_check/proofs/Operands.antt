-- The operands of a script's steps.
use Rattle.std.proofs.Common.{◌≡◌, ℕ, zero, suc, ◌+◌, ◌<◌, ap, ◌∙◌, subst, arith, List, [], ◌∷◌, ◌++◌, length, get_or, length-append}
use Rattle.std.specs.Prelude.{replicate}
use Rattle.std.proofs.lemmas.List.{length-replicate}
use Rattle.set_table.specs.declared.SetName.{SetName}
use Rattle.script_text.specs.declared.script.Step.{Step}
use Rattle.script_text.specs.declared.script.Shape.{Shape}
use Rattle.script_text.specs.Scripts.{Script, AllFit, shape_made, cipher_inputs, plain_inputs, IsSound, input_shape}
use Rattle.noise_check.specs.Operands.{HasOperands}
use Rattle.noise_check.proofs.Scripts.{no_step}

operands_from : (set : SetName) (plains : ℕ) (shapes : List Shape) (steps : List Step) (i : ℕ) → AllFit set plains shapes steps → i < length steps →
    HasOperands set (length shapes + i) (get_or steps i no_step).op
operands_from set plains shapes [] i fit within = absurd (omega arith)
operands_from set plains shapes (step ∷ steps) zero fit within =
    subst (λ count. HasOperands set count step.op) (none (length shapes)) (fit.0.operands, fit.0.factor)
  where
    none : (n : ℕ) → n ≡ n + 0
    none n = omega arith
operands_from set plains shapes (step ∷ steps) (suc i) fit within =
    subst (λ count. HasOperands set count (get_or steps i no_step).op)
    (ap (λ n. n + i) (length-append shapes (shape_made shapes step.op ∷ [])) ∙ next (length shapes) i)
    (operands_from set plains (shapes ++ shape_made shapes step.op ∷ []) steps i fit.1 (omega arith))
  where
    next : (n i : ℕ) → n + 1 + i ≡ n + suc i
    next n i = omega arith

pub operands_at : (script : Script) (i : ℕ) → IsSound script → i < length script.steps →
    HasOperands script.set (length (cipher_inputs script.inputs) + i) (get_or script.steps i no_step).op
operands_at script i sound within =
    subst (λ count. HasOperands script.set (count + i) (get_or script.steps i no_step).op) (length-replicate _ _)
    (operands_from script.set (length (plain_inputs script.inputs)) (replicate (length (cipher_inputs script.inputs)) input_shape) script.steps i sound.fit within)
