-- What the registers carry, step by step.
use Rattle.std.proofs.Common.{arith, ◌≡◌, ℕ, suc, ◌+◌, ◌<◌, ◌≤◌, sym, ap, ◌∙◌, List, [], ◌∷◌, ◌++◌, length, take, drop, slice_index_or, Some, refl, length-append, length-take, take-append-drop}
use Rattle.std.specs.Prelude.{slice_get}
use Rattle.std.proofs.lemmas.List.{take_more, take_all, get_or_push, get_or_append_left}
use Rattle.std.proofs.lemmas.Option.{get_or_from_slice_get}
use Rattle.script_text.specs.declared.script.Op.{Op}
use Rattle.script_text.specs.declared.script.Step.{Step}
use Rattle.script_text.specs.Scripts.{registers}
use Rattle.script_text.proofs.Registers.{length-registers}
use Rattle.script_text.proofs.DraftParts.{registers-push}

module _ {A : Type 0} (made : List A → Op → A) (start : List A) (steps : List Step) (i : ℕ) (step : Step) (below : i < length steps) (is : slice_get steps i ≡ Some step) where
  -- the registers before step i, and one more after it
  next : registers made start (take (suc i) steps) ≡ registers made start (take i steps) ++ made (registers made start (take i steps)) step.op ∷ []
  next =
      let at = get_or_from_slice_get steps i step step is in
      let more : i + 1 ≡ suc i = omega arith in
      ap (λ (k : ℕ). registers made start (take k steps)) (sym more)
      ∙ ap (λ (s : List Step). registers made start s) (take_more steps i step below ∙ ap (λ (x : Step). take i steps ++ x ∷ []) at)
      ∙ registers-push made start (take i steps) step

  counted : length (registers made start (take i steps)) ≡ length start + i
  counted =
      let all = length-registers made start (take i steps) in
      let taken = length-take i steps in
      omega arith

  -- a register that was defined before keeps what it is
  pub registers-before : (r : ℕ) (d : A) → r < length start + i → slice_index_or (registers made start (take (suc i) steps)) r d ≡ slice_index_or (registers made start (take i steps)) r d
  registers-before r d defined =
      ap (λ (xs : List A). slice_index_or xs r d) next
      ∙ get_or_append_left (registers made start (take i steps)) (made (registers made start (take i steps)) step.op ∷ []) d r (omega (arith, counted, defined))

  -- the result's register has what the operation makes
  pub registers-result : (r : ℕ) (d : A) → r ≡ length start + i → slice_index_or (registers made start (take (suc i) steps)) r d ≡ made (registers made start (take i steps)) step.op
  registers-result r d here =
      ap (λ (xs : List A). slice_index_or xs r d) next
      ∙ get_or_push (registers made start (take i steps)) (made (registers made start (take i steps)) step.op) d r (omega (arith, counted, here))

-- the registers keep what they are while more steps are done
kept : {A : Type 0} (made : List A → Op → A) (start : List A) (steps : List Step) (r : ℕ) (d : A) → r < length start
    → slice_index_or (registers made start steps) r d ≡ slice_index_or start r d
kept made start [] r d defined = refl
kept made start (step ∷ steps) r d defined =
    let more = length-append start (made start step.op ∷ []) in
    kept made (start ++ made start step.op ∷ []) steps r d (omega arith) ∙ get_or_append_left start (made start step.op ∷ []) d r defined

-- some steps, and then others
joined : {A : Type 0} (made : List A → Op → A) (start : List A) (steps others : List Step) → registers made start (steps ++ others) ≡ registers made (registers made start steps) others
joined made start [] others = refl
joined made start (step ∷ steps) others = joined made (start ++ made start step.op ∷ []) steps others

-- a register that was defined before step i has in the end what it had then
pub registers-kept : {A : Type 0} (made : List A → Op → A) (start : List A) (steps : List Step) (i r : ℕ) (d : A) → i ≤ length steps → r < length start + i
    → slice_index_or (registers made start steps) r d ≡ slice_index_or (registers made start (take i steps)) r d
registers-kept {A} made start steps i r d within defined =
    let count = length-registers made start (take i steps) in
    let taken = length-take i steps in
    ap (λ (xs : List Step). slice_index_or (registers made start xs) r d) (sym (take-append-drop i steps))
    ∙ ap (λ (xs : List A). slice_index_or xs r d) (joined made start (take i steps) (drop i steps))
    ∙ kept made (registers made start (take i steps)) (drop i steps) r d (omega arith)

-- after the last step they are all there
pub registers-end : {A : Type 0} (made : List A → Op → A) (start : List A) (steps : List Step) (i : ℕ) → length steps ≤ i → registers made start (take i steps) ≡ registers made start steps
registers-end made start steps i ended = ap (λ (s : List Step). registers made start s) (take_all i steps ended)
