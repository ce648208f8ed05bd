-- Until when registers are live.
use Rattle.std.proofs.Common.{arith, ◌≡◌, ◌≢◌, ◌⊎◌, ℕ, zero, suc, ◌+◌, ◌<◌, ◌≤◌, refl, sym, ap, subst, ◌∙◌, ⊎_elim, inl, inr, List, length, slice_index, set, Some}
use Rattle.std.specs.Prelude.{Contains, ◌↔◌, slice_get}
use Rattle.std.proofs.lemmas.Bool.{cases_eq, cases_lt}
use Rattle.std.proofs.lemmas.List.{get_or-set_same, get_or-set_other, length-set}
use Rattle.std.proofs.lemmas.Option.{slice_get_within}
use Rattle.script_text.specs.declared.script.Op.{Op}
use Rattle.script_text.specs.declared.script.Step.{Step}
use Rattle.script_text.specs.Scripts.{Script, operands_of}
use Rattle.script_run.specs.Ends.{AreEnds}
use Rattle.script_run.specs.Registers.{Live, IsReadFrom, input_count}

-- the end comes right after step k, which reads the register
pub record EndsAt (script : Script) (r end k : ℕ) : Type 0 where
  pub step : Step
  pub after : end ≡ suc k
  pub there : slice_get script.steps k ≡ Some step
  pub reads : Contains (operands_of step.op) r

-- the ends by the steps before step i
pub record EndsBefore (script : Script) (ends : List ℕ) (i : ℕ) : Type 0 where
  pub size : length ends ≡ input_count script + length script.steps
  pub read : (k r : ℕ) (step : Step) → k < i → slice_get script.steps k ≡ Some step → Contains (operands_of step.op) r → k < slice_index ends r
  pub last : (r : ℕ) → r < length ends → (slice_index ends r ≡ 1) ⊎ ((k : ℕ) × EndsAt script r (slice_index ends r) k)

pub ends_next : (script : Script) (old new : List ℕ) (i : ℕ) (op : Op) (step : Step) → EndsBefore script old i → slice_get script.steps i ≡ Some step → op ≡ step.op → length new ≡ length old
    → ((r : ℕ) → Contains (operands_of op) r → slice_index new r ≡ i + 1) → ((r : ℕ) → (slice_index new r ≡ slice_index old r) ⊎ Contains (operands_of op) r) → EndsBefore script new (i + 1)
ends_next script old new i op step before is same size read others = record {
  size = size ∙ before.size;
  read = λ k r other below found reads. ⊎_elim
      (λ earlier. ⊎_elim (λ unchanged. let end = before.read k r other earlier found reads in omega (arith, end, unchanged)) (λ here. let end = read r here in omega (arith, end, earlier)) (others r))
      (λ last.
      let at : k ≡ i = omega (arith, below, last) in
      let equal : step ≡ other = some_same step other (sym is ∙ ap (λ (n : ℕ). slice_get script.steps n) (sym at) ∙ found) in
      let end = read r (subst (λ (o : Op). Contains (operands_of o) r) (sym (same ∙ ap (λ (s : Step). s.op) equal)) reads) in
      omega (arith, end, at))
      (cases_lt k i);
  last = λ r there. ⊎_elim
      (λ unchanged. ⊎_elim (λ one. inl (unchanged ∙ one)) (λ (k, end). inr (k, record { step = end.step; after = unchanged ∙ end.after; there = end.there; reads = end.reads })) (before.last r (omega (arith, size, there))))
      (λ here. inr (i, record { step = step; after = (let end = read r here in omega (arith, end)); there = is; reads = subst (λ (o : Op). Contains (operands_of o) r) same here }))
      (others r);
}
  where
    some_same : (x y : Step) → Some x ≡ Some y → x ≡ y
    some_same x y is = cc

-- the ends of all registers, once the output's is put after the last step
pub ends_all : (script : Script) (old new : List ℕ) (i end : ℕ) → EndsBefore script old i → length script.steps ≤ i → script.output < length old → new ≡ set old script.output end → end ≡ length script.steps + 1 → AreEnds script new
ends_all script old new i end before all inside written after = record {
  size = ap length written ∙ length-set old script.output end ∙ before.size;
  live = λ j r within defined. (λ live. needed j r within defined live.needed, λ earlier. record { defined = defined; needed = needed_from j r within defined earlier });
}
  where
    here : slice_index new script.output ≡ end
    here = ap (λ (xs : List ℕ). slice_index xs script.output) written ∙ get_or-set_same old script.output end 0 inside

    other : (r : ℕ) → r ≢ script.output → slice_index new r ≡ slice_index old r
    other r apart = ap (λ (xs : List ℕ). slice_index xs r) written ∙ get_or-set_other old script.output r end 0 apart

    at_output : (r : ℕ) → r ≡ script.output → slice_index new r ≡ length script.steps + 1
    at_output r is = ap (slice_index new) is ∙ here ∙ after

    read_end : (k r : ℕ) (step : Step) → k < length script.steps → slice_get script.steps k ≡ Some step → Contains (operands_of step.op) r → k < slice_index new r
    read_end k r step below is reads = ⊎_elim
        (λ output. let there = at_output r output in omega (arith, there, below))
        (λ apart. let there = before.read k r step (omega (arith, below, all)) is reads in let unchanged = other r apart in omega (arith, there, unchanged))
        (cases_eq r script.output)

    needed : (j r : ℕ) → j ≤ length script.steps → r < input_count script + j → (j ≡ 0) ⊎ ((r ≡ script.output) ⊎ IsReadFrom script j r) → j < slice_index new r
    needed j r within defined need = ⊎_elim
        (λ output. let there = at_output r output in omega (arith, there, within))
        (λ apart. let unchanged = other r apart in ⊎_elim
        (λ start. ⊎_elim (λ one. omega (arith, one, start, unchanged)) (λ (k, last). let after = last.after in omega (arith, after, start, unchanged)) (before.last r (let size = before.size in omega (arith, size, defined, within))))
        (λ later. ⊎_elim (λ output. absurd (apart output)) (λ (k, step, from, is, reads). let end = read_end k r step (slice_get_within script.steps k step is) is reads in omega (arith, from, end)) later)
        need)
        (cases_eq r script.output)

    needed_from : (j r : ℕ) → j ≤ length script.steps → r < input_count script + j → j < slice_index new r → (j ≡ 0) ⊎ ((r ≡ script.output) ⊎ IsReadFrom script j r)
    needed_from j r within defined earlier = ⊎_elim
        (λ output. inr (inl output))
        (λ apart. let unchanged = other r apart in ⊎_elim
        (λ one. inl (omega (arith, one, earlier, unchanged)))
        (λ (k, last). let after = last.after in inr (inr (k, last.step, omega (arith, after, earlier, unchanged), last.there, last.reads)))
        (before.last r (let size = before.size in omega (arith, size, defined, within))))
        (cases_eq r script.output)
