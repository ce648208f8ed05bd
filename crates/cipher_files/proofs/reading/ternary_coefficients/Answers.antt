use Rattle.std.proofs.Common.{◌≡◌, ◌≢◌, ℕ, ◌<◌, ◌≤◌, ◌∙◌, arith, ap, sym, pos, length, get_or, set, get_or-set_same, get_or-set_other, length-set, of_z, to_z, w8}
use Rattle.std.specs.Prelude.{slice_index}
use Rattle.std.proofs.Math.Logic.{⊎_elim}
use Rattle.std.proofs.lemmas.Bool.{cases_lt}
use Rattle.std.proofs.lemmas.Int.{to_z-of_z}
use Rattle.bfv_model.specs.Holds.{ternary_coefficient}
use Rattle.cipher_files.proofs.reading.ternary_coefficients.Goals as goal

pub loop-k-preserved : goal.loop-k-preserved
loop-k-preserved g c =
    let small = c.loop-k.small in
    let done = c.loop-k.k in
    let value = to_z w8 (of_z w8 c.ternary.result) in
    let is : value ≡ ternary_coefficient (slice_index c.args.words.now done) = to_z-of_z w8 c.ternary.result (record { sfits = c.ternary.type_inv }) ∙ c.ternary.ensures in
    record {
      size = length-set small done value ∙ c.loop-k.invariant.size;
      value = λ k below. ⊎_elim (λ (lt : k < done). let other : k ≢ done = omega arith in get_or-set_other small done k value (pos 0) other ∙ c.loop-k.invariant.value k lt)
          (λ (le : done ≤ k).
          let here : k ≡ done = omega arith in
          let inside : done < length small = omega arith in
          ap (λ (j : ℕ). get_or (set small done value) j (pos 0)) here ∙ get_or-set_same small done value (pos 0) inside ∙ is
          ∙ ap (λ (j : ℕ). ternary_coefficient (slice_index c.args.words.now j)) (sym here))
          (cases_lt k done);
    }
