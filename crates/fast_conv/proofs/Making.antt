-- What the makers of a converter keep as they add row after row.
use Rattle.std.proofs.Common.{◌≡◌, ℕ, refl, ◌+◌, ◌*◌, ◌%◌, ◌^◌, ◌<◌, List, [], ◌∷◌, ◌++◌, length, get_or, All, slice_index, arith, sym, ap, ◌∙◌, subst, ℤ, pos, ◌*ℤ◌}
use Rattle.std.proofs.lemmas.List.{ext_get_or, get_or-map, length-append, length-map}
use Rattle.std.proofs.lemmas.List.Elements.{All-from_get_or}
use Rattle.ring_law.specs.Residues.{Congruent, residue}
use Rattle.ring_law.specs.Moduli.{product_of_others}
use Rattle.ring_law.proofs.Congruence.{Congruent-equal, Congruent-mul, Congruent-refl, Congruent-trans, Congruent-sym}
use Rattle.ring_law.proofs.Residues.{Congruent-mod, residue_equal}
use Rattle.ring_law.proofs.WholeNumbers.{int_one_mul}
use Rattle.ring_law.proofs.RingSolver.{identity3, ◌⊗◌}
use Rattle.set_table.specs.Sets.{m_tilde}
use Rattle.word_mod.specs.Moduli.{IsModulus}
use Rattle.res_base.specs.Bases.{IsBase}
use Rattle.fast_conv.specs.Rows.{AreCorrections, AreInputs, AreOutputs, HasInputFactor, Input, IsKeptAt, IsOutputOf, IsRowOf, Kept, Output, input_moduli, kept_moduli, no_input, no_kept, no_output, output_moduli}
use Rattle.fast_conv.specs.declared.outputs.RowConstants.{RowConstants}
use Rattle.fast_conv.proofs.Lists.{each_pushed}

-- ---- inputs
-- the factor of an input, made from the inverse of the product of the others
pub scaled_inverse : (q v scale others : ℕ) → 0 < q → v * others % q ≡ 1 → (v * (scale % q) % q) * others % q ≡ scale % q
scaled_inverse q v scale others positive one =
    residue_equal q (pos ((v * (scale % q) % q) * others)) (pos scale) positive
    (Congruent-trans q (Congruent-mul q (Congruent-mod q (v * (scale % q)) positive) (Congruent-refl q (pos others)))
    (Congruent-trans q (Congruent-equal q (identity3 (λ v s o. v ⊗ s ⊗ o) (λ v s o. (v ⊗ o) ⊗ s) refl (pos v) (pos (scale % q)) (pos others)))
    (Congruent-trans q (Congruent-mul q unit (Congruent-mod q scale positive)) (Congruent-equal q (int_one_mul (pos scale))))))
  where
    unit : Congruent q (pos (v * others)) (pos 1)
    unit = Congruent-trans q (Congruent-sym q (Congruent-mod q (v * others) positive)) (Congruent-equal q (ap pos one))

-- the first i inputs
pub record InputsSoFar (qs : List ℕ) (scale i : ℕ) (rows : List Input) : Type 0 where
  pub count : length rows ≡ i
  pub modulus : (j : ℕ) → j < i → (get_or rows j no_input).modulus ≡ slice_index qs j
  pub factor : (j : ℕ) → j < i → HasInputFactor qs scale rows j

pub inputs_none : (qs : List ℕ) (scale : ℕ) → InputsSoFar qs scale 0 []
inputs_none qs scale = record { count = refl; modulus = λ j l. absurd (omega arith); factor = λ j l. absurd (omega arith) }

pub inputs_more : (qs : List ℕ) (scale i : ℕ) (rows : List Input) (row : Input) → InputsSoFar qs scale i rows → row.modulus ≡ slice_index qs i
    → row.factor * product_of_others qs i % slice_index qs i ≡ scale % slice_index qs i → InputsSoFar qs scale (i + 1) (rows ++ row ∷ [])
inputs_more qs scale i rows row so_far same factor = record {
  count = length-append rows (row ∷ []) ∙ ap (λ n. n + 1) so_far.count;
  modulus = each_pushed (λ j r. r.modulus ≡ slice_index qs j) rows row no_input i so_far.count so_far.modulus same;
  factor = each_pushed (λ j r. r.factor * product_of_others qs j % slice_index qs j ≡ scale % slice_index qs j) rows row no_input i so_far.count so_far.factor factor;
}

pub inputs_all : (qs : List ℕ) (scale i : ℕ) (rows : List Input) → IsBase qs → i ≡ length qs → InputsSoFar qs scale i rows → AreInputs qs scale rows
inputs_all qs scale i rows base end so_far = record {
  base = base;
  moduli = ext_get_or 0 (input_moduli rows) qs (length-map rows (λ r. r.modulus) ∙ so_far.count ∙ end)
      (λ j l. let within : j < length rows = subst (λ n. j < n) (length-map rows (λ r. r.modulus)) l in
      get_or-map (λ r. r.modulus) rows j no_input 0 within ∙ so_far.modulus j (subst (λ n. j < n) so_far.count within));
  factors = λ j l. so_far.factor j (subst (λ n. j < n) (sym end) l);
}

-- ---- outputs
-- an output, from the words that it is made of
pub IsOutputOf-from : (qs : List ℕ) (divisor : ℕ) (sign by_last by_all : ℤ) (m : ℕ) (c : RowConstants) → Congruent m (pos divisor *ℤ pos c.scale) sign
    → Congruent m (pos divisor *ℤ pos c.last_factor) by_last → Congruent m (pos divisor *ℤ pos c.added) by_all
    → (row : Output) → IsRowOf qs m c row → IsOutputOf qs divisor sign by_last by_all row
IsOutputOf-from qs divisor sign by_last by_all m c signs lasts alls row of = record {
  modulus = subst IsModulus (sym of.same) of.is_modulus;
  count = of.count;
  factors = λ i l. here (pos divisor *ℤ pos (slice_index row.factors i)) (sign *ℤ pos (product_of_others qs i))
      (Congruent-trans m (Congruent-mul m (Congruent-refl m (pos divisor)) (Congruent-trans m (Congruent-equal m (ap pos (of.factors i l))) (Congruent-mod m (c.scale * product_of_others qs i) positive)))
      (Congruent-trans m (Congruent-equal m (identity3 (λ d s o. d ⊗ (s ⊗ o)) (λ d s o. (d ⊗ s) ⊗ o) refl (pos divisor) (pos c.scale) (pos (product_of_others qs i))))
      (Congruent-mul m signs (Congruent-refl m (pos (product_of_others qs i))))));
  last_factor = here (pos divisor *ℤ pos row.last_factor) by_last (subst (λ w. Congruent m (pos divisor *ℤ pos w) by_last) (sym of.last) lasts);
  added = here (pos divisor *ℤ pos row.added) by_all (subst (λ w. Congruent m (pos divisor *ℤ pos w) by_all) (sym of.constant) alls);
}
  where
    positive : 0 < m
    positive = let three = of.is_modulus.from_three in omega arith

    here : (x y : ℤ) → Congruent m x y → residue row.modulus x ≡ residue row.modulus y
    here x y same = subst (λ p. residue p x ≡ residue p y) (sym of.same) (residue_equal m x y positive same)

-- the first i outputs
pub record OutputsSoFar (qs ps : List ℕ) (divisor : ℕ) (sign last added : ℤ) (i : ℕ) (rows : List Output) : Type 0 where
  pub count : length rows ≡ i
  pub modulus : (j : ℕ) → j < i → (get_or rows j no_output).modulus ≡ slice_index ps j
  pub each : (j : ℕ) → j < i → IsOutputOf qs divisor sign last added (get_or rows j no_output)

pub outputs_none : (qs ps : List ℕ) (divisor : ℕ) (sign last added : ℤ) → OutputsSoFar qs ps divisor sign last added 0 []
outputs_none qs ps divisor sign last added = record { count = refl; modulus = λ j l. absurd (omega arith); each = λ j l. absurd (omega arith) }

pub outputs_more : (qs ps : List ℕ) (divisor : ℕ) (sign last added : ℤ) (i : ℕ) (rows : List Output) (row : Output)
    → OutputsSoFar qs ps divisor sign last added i rows → row.modulus ≡ slice_index ps i → IsOutputOf qs divisor sign last added row
    → OutputsSoFar qs ps divisor sign last added (i + 1) (rows ++ row ∷ [])
outputs_more qs ps divisor sign last added i rows row so_far same is = record {
  count = length-append rows (row ∷ []) ∙ ap (λ n. n + 1) so_far.count;
  modulus = each_pushed (λ j r. r.modulus ≡ slice_index ps j) rows row no_output i so_far.count so_far.modulus same;
  each = each_pushed (λ j r. IsOutputOf qs divisor sign last added r) rows row no_output i so_far.count so_far.each is;
}

pub outputs_all : (qs ps : List ℕ) (divisor : ℕ) (sign last added : ℤ) (i : ℕ) (rows : List Output) → i ≡ length ps
    → OutputsSoFar qs ps divisor sign last added i rows → AreOutputs qs ps divisor sign last added rows
outputs_all qs ps divisor sign last added i rows end so_far = record {
  moduli = ext_get_or 0 (output_moduli rows) ps (length-map rows (λ r. r.modulus) ∙ so_far.count ∙ end)
      (λ j l. let within : j < length rows = subst (λ n. j < n) (length-map rows (λ r. r.modulus)) l in
      get_or-map (λ r. r.modulus) rows j no_output 0 within ∙ so_far.modulus j (subst (λ n. j < n) so_far.count within));
  each = All-from_get_or (IsOutputOf qs divisor sign last added) rows no_output (λ j l. so_far.each j (subst (λ n. j < n) so_far.count l));
}

-- ---- the invariant of a converter names its moduli by its own rows
pub at_own_moduli : (P : List ℕ → List ℕ → Type 0) (qs ps : List ℕ) (inputs : List Input) (outputs : List Output)
    → input_moduli inputs ≡ qs → output_moduli outputs ≡ ps → P qs ps → P (input_moduli inputs) (output_moduli outputs)
at_own_moduli P qs ps inputs outputs read written holds = subst (λ z. P z (output_moduli outputs)) (sym read) (subst (λ z. P qs z) (sym written) holds)

-- ---- corrections
-- the first i corrections
pub record CorrectionsSoFar (qs : List ℕ) (i : ℕ) (words : List ℕ) : Type 0 where
  pub count : length words ≡ i
  pub each : (j : ℕ) → j < i → (get_or words j 0 * slice_index qs j + 1) % m_tilde ≡ 0
  pub below : (j : ℕ) → j < i → get_or words j 0 < 2 ^ 61

pub corrections_none : (qs : List ℕ) → CorrectionsSoFar qs 0 []
corrections_none qs = record { count = refl; each = λ j l. absurd (omega arith); below = λ j l. absurd (omega arith) }

pub corrections_more : (qs : List ℕ) (i : ℕ) (words : List ℕ) (q word : ℕ) → CorrectionsSoFar qs i words → q ≡ slice_index qs i
    → (word * q + 1) % m_tilde ≡ 0 → word < m_tilde → CorrectionsSoFar qs (i + 1) (words ++ word ∷ [])
corrections_more qs i words q word so_far same is small = record {
  count = length-append words (word ∷ []) ∙ ap (λ n. n + 1) so_far.count;
  each = each_pushed (λ j w. (w * slice_index qs j + 1) % m_tilde ≡ 0) words word 0 i so_far.count so_far.each (subst (λ q. (word * q + 1) % m_tilde ≡ 0) same is);
  below = each_pushed (λ j w. w < 2 ^ 61) words word 0 i so_far.count so_far.below (omega arith);
}

pub corrections_all : (qs : List ℕ) (i : ℕ) (words : List ℕ) → i ≡ length qs → CorrectionsSoFar qs i words → AreCorrections qs words
corrections_all qs i words end so_far = record {
  count = so_far.count ∙ end;
  each = λ j l. so_far.each j (subst (λ n. j < n) (sym end) l);
  below = All-from_get_or (λ w. w < 2 ^ 61) words 0 (λ j l. so_far.below j (subst (λ n. j < n) so_far.count l));
}

-- ---- rows that stay
-- the first i rows
pub record KeptSoFar (qs : List ℕ) (P i : ℕ) (rows : List Kept) : Type 0 where
  pub count : length rows ≡ i
  pub modulus : (j : ℕ) → j < i → (get_or rows j no_kept).modulus ≡ slice_index qs j
  pub each : (j : ℕ) → j < i → IsKeptAt P (get_or rows j no_kept)

pub kept_none : (qs : List ℕ) (P : ℕ) → KeptSoFar qs P 0 []
kept_none qs P = record { count = refl; modulus = λ j l. absurd (omega arith); each = λ j l. absurd (omega arith) }

pub kept_more : (qs : List ℕ) (P i : ℕ) (rows : List Kept) (row : Kept) → KeptSoFar qs P i rows → row.modulus ≡ slice_index qs i → IsKeptAt P row
    → KeptSoFar qs P (i + 1) (rows ++ row ∷ [])
kept_more qs P i rows row so_far same is = record {
  count = length-append rows (row ∷ []) ∙ ap (λ n. n + 1) so_far.count;
  modulus = each_pushed (λ j r. r.modulus ≡ slice_index qs j) rows row no_kept i so_far.count so_far.modulus same;
  each = each_pushed (λ j r. IsKeptAt P r) rows row no_kept i so_far.count so_far.each is;
}

pub kept_all : (qs : List ℕ) (P i : ℕ) (rows : List Kept) → KeptSoFar qs P i rows → All (IsKeptAt P) rows
kept_all qs P i rows so_far = All-from_get_or (IsKeptAt P) rows no_kept (λ j l. so_far.each j (subst (λ n. j < n) so_far.count l))

-- their moduli and the last are all
pub kept_and_dropped : (qs : List ℕ) (P i : ℕ) (rows : List Kept) → KeptSoFar qs P i rows → i + 1 ≡ length qs → P ≡ slice_index qs i → kept_moduli rows ++ P ∷ [] ≡ qs
kept_and_dropped qs P i rows so_far all last =
    ext_get_or 0 (kept_moduli rows ++ P ∷ []) qs (length-append (kept_moduli rows) (P ∷ []) ∙ ap (λ n. n + 1) size ∙ all)
    (λ j l. each_pushed (λ j p. p ≡ slice_index qs j) (kept_moduli rows) P 0 i size moduli last j (subst (λ n. j < n) (length-append (kept_moduli rows) (P ∷ []) ∙ ap (λ n. n + 1) size) l))
  where
    size : length (kept_moduli rows) ≡ i
    size = length-map rows (λ r. r.modulus) ∙ so_far.count

    moduli : (j : ℕ) → j < i → get_or (kept_moduli rows) j 0 ≡ slice_index qs j
    moduli j l = get_or-map (λ r. r.modulus) rows j no_kept 0 (subst (λ n. j < n) (sym so_far.count) l) ∙ so_far.modulus j l
