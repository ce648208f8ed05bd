-- The words of a turned row, which are written place by place in the order of the row that is turned.
use Rattle.std.proofs.Common.{◌≡◌, ◌≢◌, ℕ, ◌+◌, ◌-◌, ◌*◌, ◌/◌, ◌%◌, ◌^◌, ◌<◌, ◌≤◌, ◌∙◌, refl, sym, ap, subst, arith, List, length, slice_index, slice_set, ℤ, pos, ◌*ℤ◌, ⊎_elim, below_more, get_or-set_other, get_or-set_same, mod-lt, mod-eq_of_lt}
use Rattle.std.proofs.Math.Nat.{mod-eq-sub-mod, mod-mod_of_dvd, dvd-mul_left}
use Rattle.std.proofs.lemmas.Bool.{cases_eq, cases_lt}
use Rattle.set_table.specs.declared.SetName.{SetName}
use Rattle.set_table.specs.Sets.{degree_of, log_degree_of}
use Rattle.ring_law.specs.Residues.{HasInverse, residue}
use Rattle.ring_law.specs.Polynomials.{ring_turn}
use Rattle.ring_law.specs.Rows.{IsReduced, RowRepresents, row_polynomial}
use Rattle.ring_law.proofs.Congruence.{Congruent-equal, Congruent-mul, Congruent-refl, Congruent-sym, Congruent-trans}
use Rattle.ring_law.proofs.Inverses.{HasInverse-odd}
use Rattle.ring_law.proofs.Residues.{Congruent-residue, residue_equal, residue_lt, residue-neg}
use Rattle.ring_law.proofs.RingSolver.{identity3, ◌⊗◌}
use Rattle.ring_law.proofs.RingTurn.{ring_turn_congruent, ring_turn_high, ring_turn_low}
use Rattle.ring_law.proofs.WholeNumbers.{int_one_mul}
use Rattle.bfv_params.proofs.Tables.{degree_of-power}

-- an odd number has an inverse modulo the degree of a set
pub HasInverse-degree : (n g : ℕ) (set : SetName) → n ≡ degree_of set → g % 2 ≡ 1 → HasInverse n g
HasInverse-degree n g set degree odd =
    subst (λ m. HasInverse m g) (sym (degree ∙ degree_of-power set))
    (subst (HasInverse (2 ^ log_degree_of set)) (sym (half g odd)) (HasInverse-odd (g / 2) (log_degree_of set)))
  where
    half : (g : ℕ) → g % 2 ≡ 1 → g ≡ 2 * (g / 2) + 1
    half g odd = omega arith

-- row `to` is the turn of row `from`
abbrev pub Turns : ℕ → ℕ → ℕ → List ℕ → List ℕ → Type 0
Turns n q g from to = (x : ℕ → ℤ) → RowRepresents n q from x → RowRepresents n q to (ring_turn n g x)

-- the words of the places before i are where the turn puts them
abbrev pub TurnedBefore : ℕ → ℕ → ℕ → List ℕ → List ℕ → ℕ → Type 0
TurnedBefore n q g from to i = (j : ℕ) → j < i → slice_index to (g * j % n) ≡ residue q (ring_turn n g (row_polynomial from) (g * j % n))

module _ (n q g : ℕ) (pos_n : 0 < n) (pos_q : 0 < q) (unit : HasInverse n g) (from : List ℕ) where
  -- the word that goes to the place of i
  turned_word : (i power word : ℕ) → i < n → slice_index from i < q → power ≡ g * i % (2 * n)
      → (power < n → word ≡ slice_index from i) → (n ≤ power → word ≡ (q - slice_index from i) % q)
      → word ≡ residue q (ring_turn n g (row_polynomial from) (power % n))
  turned_word i power word within reduced is low high = ⊎_elim below above (cases_lt power n)
    where
      below : power < n → word ≡ residue q (ring_turn n g (row_polynomial from) (power % n))
      below less =
          low less ∙ sym (mod-eq_of_lt reduced)
          ∙ ap (residue q) (sym (ring_turn_low n g pos_n unit (row_polynomial from) i within (subst (λ p. p < n) is less))
          ∙ ap (ring_turn n g (row_polynomial from)) (sym is ∙ sym (mod-eq_of_lt less)))

      above : n ≤ power → word ≡ residue q (ring_turn n g (row_polynomial from) (power % n))
      above more =
          let bound : g * i % (2 * n) < 2 * n = mod-lt (g * i) (let p = pos_n in omega arith) in
          let place : power % n ≡ power - n = mod-eq-sub-mod more ∙ mod-eq_of_lt (omega (arith, bound, is)) in
          high more ∙ ap (λ r. (q - r) % q) (sym (mod-eq_of_lt reduced)) ∙ sym (residue-neg q (pos (slice_index from i)) pos_q)
          ∙ ap (residue q) (sym (ring_turn_high n g pos_n unit (row_polynomial from) i within (subst (λ p. n ≤ p) is more))
          ∙ ap (ring_turn n g (row_polynomial from)) (ap (λ p. p - n) (sym is) ∙ sym place))

  -- after it is written
  pub TurnedBefore-next : (to : List ℕ) (i power word : ℕ) → i < n → length to ≡ n → slice_index from i < q → power ≡ g * i % (2 * n)
      → (power < n → word ≡ slice_index from i) → (n ≤ power → word ≡ (q - slice_index from i) % q)
      → TurnedBefore n q g from to i → TurnedBefore n q g from (slice_set to (power % n) word) (i + 1)
  TurnedBefore-next to i power word within size reduced is low high before =
      below_more _ _ (λ j less. other j (before j less)) (written (g * i % n) same)
    where
      right : word ≡ residue q (ring_turn n g (row_polynomial from) (power % n))
      right = turned_word i power word within reduced is low high

      same : g * i % n ≡ power % n
      same = sym (mod-mod_of_dvd n (g * i) (dvd-mul_left n 2)) ∙ ap (λ p. p % n) (sym is)

      inside : power % n < length to
      inside = subst (λ l. power % n < l) (sym size) (mod-lt power pos_n)

      written : (place : ℕ) → place ≡ power % n
          → slice_index (slice_set to (power % n) word) place ≡ residue q (ring_turn n g (row_polynomial from) place)
      written place there =
          subst (λ p. slice_index (slice_set to (power % n) word) p ≡ residue q (ring_turn n g (row_polynomial from) p)) (sym there)
          (let within = inside in rw get_or-set_same right)

      other : (j : ℕ) → slice_index to (g * j % n) ≡ residue q (ring_turn n g (row_polynomial from) (g * j % n))
          → slice_index (slice_set to (power % n) word) (g * j % n) ≡ residue q (ring_turn n g (row_polynomial from) (g * j % n))
      other j old = ⊎_elim (written (g * j % n))
          (λ (apart : g * j % n ≢ power % n). get_or-set_other to (power % n) (g * j % n) word 0 apart ∙ old)
          (cases_eq (g * j % n) (power % n))

  -- each place is that of a coefficient
  place_of_source : (k : ℕ) → k < n → g * residue n (unit.inverse *ℤ pos k) % n ≡ k
  place_of_source k within =
      residue_equal n (pos g *ℤ pos (residue n (unit.inverse *ℤ pos k))) (pos k) pos_n
      (Congruent-trans n (Congruent-mul n (Congruent-refl n (pos g)) (Congruent-sym n (Congruent-residue n (unit.inverse *ℤ pos k) pos_n)))
      (Congruent-trans n (Congruent-equal n (identity3 (λ v g i. g ⊗ (v ⊗ i)) (λ v g i. (v ⊗ g) ⊗ i) refl unit.inverse (pos g) (pos k)))
      (Congruent-trans n (Congruent-mul n unit.is_one (Congruent-refl n (pos k))) (Congruent-equal n (int_one_mul (pos k))))))
      ∙ mod-eq_of_lt within

  -- so when all are written the row is turned
  all_turned : (to : List ℕ) → TurnedBefore n q g from to n → (k : ℕ) → k < n → slice_index to k ≡ residue q (ring_turn n g (row_polynomial from) k)
  all_turned to before k within =
      subst (λ p. slice_index to p ≡ residue q (ring_turn n g (row_polynomial from) p)) (place_of_source k within)
      (before (residue n (unit.inverse *ℤ pos k)) (residue_lt n (unit.inverse *ℤ pos k) pos_n))

  pub Turns-all : (to : List ℕ) → TurnedBefore n q g from to n → Turns n q g from to
  Turns-all to before x represents k within =
      all_turned to before k within
      ∙ residue_equal q (ring_turn n g (row_polynomial from) k) (ring_turn n g x k) pos_q
      (ring_turn_congruent q n g (row_polynomial from) x
      (λ i below. Congruent-trans q (Congruent-equal q (ap pos (represents i below))) (Congruent-sym q (Congruent-residue q (x i) pos_q))) k)

  pub IsReduced-all : (to : List ℕ) → TurnedBefore n q g from to n → IsReduced n q to
  IsReduced-all to before k within =
      subst (λ w. w < q) (sym (all_turned to before k within)) (residue_lt q (ring_turn n g (row_polynomial from) k) pos_q)
