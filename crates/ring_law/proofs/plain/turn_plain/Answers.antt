use Rattle.std.proofs.Common.{◌≡◌, ◌≢◌, ℕ, ◌+◌, ◌-◌, ◌*◌, ◌%◌, ◌<◌, ◌≤◌, List, length, slice_index, slice_set, arith, refl, sym, ap, subst, ◌∙◌, ℤ, pos, neg_ℤ, ◌+ℤ◌, ◌*ℤ◌, suc, ⊎_elim, get_or-set_other, get_or-set_same, length-set, mod-lt, mod-eq_of_lt}
use Rattle.std.proofs.Math.Nat.{zero-mod}
use Rattle.std.proofs.lemmas.Bool.{cases_eq}
use Rattle.std.proofs.lemmas.Int.{ints}
use Rattle.std.proofs.lemmas.List.{get_or-replicate, length-replicate}
use Rattle.ring_law.specs.Sums.{sum_below}
use Rattle.ring_law.specs.Residues.{residue}
use Rattle.ring_law.specs.Polynomials.{power_coefficient, ring_turn}
use Rattle.ring_law.specs.Rows.{row_polynomial, RowRepresents}
use Rattle.ring_law.proofs.Sums.{sum_below-suc}
use Rattle.ring_law.proofs.Residues.{residue_add, residue_sub}
use Rattle.ring_law.proofs.PowerCoefficients.{power_coefficient_mod, power_coefficient_past, power_coefficient_here, power_coefficient_apart}
use Rattle.ring_law.proofs.plain.turn_plain.Goals as goal
use Rattle.ring_law.proofs.plain.turn_plain.Goals.{then-power, else-power}

-- the turn of the coefficients before i
module _ (n q g : ℕ) (from : List ℕ) (pos_n : 0 < n) (pos_q : 0 < q) where
  term : ℕ → ℕ → ℤ
  term k i = row_polynomial from i *ℤ power_coefficient n (g * i) k

  abbrev turned : ℕ → ℕ → ℤ
  turned i k = sum_below i (λ i. row_polynomial from i *ℤ power_coefficient n (g * i) k)

  next : (i k : ℕ) (z : ℤ) → row_polynomial from i *ℤ power_coefficient n (g * i) k ≡ z → turned i k +ℤ z ≡ turned (i + 1) k
  next i k z e =
      ap (λ z. turned i k +ℤ z) (sym e) ∙ sym (sum_below-suc i (λ i. row_polynomial from i *ℤ power_coefficient n (g * i) k))
      ∙ ap (λ m. turned m k) (more i)
    where
      more : (i : ℕ) → suc i ≡ i + 1
      more i = omega arith

  stays : (i k : ℕ) → power_coefficient n (g * i) k ≡ pos 0 → turned i k ≡ turned (i + 1) k
  stays i k e = sym (plus_zero (turned i k)) ∙ next i k (pos 0) (ap (λ c. row_polynomial from i *ℤ c) e ∙ times_zero (row_polynomial from i))
    where
      plus_zero : (z : ℤ) → z +ℤ pos 0 ≡ z
      plus_zero z = omega (arith, ints)

      times_zero : (z : ℤ) → z *ℤ pos 0 ≡ pos 0
      times_zero z = omega (arith, ints)

  -- word i is added where its power is below n
  add : (i power : ℕ) (to : List ℕ) → power ≡ g * i % (2 * n) → power < n → length to ≡ n → RowRepresents n q to (turned i) →
      RowRepresents n q (slice_set to power ((slice_index to power + slice_index from i % q) % q)) (turned (i + 1))
  add i power to is low e done k l = ⊎_elim here apart (cases_eq k power)
    where
      at : (k : ℕ) → power_coefficient n (g * i) k ≡ power_coefficient n power k
      at k = power_coefficient_mod n (g * i) k pos_n ∙ ap (λ s. power_coefficient n s k) (sym is)

      one : (z : ℤ) → z *ℤ pos 1 ≡ z
      one z = omega (arith, ints)

      word : ℕ
      word = (slice_index to power + slice_index from i % q) % q

      here : k ≡ power → slice_index (slice_set to power ((slice_index to power + slice_index from i % q) % q)) k ≡ residue q (turned (i + 1) k)
      here same =
          subst (λ k. slice_index (slice_set to power ((slice_index to power + slice_index from i % q) % q)) k ≡ residue q (turned (i + 1) k)) (sym same)
          (let inside : power < length to = omega arith in rw get_or-set_same
          (residue_add q (slice_index to power) (slice_index from i) ((slice_index to power + slice_index from i % q) % q) (turned i power) pos_q
          (done power low) refl
          ∙ ap (residue q)
          (next i power (row_polynomial from i)
          (ap (λ c. row_polynomial from i *ℤ c) (at power ∙ power_coefficient_here n power low) ∙ one (row_polynomial from i)))))

      apart : k ≢ power → slice_index (slice_set to power ((slice_index to power + slice_index from i % q) % q)) k ≡ residue q (turned (i + 1) k)
      apart other =
          rw get_or-set_other (done k l ∙ ap (residue q) (stays i k (at k ∙ power_coefficient_apart n power k (λ e. other (sym e ∙ mod-eq_of_lt low)))))

  -- and subtracted where its power is from n on
  subtract : (i power : ℕ) (to : List ℕ) → power ≡ g * i % (2 * n) → n ≤ power → length to ≡ n → RowRepresents n q to (turned i) →
      RowRepresents n q (slice_set to (power - n) ((slice_index to (power - n) + (q - slice_index from i % q)) % q)) (turned (i + 1))
  subtract i power to is high e done k l = ⊎_elim here apart (cases_eq k (power - n))
    where
      low : power - n < n
      low = let bound : g * i % (2 * n) < 2 * n = mod-lt (g * i) (let p = pos_n in omega arith) in omega arith

      at : (k : ℕ) → power_coefficient n (g * i) k ≡ neg_ℤ (power_coefficient n (power - n) k)
      at k = power_coefficient_mod n (g * i) k pos_n ∙ ap (λ s. power_coefficient n s k) (sym is) ∙ power_coefficient_past n power k pos_n high

      minus_one : (z : ℤ) → z *ℤ neg_ℤ (pos 1) ≡ neg_ℤ z
      minus_one z = omega (arith, ints)

      here : k ≡ power - n →
          slice_index (slice_set to (power - n) ((slice_index to (power - n) + (q - slice_index from i % q)) % q)) k ≡ residue q (turned (i + 1) k)
      here same =
          subst (λ k. slice_index (slice_set to (power - n) ((slice_index to (power - n) + (q - slice_index from i % q)) % q)) k
          ≡ residue q (turned (i + 1) k)) (sym same)
          (let inside : power - n < length to = omega arith in rw get_or-set_same
          (residue_sub q (slice_index to (power - n)) (slice_index from i) ((slice_index to (power - n) + (q - slice_index from i % q)) % q)
          (turned i (power - n)) pos_q (done (power - n) low) refl
          ∙ ap (residue q)
          (next i (power - n) (neg_ℤ (row_polynomial from i))
          (ap (λ c. row_polynomial from i *ℤ c) (at (power - n) ∙ ap neg_ℤ (power_coefficient_here n (power - n) low)) ∙ minus_one (row_polynomial from i)))))

      apart : k ≢ power - n →
          slice_index (slice_set to (power - n) ((slice_index to (power - n) + (q - slice_index from i % q)) % q)) k ≡ residue q (turned (i + 1) k)
      apart other =
          rw get_or-set_other
          (done k l ∙ ap (residue q) (stays i k (at k ∙ ap neg_ℤ (power_coefficient_apart n (power - n) k (λ e. other (sym e ∙ mod-eq_of_lt low))))))

pub loop-place-init : goal.loop-place-init
unfolding sum_below
loop-place-init g c = record {
  words = ap length c.clear.ensures ∙ length-replicate g.row.N 0;
  done = λ k l. ap (λ row. slice_index row k) c.clear.ensures ∙ get_or-replicate g.row.N k 0 0 l ∙ sym (zero-mod c.args.q);
}

pub loop-place-preserved : goal.loop-place-preserved
loop-place-preserved g c =
    let some : 0 < g.row.N = omega arith in
    let power : ℕ = c.args.g * c.loop-place.place % (2 * g.row.N) in
    elim c.if-power.branch [
      | then-power w ↦ record {
        words = ap length w.to-is ∙ length-set _ _ _ ∙ c.loop-place.invariant.words;
        done =
            λ k l. ap (λ row. slice_index row k) w.to-is
            ∙ add g.row.N c.args.q c.args.g c.args.from.now some c.requires.positive c.loop-place.place power c.loop-place.to refl w.if-power.true c.loop-place.invariant.words c.loop-place.invariant.done k l;
      }
      | else-power w ↦ record {
        words = ap length w.to-is ∙ length-set _ _ _ ∙ c.loop-place.invariant.words;
        done =
            λ k l. ap (λ row. slice_index row k) w.to-is
            ∙ subtract g.row.N c.args.q c.args.g c.args.from.now some c.requires.positive c.loop-place.place power c.loop-place.to refl w.if-power.false c.loop-place.invariant.words c.loop-place.invariant.done k l;
      }
    ]

pub returns : goal.returns
unfolding ring_turn
returns g c =
    λ k l. let all : c.loop-place.place ≡ g.row.N = omega arith in c.loop-place.invariant.done k l
    ∙ ap (λ m. residue c.args.q (sum_below m (λ i. row_polynomial c.args.from.now i *ℤ power_coefficient g.row.N (c.args.g * i) k))) all
