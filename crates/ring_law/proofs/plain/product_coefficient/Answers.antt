use Rattle.std.proofs.Common.{◌≡◌, ℕ, ◌+◌, ◌-◌, ◌*◌, ◌%◌, ◌<◌, ◌≤◌, List, slice_index, arith, sym, ap, ◌∙◌, ◌+ℤ◌, suc}
use Rattle.std.proofs.Math.Nat.{zero-mod}
use Rattle.ring_law.specs.Sums.{sum_below}
use Rattle.ring_law.specs.Residues.{residue}
use Rattle.ring_law.specs.Rows.{row_polynomial}
use Rattle.ring_law.proofs.Sums.{sum_below-suc}
use Rattle.ring_law.proofs.Residues.{residue_add, residue_sub}
use Rattle.ring_law.proofs.ProductPairs.{pair_term, pair_term_low, pair_term_high, ring_product-pairs}
use Rattle.ring_law.proofs.plain.product_coefficient.Goals as goal
use Rattle.ring_law.proofs.plain.product_coefficient.Goals.{then-i-k, else-i-k}

-- the terms of the pairs before i
module _ (n q k : ℕ) (a b : List ℕ) where
  abbrev terms : ℕ → ℕ
  terms i = residue q (sum_below i (pair_term n (row_polynomial a) (row_polynomial b) k))

  next : (i : ℕ) →
      sum_below i (pair_term n (row_polynomial a) (row_polynomial b) k) +ℤ pair_term n (row_polynomial a) (row_polynomial b) k i ≡ sum_below (i + 1)
      (pair_term n (row_polynomial a) (row_polynomial b) k)
  next i =
      sym (sum_below-suc i (pair_term n (row_polynomial a) (row_polynomial b) k))
      ∙ ap (λ m. sum_below m (pair_term n (row_polynomial a) (row_polynomial b) k)) (more i)
    where
      more : (i : ℕ) → suc i ≡ i + 1
      more i = omega arith

  add : (i sum word : ℕ) → 0 < q → i ≤ k → sum ≡ terms i → word ≡ (sum + slice_index a i * slice_index b (k - i) % q) % q → word ≡ terms (i + 1)
  add i sum word positive low e d =
      residue_add q sum (slice_index a i * slice_index b (k - i)) word (sum_below i (pair_term n (row_polynomial a) (row_polynomial b) k)) positive e d
      ∙ ap (λ t. residue q (sum_below i (pair_term n (row_polynomial a) (row_polynomial b) k) +ℤ t))
      (sym (pair_term_low n (row_polynomial a) (row_polynomial b) k i low)) ∙ ap (residue q) (next i)

  subtract : (i sum word : ℕ) → 0 < q → k < i → sum ≡ terms i → word ≡ (sum + (q - slice_index a i * slice_index b (k + n - i) % q)) % q →
      word ≡ terms (i + 1)
  subtract i sum word positive high e d =
      residue_sub q sum (slice_index a i * slice_index b (k + n - i)) word (sum_below i (pair_term n (row_polynomial a) (row_polynomial b) k)) positive e d
      ∙ ap (λ t. residue q (sum_below i (pair_term n (row_polynomial a) (row_polynomial b) k) +ℤ t))
      (sym (pair_term_high n (row_polynomial a) (row_polynomial b) k i high)) ∙ ap (residue q) (next i)

pub loop-i-init : goal.loop-i-init
unfolding sum_below
loop-i-init g c = sym (zero-mod c.args.q)

pub loop-i-preserved : goal.loop-i-preserved
loop-i-preserved g c = elim c.if-i-k.branch [
  | then-i-k w ↦ add g.row.N c.args.q c.args.k c.args.a.now c.args.b.now c.loop-i.i c.loop-i.sum c.if-i-k.sum c.requires.positive w.if-i-k.true c.loop-i.invariant
      (w.sum-is ∙ ap (λ product. (c.loop-i.sum + product) % c.args.q) w.mul_mod.ensures)
  | else-i-k w ↦ subtract g.row.N c.args.q c.args.k c.args.a.now c.args.b.now c.loop-i.i c.loop-i.sum c.if-i-k.sum c.requires.positive w.if-i-k.false c.loop-i.invariant
      (w.sum-is ∙ ap (λ product. (c.loop-i.sum + (c.args.q - product)) % c.args.q) w.mul_mod-else-i-k.ensures)
]

pub returns : goal.returns
returns g c =
    let all : c.loop-i.i ≡ g.row.N = omega arith in
    c.loop-i.invariant
    ∙ ap (terms g.row.N c.args.q c.args.k c.args.a.now c.args.b.now) all
    ∙ ap (residue c.args.q) (sym (ring_product-pairs g.row.N (row_polynomial c.args.a.now) (row_polynomial c.args.b.now) c.args.k c.requires.place))
