-- What drawn keys and ciphers are: the relations of the keys, and what a fresh cipher holds.
use Rattle.std.proofs.Common.{List, arith, le_trans, length, nat_abs, neg_ℤ, pos, refl, slice_index, subst, suc, sym, zero, ℕ, ℤ, ◌*◌, ◌+ℤ◌, ◌<◌, ◌∙◌, ◌≡◌, ◌≤◌}
use Rattle.std.proofs.lemmas.Int.{ints}
use Rattle.std.proofs.lemmas.List.Elements.{All-from_get_or}
use Rattle.ring_law.specs.Moduli.{AllAboveOne, product}
use Rattle.ring_law.specs.Polynomials.{AllWithin, CongruentPolynomials, ring_product, ring_sum}
use Rattle.ring_law.specs.Residues.{Congruent, residue}
use Rattle.ring_law.specs.Rows.{WordsRepresent}
use Rattle.ring_law.proofs.ChineseRemainder.{chinese_remainder_unique}
use Rattle.ring_law.proofs.Congruence.{Congruent-add, Congruent-equal, Congruent-refl, Congruent-sym, Congruent-trans}
use Rattle.ring_law.proofs.Moduli.{PairwiseInvertible, positive_from_above_one, product_positive}
use Rattle.ring_law.proofs.PolynomialRing.{ring_product_congruent}
use Rattle.ring_law.proofs.Residues.{Congruent-from_residues, centred_residue_least, residue_equal}
use Rattle.bfv_model.specs.Drawn.{drawn_cipher, drawn_error, drawn_mask, drawn_public, drawn_ternary, greatest_error, greatest_ternary}
use Rattle.bfv_model.specs.Holds.{CipherHolds, zero_polynomial}
use Rattle.bfv_model.specs.Keys.{IsPublicKeyOf}
use Rattle.bfv_model.specs.NoiseBounds.{fresh_bound, fresh_bound_under}
use Rattle.bfv_model.specs.Plaintexts.{scaled_plain}
use Rattle.bfv_model.proofs.CipherOperations.{WordsRepresent-word, WordsRepresent-zero, part_of}
use Rattle.bfv_model.proofs.Ciphers.{CipherHolds-from}
use Rattle.bfv_model.proofs.DrawnSamples.{drawn_error_within, drawn_ternary_within}
use Rattle.bfv_model.proofs.FreshNoise.{fresh_bound-ternary}
use Rattle.bfv_model.proofs.LinearOperations.{Holds-fresh}
use Rattle.bfv_model.proofs.Noise.{mul_positive}

-- words that are the residues of a polynomial, computed from the words of others
WordsRepresent-residues : (n : ℕ) (moduli : List ℕ) (word : ℕ → ℕ → ℕ) (x : ℕ → ℤ) → AllAboveOne moduli
    → ((i k : ℕ) → i < length moduli → k < n
    → (y : ℤ) × (word i k ≡ residue (slice_index moduli i) y) × Congruent (slice_index moduli i) y (x k)) → WordsRepresent n moduli word x
WordsRepresent-residues n moduli word x big each i k row place =
    let here = each i k row place in
    here.1 ∙ residue_equal (slice_index moduli i) here.0 (x k) (positive_from_above_one (slice_index moduli i) (big i row)) here.2

-- congruent modulo each modulus, so modulo their product
Congruent-product : (moduli : List ℕ) (x y : ℤ) → PairwiseInvertible moduli
    → ((i : ℕ) → i < length moduli → Congruent (slice_index moduli i) x y) → Congruent (product moduli) x y
Congruent-product moduli x y coprime each = chinese_remainder_unique moduli coprime x y
    (All-from_get_or (λ q. Congruent q x y) moduli 0 each)

-- the polynomial of a row is that which the row represents
row_congruent : (n : ℕ) (moduli : List ℕ) (word : ℕ → ℕ → ℕ) (x : ℕ → ℤ) (i : ℕ) → AllAboveOne moduli → i < length moduli
    → WordsRepresent n moduli word x → CongruentPolynomials (slice_index moduli i) n (λ z. pos (word i z)) x
row_congruent n moduli word x i big row represents = record { at = λ k place. WordsRepresent-word n moduli word x big represents i k row place }

-- a drawn public key is one of its secret
pub drawn_public-IsPublicKeyOf : (n : ℕ) (moduli : List ℕ) (s : ℕ → ℤ) (words : ℕ → ℕ) (p0 p1 : ℕ → ℤ) → PairwiseInvertible moduli
    → AllAboveOne moduli → WordsRepresent n moduli (drawn_public n moduli s words 0) p0
    → WordsRepresent n moduli (drawn_public n moduli s words 1) p1 → IsPublicKeyOf n (product moduli) greatest_error p0 p1 s
drawn_public-IsPublicKeyOf n moduli s words p0 p1 coprime big first second k place =
    le_trans (centred_residue_least (product moduli) (p0 k +ℤ ring_product n p1 s k) (neg_ℤ (drawn_error words 0 k))
    (product_positive moduli big)
    (Congruent-product moduli (p0 k +ℤ ring_product n p1 s k) (neg_ℤ (drawn_error words 0 k)) coprime each))
    (within (drawn_error words 0 k) (drawn_error_within n words 0 k place))
  where
    within : (e : ℤ) → nat_abs e ≤ 21 → nat_abs (neg_ℤ e) ≤ 21
    within e small = omega (arith, ints)

    each : (i : ℕ) → i < length moduli → Congruent (slice_index moduli i) (p0 k +ℤ ring_product n p1 s k) (neg_ℤ (drawn_error words 0 k))
    each i row =
        let q = slice_index moduli i in
        let mask : ℕ → ℤ = λ z. pos (drawn_mask n moduli words i z) in
        let left : Congruent q (p0 k) (neg_ℤ (ring_product n mask s k +ℤ drawn_error words 0 k)) =
        Congruent-from_residues q (p0 k) (neg_ℤ (ring_product n mask s k +ℤ drawn_error words 0 k)) (positive_from_above_one q (big i row))
        (sym (first i k row place)) in
        let right : Congruent q (ring_product n p1 s k) (ring_product n mask s k) =
        Congruent-sym q ((ring_product_congruent q n (row_congruent n moduli (drawn_public n moduli s words 1) p1 i big row second) (record { at = λ j _. Congruent-refl q (s j) })).at k place) in
        Congruent-trans q (Congruent-add q left right) (Congruent-equal q (cancel (ring_product n mask s k) (drawn_error words 0 k)))
      where
        cancel : (a e : ℤ) → neg_ℤ (a +ℤ e) +ℤ a ≡ neg_ℤ e
        cancel a e = omega (arith, ints)

-- a drawn cipher holds its plaintext under every secret of its public key, within the bound that their sizes give
pub drawn_cipher-CipherHolds_under : (n t K S : ℕ) (moduli : List ℕ) (p : ℕ → ℕ → ℕ → ℕ) (p0 p1 s : ℕ → ℤ) (m words : ℕ → ℕ) → 0 < n → 0 < t
    → PairwiseInvertible moduli → AllAboveOne moduli → WordsRepresent n moduli (p 0) p0 → WordsRepresent n moduli (p 1) p1
    → IsPublicKeyOf n (product moduli) K p0 p1 s → AllWithin n S s → ((k : ℕ) → k < n → m k < t)
    → CipherHolds n moduli t (drawn_cipher n moduli (product moduli) t p m words) s m (fresh_bound_under n t greatest_error K S)
drawn_cipher-CipherHolds_under n t K S moduli p p0 p1 s m words pos_n pos_t coprime big first second key secret plain =
    CipherHolds-from (drawn_cipher n moduli (product moduli) t p m words) (part_of c0 c1 zero_polynomial) big pos_q some rows
    (Holds-fresh n (product moduli) t greatest_error K S p0 p1 s u e1 e2 c0 c1 m pos_n pos_t pos_q some key secret (drawn_ternary_within n words)
    (drawn_error_within n words n) (drawn_error_within n words (2 * n)) plain
    (record { at = λ k _. Congruent-refl (product moduli) (c0 k) }) (record { at = λ k _. Congruent-refl (product moduli) (c1 k) }))
  where
    u : ℕ → ℤ
    u = drawn_ternary words

    e1 : ℕ → ℤ
    e1 = drawn_error words n

    e2 : ℕ → ℤ
    e2 = drawn_error words (2 * n)

    c0 : ℕ → ℤ
    c0 = ring_sum (ring_sum (ring_product n p0 u) e1) (λ k. pos (scaled_plain (product moduli) t (m k)))

    c1 : ℕ → ℤ
    c1 = ring_sum (ring_product n p1 u) e2

    pos_q : 0 < product moduli
    pos_q = product_positive moduli big

    some : 0 < t * product moduli
    some = mul_positive t (product moduli) pos_t pos_q

    masked : (j : ℕ) (x : ℕ → ℤ) (i k : ℕ) → WordsRepresent n moduli (p j) x → i < length moduli → k < n
        → Congruent (slice_index moduli i) (ring_product n (λ z. pos (p j i z)) u k) (ring_product n x u k)
    masked j x i k represents row place =
        (ring_product_congruent (slice_index moduli i) n (row_congruent n moduli (p j) x i big row represents)
        (record { at = λ z _. Congruent-refl (slice_index moduli i) (u z) })).at k place

    rows : (j : ℕ) → j < 3
        → WordsRepresent n moduli (drawn_cipher n moduli (product moduli) t p m words j) (part_of c0 c1 zero_polynomial j)
    rows zero l = WordsRepresent-residues n moduli (drawn_cipher n moduli (product moduli) t p m words 0) c0 big (λ i k row place. (
      ring_product n (λ z. pos (p 0 i z)) u k +ℤ e1 k +ℤ pos (scaled_plain (product moduli) t (m k)),
      refl,
      Congruent-add (slice_index moduli i)
          (Congruent-add (slice_index moduli i) (masked 0 p0 i k first row place) (Congruent-refl (slice_index moduli i) (e1 k)))
          (Congruent-refl (slice_index moduli i) (pos (scaled_plain (product moduli) t (m k)))),
    ))
    rows (suc zero) l = WordsRepresent-residues n moduli (drawn_cipher n moduli (product moduli) t p m words 1) c1 big (λ i k row place. (
      ring_product n (λ z. pos (p 1 i z)) u k +ℤ e2 k,
      refl,
      Congruent-add (slice_index moduli i) (masked 1 p1 i k second row place) (Congruent-refl (slice_index moduli i) (e2 k)),
    ))
    rows (suc (suc zero)) l = WordsRepresent-zero n moduli (drawn_cipher n moduli (product moduli) t p m words 2) (λ i k row place. refl)
    rows (suc (suc (suc j))) l = absurd (omega arith)

-- under a key that is no worse than a drawn one, and a ternary secret, this is the fresh bound
pub drawn_cipher-CipherHolds : (n t : ℕ) (moduli : List ℕ) (p : ℕ → ℕ → ℕ → ℕ) (p0 p1 s : ℕ → ℤ) (m words : ℕ → ℕ) → 0 < n → 0 < t
    → PairwiseInvertible moduli → AllAboveOne moduli → WordsRepresent n moduli (p 0) p0 → WordsRepresent n moduli (p 1) p1
    → IsPublicKeyOf n (product moduli) greatest_error p0 p1 s → AllWithin n greatest_ternary s → ((k : ℕ) → k < n → m k < t)
    → CipherHolds n moduli t (drawn_cipher n moduli (product moduli) t p m words) s m (fresh_bound n t greatest_error)
drawn_cipher-CipherHolds n t moduli p p0 p1 s m words pos_n pos_t coprime big first second key ternary plain =
    subst (λ (bound : ℕ). CipherHolds n moduli t (drawn_cipher n moduli (product moduli) t p m words) s m bound)
    (fresh_bound-ternary n t greatest_error)
    (drawn_cipher-CipherHolds_under n t greatest_error greatest_ternary moduli p p0 p1 s m words pos_n pos_t coprime big first second key ternary plain)
