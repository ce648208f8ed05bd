-- Products and key switching on ciphers in residues, whatever polynomials their rows represent.
use Rattle.std.proofs.Common.{List, ap, arith, le_trans, length, pos, slice_index, suc, sym, zero, ℕ, ℤ, ◌*◌, ◌+ℤ◌, ◌+◌, ◌-ℤ◌, ◌<◌, ◌∙◌, ◌≡◌, ◌≤◌}
use Rattle.std.proofs.Math.Nat.{zero-mod}
use Rattle.ring_law.specs.Moduli.{AllAboveOne, product}
use Rattle.ring_law.specs.Polynomials.{AllWithin, CongruentPolynomials, ring_product, ring_sum}
use Rattle.ring_law.specs.Residues.{Congruent, centred_residue}
use Rattle.ring_law.specs.Rows.{WordsRepresent, natural_polynomial}
use Rattle.ring_law.proofs.Congruence.{Congruent-add, Congruent-equal, Congruent-neg, Congruent-refl, Congruent-sym, Congruent-trans}
use Rattle.ring_law.proofs.Moduli.{PairwiseInvertible, positive_from_above_one, product_positive}
use Rattle.ring_law.proofs.PolynomialRing.{ring_product_congruent}
use Rattle.ring_law.proofs.Residues.{Congruent-centred_residue, Congruent-residue, centred_residue_least}
use Rattle.ring_law.proofs.Rows.{WordsRepresent-unique}
use Rattle.bfv_model.specs.Conversions.{IsMontgomeryLift, IsScaledQuotient}
use Rattle.bfv_model.specs.Holds.{CipherHolds, Holds, zero_polynomial}
use Rattle.bfv_model.specs.Keys.{IsSwitchKeyOf, StandsForProduct, switched_part}
use Rattle.bfv_model.specs.NoiseBounds.{product_bound, switch_bound}
use Rattle.bfv_model.specs.Plaintexts.{plain_product}
use Rattle.bfv_model.proofs.Ciphers.{CipherHolds-from}
use Rattle.bfv_model.proofs.DecryptionResidues.{room}
use Rattle.bfv_model.proofs.KeySwitching.{switched_phase}
use Rattle.bfv_model.proofs.Multiplication.{Holds-product}
use Rattle.bfv_model.proofs.Noise.{Holds-congruent}
use Rattle.bfv_model.proofs.SwitchedCiphers.{Holds-relinearised}

-- by the number of a part
abbrev pub part_of : (ℕ → ℤ) → (ℕ → ℤ) → (ℕ → ℤ) → ℕ → ℕ → ℤ
part_of x0 x1 x2 zero = x0
part_of x0 x1 x2 (suc zero) = x1
part_of x0 x1 x2 (suc (suc j)) = x2

-- rows of zeros
pub WordsRepresent-zero : (n : ℕ) (qs : List ℕ) (row : ℕ → ℕ → ℕ) → ((i k : ℕ) → i < length qs → k < n → row i k ≡ 0)
    → WordsRepresent n qs row zero_polynomial
WordsRepresent-zero n qs row h i k b l = h i k b l ∙ sym (zero-mod (slice_index qs i))

-- a cipher of two parts, by the numbers from 0 to q - 1 that its parts stand for
pub CipherHolds-two_parts : {n t : ℕ} {qs : List ℕ} {c : ℕ → ℕ → ℕ → ℕ} {s : ℕ → ℤ} {m : ℕ → ℕ} {W : ℕ} → PairwiseInvertible qs
    → AllAboveOne qs → 0 < t * product qs → (h : CipherHolds n qs t c s m W) → ((i k : ℕ) → i < length qs → k < n → c 2 i k ≡ 0)
    → Holds n (product qs) t (natural_polynomial (h.part 0)) (natural_polynomial (h.part 1)) zero_polynomial s m W
CipherHolds-two_parts {n} {t} {qs} {c} {s} {m} {W} cop big some h z =
    Holds-congruent some (same 0) (same 1)
    (WordsRepresent-unique n qs (c 2) zero_polynomial (natural_polynomial (h.part 2)) cop big (WordsRepresent-zero n qs (c 2) z)
    (h.represents 2 (omega arith))) h.holds
  where
    same : (j : ℕ) → CongruentPolynomials (product qs) n (natural_polynomial (h.part j)) (natural_polynomial (h.part j))
    same j = record { at = λ k l. Congruent-refl (product qs) (pos (h.part j k)) }

-- the product: from lifts u, v of the parts and scaled parts e, which the rows of c stand for
pub CipherHolds-product : {n t M W1 W2 : ℕ} {qs : List ℕ} {a b : ℕ → ℕ → ℕ → ℕ} {s u0 u1 v0 v1 e0 e1 e2 : ℕ → ℤ} {m1 m2 : ℕ → ℕ} (c : ℕ → ℕ
    → ℕ → ℕ) → 0 < n → 0 < product qs → 0 < t → 0 < t * product qs → 0 < M → PairwiseInvertible qs → AllAboveOne qs
    → 4 * (1 + n) * length qs ≤ M → 4 * W1 ≤ product qs → 4 * W2 ≤ product qs → AllWithin n 1 s
    → (ha : CipherHolds n qs t a s m1 W1) (hb : CipherHolds n qs t b s m2 W2) → ((i k : ℕ) → i < length qs → k < n → a 2 i k ≡ 0)
    → ((i k : ℕ) → i < length qs → k < n → b 2 i k ≡ 0) → IsMontgomeryLift n (product qs) M (length qs) (natural_polynomial (ha.part 0)) u0
    → IsMontgomeryLift n (product qs) M (length qs) (natural_polynomial (ha.part 1)) u1
    → IsMontgomeryLift n (product qs) M (length qs) (natural_polynomial (hb.part 0)) v0
    → IsMontgomeryLift n (product qs) M (length qs) (natural_polynomial (hb.part 1)) v1
    → IsScaledQuotient n (product qs) t (length qs) (ring_product n u0 v0) e0
    → IsScaledQuotient n (product qs) t (length qs) (ring_sum (ring_product n u0 v1) (ring_product n u1 v0)) e1
    → IsScaledQuotient n (product qs) t (length qs) (ring_product n u1 v1) e2 → WordsRepresent n qs (c 0) e0 → WordsRepresent n qs (c 1) e1
    → WordsRepresent n qs (c 2) e2 → CipherHolds n qs t c s (plain_product n t m1 m2) (product_bound n t (length qs) W1 W2)
CipherHolds-product {n} {t} {M} {W1} {W2} {qs} {a} {b} {s} {u0} {u1} {v0} {v1} {e0} {e1} {e2} {m1} {m2} c pos_n pos_q pos_t some pos_M cop big room w1 w2 ternary ha hb za zb lu0 lu1 lv0 lv1 s0 s1 s2 r0 r1 r2 =
    CipherHolds-from c (part_of e0 e1 e2) big pos_q some rows
    (Holds-product pos_n pos_q pos_t pos_M room w1 w2 ternary (CipherHolds-two_parts cop big some ha za)
    (CipherHolds-two_parts cop big some hb zb) lu0 lu1 lv0 lv1 s0 s1 s2 (same e0) (same e1) (same e2))
  where
    same : (e : ℕ → ℤ) → CongruentPolynomials (product qs) n e e
    same e = record { at = λ k l. Congruent-refl (product qs) (e k) }

    rows : (j : ℕ) → j < 3 → WordsRepresent n qs (c j) (part_of e0 e1 e2 j)
    rows zero l = r0
    rows (suc zero) l = r1
    rows (suc (suc zero)) l = r2
    rows (suc (suc (suc j))) l = absurd (omega arith)

-- a word is congruent to what it represents
pub WordsRepresent-word : (n : ℕ) (qs : List ℕ) (row : ℕ → ℕ → ℕ) (x : ℕ → ℤ) → AllAboveOne qs → WordsRepresent n qs row x → (i k : ℕ)
    → i < length qs → k < n → Congruent (slice_index qs i) (pos (row i k)) (x k)
WordsRepresent-word n qs row x big h i k b l = Congruent-trans (slice_index qs i) (Congruent-equal (slice_index qs i) (ap pos (h i k b l)))
    (Congruent-sym (slice_index qs i) (Congruent-residue (slice_index qs i) (x k) (positive_from_above_one (slice_index qs i) (big i b))))

-- ---- key switching
-- only the polynomials modulo q count
pub StandsForProduct-congruent : (n q Z : ℕ) (y0 y1 c z0 z1 d source s : ℕ → ℤ) → 0 < q → CongruentPolynomials q n z0 y0
    → CongruentPolynomials q n z1 y1 → CongruentPolynomials q n d c → StandsForProduct n q Z y0 y1 c source s
    → StandsForProduct n q Z z0 z1 d source s
StandsForProduct-congruent n q Z y0 y1 c z0 z1 d source s pos_q h0 h1 hc h k l = le_trans
    (centred_residue_least q (z0 k +ℤ ring_product n z1 s k -ℤ ring_product n d source k)
    (centred_residue q (y0 k +ℤ ring_product n y1 s k -ℤ ring_product n c source k)) pos_q
    (Congruent-trans q (Congruent-add q (Congruent-add q (h0.at k l) ((ring_product_congruent q n {a = z1} {b = y1} {c = s} {d = s} h1 (same s)).at k l)) (Congruent-neg q ((ring_product_congruent q n {a = d} {b = c} {c = source} {d = source} hc (same source)).at k l))) (Congruent-centred_residue q (y0 k +ℤ ring_product n y1 s k -ℤ ring_product n c source k) pos_q)))
    (h k l)
  where
    same : (x : ℕ → ℤ) → CongruentPolynomials q n x x
    same x = record { at = λ k l. Congruent-refl q (x k) }

-- the contract of a switch: for every polynomials that the rows of c and of the pair stand for
pub StandsForProduct-applied : (n P E : ℕ) (qs : List ℕ) (rowc row0 row1 : ℕ → ℕ → ℕ) (c source s : ℕ → ℤ) (k0 k1 : ℕ → ℕ → ℤ) → 0 < n
    → 0 < P → PairwiseInvertible qs → AllAboveOne qs → AllWithin n 1 s → IsSwitchKeyOf n qs P E k0 k1 source s → WordsRepresent n qs rowc c
    → WordsRepresent n qs row0 (switched_part n qs P c k0) → WordsRepresent n qs row1 (switched_part n qs P c k1) → (d z0 z1 : ℕ → ℤ)
    → WordsRepresent n qs rowc d → WordsRepresent n qs row0 z0 → WordsRepresent n qs row1 z1
    → StandsForProduct n (product qs) (switch_bound n E P qs) z0 z1 d source s
StandsForProduct-applied n P E qs rowc row0 row1 c source s k0 k1 pos_n pos_P cop big ternary key rc r0 r1 d z0 z1 rd rz0 rz1 =
    StandsForProduct-congruent n (product qs) (switch_bound n E P qs) (switched_part n qs P c k0)
    (switched_part n qs P c k1) c z0 z1 d source s (product_positive qs big)
    (WordsRepresent-unique n qs row0 z0 (switched_part n qs P c k0) cop big rz0 r0)
    (WordsRepresent-unique n qs row1 z1 (switched_part n qs P c k1) cop big rz1 r1) (WordsRepresent-unique n qs rowc d c cop big rd rc)
    (switched_phase n P E qs pos_n pos_P (product_positive qs big) cop big c source s k0 k1 ternary key)

-- relin of what rows hold
pub CipherHolds-relin : {n t W : ℕ} {qs : List ℕ} {a : ℕ → ℕ → ℕ → ℕ} {s : ℕ → ℤ} {m : ℕ → ℕ} (Z : ℕ) (y0 y1 : ℕ → ℤ) (c : ℕ → ℕ → ℕ → ℕ)
    → AllAboveOne qs → 0 < t * product qs → (h : CipherHolds n qs t a s m W)
    → StandsForProduct n (product qs) Z y0 y1 (natural_polynomial (h.part 2)) (ring_product n s s) s
    → WordsRepresent n qs (c 0) (ring_sum (natural_polynomial (h.part 0)) y0)
    → WordsRepresent n qs (c 1) (ring_sum (natural_polynomial (h.part 1)) y1) → WordsRepresent n qs (c 2) zero_polynomial
    → CipherHolds n qs t c s m (W + t * Z)
CipherHolds-relin {n} {t} {W} {qs} {a} {s} {m} Z y0 y1 c big some h st r0 r1 r2 =
    CipherHolds-from c (part_of (ring_sum (natural_polynomial (h.part 0)) y0) (ring_sum (natural_polynomial (h.part 1)) y1) zero_polynomial) big (product_positive qs big) some rows
    (Holds-relinearised Z y0 y1 (product_positive qs big) some h.holds st)
  where
    rows : (j : ℕ) → j < 3
        → WordsRepresent n qs (c j)
        (part_of (ring_sum (natural_polynomial (h.part 0)) y0) (ring_sum (natural_polynomial (h.part 1)) y1) zero_polynomial j)
    rows zero l = r0
    rows (suc zero) l = r1
    rows (suc (suc zero)) l = r2
    rows (suc (suc (suc j))) l = absurd (omega arith)
