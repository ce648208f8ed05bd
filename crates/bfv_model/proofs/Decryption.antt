-- Decryption over residues of a cipher that holds m.
use Rattle.std.proofs.Common.{arith, le_trans, mul-le-mul_left, nat_abs, neg_ℤ, pos, ℕ, ℤ, ◌*ℤ◌, ◌*◌, ◌+◌, ◌-ℤ◌, ◌<◌, ◌≡◌, ◌≤◌}
use Rattle.ring_law.specs.Moduli.{IsFastConversion}
use Rattle.ring_law.specs.Residues.{Congruent, HasInverse, centred_residue, residue}
use Rattle.ring_law.proofs.Congruence.{Congruent-scaled, Congruent-trans}
use Rattle.bfv_model.specs.Holds.{Holds, phase}
use Rattle.bfv_model.proofs.DecryptionResidues.{decrypted_coefficient, room}
use Rattle.bfv_model.proofs.Noise.{Noise, noise_of}

-- what is written is the coefficient of the plaintext
pub decryption_over_residues : {n q t W : ℕ} {x0 x1 x2 s : ℕ → ℤ} {m : ℕ → ℕ} (g L : ℕ) (k : ℕ) (x Y yt yg v : ℤ) → 0 < q → 0 < t * q
    → Holds n q t x0 x1 x2 s m W → 4 * W ≤ q → 4 * (L + 1) ≤ g → k < n → Congruent q x (phase n x0 x1 x2 s k)
    → IsFastConversion q L (pos g *ℤ (pos t *ℤ x)) Y → HasInverse t q → HasInverse g q → Congruent t (yt *ℤ pos q) (neg_ℤ Y)
    → Congruent g (yg *ℤ pos q) (neg_ℤ Y) → Congruent t (v *ℤ pos g) (pos 1) → residue t ((yt -ℤ centred_residue g yg) *ℤ v) ≡ m k
decryption_over_residues {n} {q} {t} {W} {x0} {x1} {x2} {s} {m} g L k x Y yt yg v pos_q some h small many l same conv it ig rt rg unit = from (noise_of some h)
  where
    from : Noise n q t x0 x1 x2 s m W → residue t ((yt -ℤ centred_residue g yg) *ℤ v) ≡ m k
    from z = decrypted_coefficient q t g L x (z.noise k) Y yt yg v (m k) pos_q (h.plain k l)
        (Congruent-trans (t * q) (Congruent-scaled t q same) (record { quotient = z.multiple k; equation = z.equation k }))
        conv (le_trans (wider (nat_abs (z.noise k)) (z.small k l)) (room q L g W small many)) it ig rt rg unit
      where
        wider : (w : ℕ) → w ≤ W → 2 * g * w + 2 * (L + 1) * q ≤ 2 * g * W + 2 * (L + 1) * q
        wider w l = let a : 2 * g * w ≤ 2 * g * W = mul-le-mul_left (2 * g) l in omega arith
