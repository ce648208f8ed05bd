-- Decryption by exact rounding.
use Rattle.std.proofs.Common.{ap, ap₂, arith, nat_abs, pos, refl, sym, ℕ, ℤ, ◌%◌, ◌*ℤ◌, ◌*◌, ◌+ℤ◌, ◌+◌, ◌/◌, ◌<◌, ◌∙◌, ◌≡◌, ◌≤◌}
use Rattle.std.proofs.lemmas.Int.{ints}
use Rattle.ring_law.specs.Residues.{Congruent}
use Rattle.ring_law.proofs.Congruence.{Congruent-scaled, Congruent-sym, Congruent-trans, int_mul_cancel_left}
use Rattle.ring_law.proofs.Residues.{residue_unique}
use Rattle.ring_law.proofs.RingSolver.{identity3, identity5, ◌⊕◌, ◌⊗◌}
use Rattle.bfv_model.specs.Holds.{Holds, nearest_quotient, phase}
use Rattle.bfv_model.proofs.DecryptionResidues.{room}
use Rattle.bfv_model.proofs.Noise.{mul_positive, noise_of}

-- a quotient with its rest
quotient_unique : (d a : ℕ) (v : ℤ) (e : ℕ) → 0 < d → e < d → pos a ≡ v *ℤ pos d +ℤ pos e → pos (a / d) ≡ v
quotient_unique d a v e positive below is =
    let rest : e ≡ a % d = residue_unique d (pos a) e below
    (Congruent-sym d (record { quotient = v; equation = is ∙ swap (v *ℤ pos d) (pos e) })) in
    let whole : pos a ≡ pos d *ℤ pos (a / d) +ℤ pos (a % d) = ap pos (division d a positive) in
    int_mul_cancel_left d (pos (a / d)) v positive
    (same (pos d *ℤ pos (a / d)) (pos (a % d)) (v *ℤ pos d) (pos e) (pos a) whole is (ap pos rest) ∙ turn v (pos d))
  where
    division : (d a : ℕ) → 0 < d → a ≡ d * (a / d) + a % d
    division d a positive = omega arith

    swap : (x y : ℤ) → x +ℤ y ≡ y +ℤ x
    swap x y = omega (arith, ints)

    same : (x r y e a : ℤ) → a ≡ x +ℤ r → a ≡ y +ℤ e → e ≡ r → x ≡ y
    same x r y e a first second rest = omega (arith, ints)

    turn : (x y : ℤ) → x *ℤ y ≡ y *ℤ x
    turn x y = omega (arith, ints)

-- y is v times q but for less than half of q
nearest_is : (q y : ℕ) (v w : ℤ) → pos y ≡ v *ℤ pos q +ℤ w → 2 * nat_abs w < q → pos (nearest_quotient y q) ≡ v
nearest_is q y v w is small =
    let positive : 0 < 2 * q = omega arith in
    let rest : (e : ℕ) × (pos e ≡ w +ℤ w +ℤ pos q) × (e < 2 * q) = shifted w q small in
    quotient_unique (2 * q) (2 * y + q) v rest.0 positive rest.2
    (doubled y q ∙ ap (λ z. z +ℤ z +ℤ pos q) is
    ∙ identity3 (λ v q w. (v ⊗ q ⊕ w) ⊕ (v ⊗ q ⊕ w) ⊕ q) (λ v q w. v ⊗ (q ⊕ q) ⊕ (w ⊕ w ⊕ q)) refl v (pos q) w
    ∙ ap₂ (λ d e. v *ℤ d +ℤ e) (twice q) (sym rest.1))
  where
    shifted : (w : ℤ) (q : ℕ) → 2 * nat_abs w < q → (e : ℕ) × (pos e ≡ w +ℤ w +ℤ pos q) × (e < 2 * q)
    shifted w q small = (nat_abs (w +ℤ w +ℤ pos q), omega (arith, ints), omega (arith, ints))

    doubled : (y q : ℕ) → pos (2 * y + q) ≡ pos y +ℤ pos y +ℤ pos q
    doubled y q = omega (arith, ints)

    twice : (q : ℕ) → pos q +ℤ pos q ≡ pos (2 * q)
    twice q = omega (arith, ints)

-- one coefficient: x is congruent to what t times it shows
rounded : (q t x m : ℕ) (w : ℤ) → m < t → Congruent (t * q) (pos t *ℤ pos x) (pos q *ℤ pos m +ℤ w) → 2 * nat_abs w < q
    → nearest_quotient (t * x) q % t ≡ m
rounded q t x m w plain same small =
    let v = pos m +ℤ same.quotient *ℤ pos t in
    let is : pos (t * x) ≡ v *ℤ pos q +ℤ w =
    same.equation
    ∙ identity5 (λ q m w k t. q ⊗ m ⊕ w ⊕ k ⊗ (t ⊗ q)) (λ q m w k t. (m ⊕ k ⊗ t) ⊗ q ⊕ w) refl (pos q) (pos m) w same.quotient (pos t) in
    sym (residue_unique t (pos (nearest_quotient (t * x) q)) m plain
    (Congruent-sym t (record { quotient = same.quotient; equation = nearest_is q (t * x) v w is small })))

-- the plaintext of a cipher with noise of at most q/4
pub decryption_by_rounding : (n q t : ℕ) (x0 x1 x2 s : ℕ → ℤ) (m : ℕ → ℕ) (W : ℕ) → 0 < q → Holds n q t x0 x1 x2 s m W → 4 * W ≤ q
    → (x : ℕ → ℕ) (k : ℕ) → k < n → Congruent q (pos (x k)) (phase n x0 x1 x2 s k) → nearest_quotient (t * x k) q % t ≡ m k
decryption_by_rounding n q t x0 x1 x2 s m W positive holds room x k below same =
    let plain : m k < t = holds.plain k below in
    let whole : 0 < t * q = mul_positive t q (omega arith) positive in
    let z = noise_of whole holds in
    let small = z.small k below in
    rounded q t (x k) (m k) (z.noise k) plain
    (Congruent-trans (t * q) (Congruent-scaled t q same) (record { quotient = z.multiple k; equation = z.equation k })) (omega arith)
