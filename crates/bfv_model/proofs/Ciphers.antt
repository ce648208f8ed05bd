-- Ciphers in residues, and the polynomials that they represent.
use Rattle.std.proofs.Common.{List, [], ap, ap₂, arith, lit<, mod-eq_of_lt, mul-le-mul_right, pos, subst, suc, ℕ, ℤ, ◌%◌, ◌*◌, ◌+◌, ◌/◌, ◌<◌, ◌∙◌, ◌∷◌, ◌≡◌, ◌≤◌}
use Rattle.std.proofs.lemmas.Nat.{div-mul-add, mod-mul-add}
use Rattle.ring_law.specs.Moduli.{AllAboveOne, product}
use Rattle.ring_law.specs.Polynomials.{CongruentPolynomials}
use Rattle.ring_law.specs.Residues.{residue}
use Rattle.ring_law.specs.Rows.{WordsRepresent, natural_polynomial}
use Rattle.ring_law.proofs.Congruence.{Congruent-sym}
use Rattle.ring_law.proofs.Moduli.{PairwiseInvertible}
use Rattle.ring_law.proofs.PolynomialRing.{CongruentPolynomials-equal}
use Rattle.ring_law.proofs.Residues.{Congruent-residue, residue_lt}
use Rattle.ring_law.proofs.Rows.{WordsRepresent-congruent, WordsRepresent-unique}
use Rattle.ring_law.proofs.Values.{get_or-values_below}
use Rattle.bfv_model.specs.Holds.{CipherHolds, Holds, listed_words, stored_word}
use Rattle.bfv_model.proofs.Noise.{Holds-congruent, mul_positive}

-- with one data modulus the words are the coefficients
pub CipherHolds-one_modulus : {n q t : ℕ} {word : ℕ → ℕ → ℕ → ℕ} {s : ℕ → ℤ} {m : ℕ → ℕ} {W : ℕ} → 0 < q → 0 < t
    → CipherHolds n (q ∷ []) t word s m W
    → Holds n q t (natural_polynomial (word 0 0)) (natural_polynomial (word 1 0)) (natural_polynomial (word 2 0)) s m W
unfolding product
CipherHolds-one_modulus {n} {q} {t} {word} {s} {m} {W} positive plain_positive c =
    Holds-congruent whole (words 0 (lit< tt)) (words 1 (lit< tt)) (words 2 (lit< tt)) held
  where
    one : q * 1 ≡ q
    one = omega arith

    whole : 0 < t * q
    whole = mul_positive t q plain_positive positive

    held : Holds n q t (natural_polynomial (c.part 0)) (natural_polynomial (c.part 1)) (natural_polynomial (c.part 2)) s m W
    held = subst (λ (p : ℕ). Holds n p t (natural_polynomial (c.part 0)) (natural_polynomial (c.part 1)) (natural_polynomial (c.part 2)) s m W) one c.holds

    words : (j : ℕ) → j < 3 → CongruentPolynomials q n (natural_polynomial (word j 0)) (natural_polynomial (c.part j))
    words j in_cipher = CongruentPolynomials-equal q n (λ k below.
        let small : c.part j k < q * 1 = c.below j k in_cipher below in
        ap pos (c.represents j in_cipher 0 k (lit< tt) below ∙ mod-eq_of_lt (omega arith)))

-- any polynomials that the rows stand for hold m
pub CipherHolds-any : {n t : ℕ} {qs : List ℕ} {c : ℕ → ℕ → ℕ → ℕ} {s : ℕ → ℤ} {m : ℕ → ℕ} {W : ℕ} (y : ℕ → ℕ → ℤ) → PairwiseInvertible qs
    → AllAboveOne qs → 0 < t * product qs → CipherHolds n qs t c s m W → ((j : ℕ) → j < 3 → WordsRepresent n qs (c j) (y j))
    → Holds n (product qs) t (y 0) (y 1) (y 2) s m W
CipherHolds-any {n} {t} {qs} {c} {s} {m} {W} y cop big some h r = Holds-congruent some (one 0 (omega arith)) (one 1 (omega arith))
    (one 2 (omega arith)) h.holds
  where
    one : (j : ℕ) → j < 3 → CongruentPolynomials (product qs) n (y j) (natural_polynomial (h.part j))
    one j b = WordsRepresent-unique n qs (c j) (y j) (natural_polynomial (h.part j)) cop big (r j b) (h.represents j b)

-- and words that represent polynomials which hold m hold m
pub CipherHolds-from : {n t : ℕ} {qs : List ℕ} {s : ℕ → ℤ} {m : ℕ → ℕ} {W : ℕ} (c : ℕ → ℕ → ℕ → ℕ) (y : ℕ → ℕ → ℤ) → AllAboveOne qs
    → 0 < product qs → 0 < t * product qs → ((j : ℕ) → j < 3 → WordsRepresent n qs (c j) (y j))
    → Holds n (product qs) t (y 0) (y 1) (y 2) s m W → CipherHolds n qs t c s m W
CipherHolds-from {n} {t} {qs} {s} {m} {W} c y big pos_q some r h = record {
  part = λ j k. residue (product qs) (y j k);
  below = λ j k b l. residue_lt (product qs) (y j k) pos_q;
  represents = λ j b. WordsRepresent-congruent n qs (c j) (y j) (λ k. pos (residue (product qs) (y j k))) big (same j) (r j b);
  holds = Holds-congruent some (recombined 0) (recombined 1) (recombined 2) h;
}
  where
    same : (j : ℕ) → CongruentPolynomials (product qs) n (y j) (λ k. pos (residue (product qs) (y j k)))
    same j = record { at = λ k l. Congruent-residue (product qs) (y j k) pos_q }

    recombined : (j : ℕ) → CongruentPolynomials (product qs) n (λ k. pos (residue (product qs) (y j k))) (y j)
    recombined j = record { at = λ k l. Congruent-sym (product qs) (Congruent-residue (product qs) (y j k) pos_q) }

-- a listed word at its place
pub stored_word-listed_words : (n count parts : ℕ) (word : ℕ → ℕ → ℕ → ℕ) (j i k : ℕ) → j < parts → i < count → k < n
    → stored_word n count (listed_words n count parts word) j i k ≡ word j i k
stored_word-listed_words n count parts word j i k part row place =
    let quotient : ((j * count + i) * n + k) / n ≡ j * count + i = div-mul-add (j * count + i) n k place in
    let rest : ((j * count + i) * n + k) % n ≡ k = mod-mul-add (j * count + i) n k place in
    get_or-values_below (parts * count * n) (λ p. word (p / n / count) (p / n % count) (p % n)) ((j * count + i) * n + k) 0
    (inside (mul-le-mul_right count part) (mul-le-mul_right n (row_in (j * count) (mul-le-mul_right count part))))
    ∙ ap₂ (λ x z. word (x / count) (x % count) z) quotient rest
    ∙ ap₂ (λ x y. word x y k) (div-mul-add j count i row) (mod-mul-add j count i row)
  where
    row_in : (a : ℕ) → suc j * count ≤ parts * count → j * count + i + 1 ≤ parts * count
    row_in a more = omega arith

    inside : suc j * count ≤ parts * count → (j * count + i + 1) * n ≤ parts * count * n → (j * count + i) * n + k < parts * count * n
    inside more most = omega arith
