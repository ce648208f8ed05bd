-- Coprime lists of moduli: by the places of their elements, and in two parts.
use Rattle.std.proofs.Common.{◌≡◌, ℕ, ◌+◌, ◌-◌, ◌<◌, ◌++◌, ◌∙◌, ap, subst, arith, List, Bool, true, ◌↔◌, IsTrue, length, get_or, slice_index, All}
use Rattle.std.specs.Int.{IsGcd}
use Rattle.std.proofs.lemmas.List.{get_or_default, length-append}
use Rattle.std.proofs.Math.ListN.{get_or-append}
use Rattle.std.proofs.Math.Seq.{get_or-append_right}
use Rattle.word_mod.specs.Moduli.{IsModulus}
use Rattle.ring_law.specs.Moduli.{PairwiseCoprime}
use Rattle.ring_law.proofs.Moduli.{PairwiseCoprime-from_invertible}
use Rattle.ring_law.proofs.ModuliTests.{all_coprime, PairwiseInvertible-from_test}
use Rattle.res_base.specs.Bases.{AreCoprime, CoprimeFromTo}

-- ---- by places
pub PairwiseCoprime-from_places : (qs : List ℕ) → ((k : ℕ) → k < length qs → CoprimeFromTo qs k (length qs)) → PairwiseCoprime qs
PairwiseCoprime-from_places qs h i j d less within =
    let First : ℕ → Type 0 = λ p. IsGcd p (get_or qs j d) 1 in
    let Second : ℕ → Type 0 = λ q. IsGcd (get_or qs i 0) q 1 in
    subst First (get_or_default qs i 0 d (omega arith)) (subst Second (get_or_default qs j 0 d within) (h i (omega arith) j within less))

pub All-from_places : (qs : List ℕ) → ((k : ℕ) → k < length qs → IsModulus (slice_index qs k)) → All IsModulus qs
All-from_places qs h k d within = subst IsModulus (get_or_default qs k 0 d within) (h k within)

-- what a test tells of two words it tells of the places where they stand
pub tells_places : (qs : List ℕ) (i j a q : ℕ) (test : Bool) → a ≡ slice_index qs i → q ≡ slice_index qs j → (IsTrue test ↔ IsGcd a q 1) → IsTrue test ↔ AreCoprime qs i j
tells_places qs i j a q test first second tells =
    let First : ℕ → Type 0 = λ x. IsTrue test ↔ IsGcd x q 1 in
    let Second : ℕ → Type 0 = λ x. IsTrue test ↔ IsGcd (slice_index qs i) x 1 in
    subst Second second (subst First first tells)

-- ---- by a test that computes
pub PairwiseCoprime-from_test : (qs : List ℕ) → all_coprime qs ≡ true → PairwiseCoprime qs
PairwiseCoprime-from_test qs test = PairwiseCoprime-from_invertible qs (PairwiseInvertible-from_test qs test)

-- ---- in two parts
pub PairwiseCoprime-append_left : (ps qs : List ℕ) → PairwiseCoprime (ps ++ qs) → PairwiseCoprime ps
PairwiseCoprime-append_left ps qs h i j d less within =
    let First : ℕ → Type 0 = λ p. IsGcd p (get_or ps j d) 1 in
    let Second : ℕ → Type 0 = λ q. IsGcd (get_or (ps ++ qs) i d) q 1 in
    let whole = length-append ps qs in
    subst First (get_or-append ps qs d i (omega arith)) (subst Second (get_or-append ps qs d j within) (h i j d less (omega arith)))

-- element j of the second part
second_part : (ps qs : List ℕ) (j d : ℕ) → get_or (ps ++ qs) (length ps + j) d ≡ get_or qs j d
second_part ps qs j d =
    get_or-append_right ps qs (length ps + j) d (omega arith)
    ∙ ap (λ (k : ℕ). get_or qs k d) (let same : length ps + j - length ps ≡ j = omega arith in same)

pub PairwiseCoprime-append_right : (ps qs : List ℕ) → PairwiseCoprime (ps ++ qs) → PairwiseCoprime qs
PairwiseCoprime-append_right ps qs h i j d less within =
    let First : ℕ → Type 0 = λ p. IsGcd p (get_or qs j d) 1 in
    let Second : ℕ → Type 0 = λ q. IsGcd (get_or (ps ++ qs) (length ps + i) d) q 1 in
    let whole = length-append ps qs in
    subst First (second_part ps qs i d) (subst Second (second_part ps qs j d) (h (length ps + i) (length ps + j) d (omega arith) (omega arith)))

-- each of the first part is coprime to each of the second
pub PairwiseCoprime-append_across : (ps qs : List ℕ) → PairwiseCoprime (ps ++ qs) → All (λ p. All (λ q. IsGcd p q 1) qs) ps
PairwiseCoprime-append_across ps qs h i d within_first j e within_second =
    let First : ℕ → Type 0 = λ p. IsGcd p (get_or qs j e) 1 in
    let Second : ℕ → Type 0 = λ q. IsGcd (get_or (ps ++ qs) i 0) q 1 in
    let whole = length-append ps qs in
    subst First (get_or-append ps qs 0 i within_first ∙ get_or_default ps i 0 d within_first)
    (subst Second (second_part ps qs j 0 ∙ get_or_default qs j 0 e within_second) (h i (length ps + j) 0 (omega arith) (omega arith)))
