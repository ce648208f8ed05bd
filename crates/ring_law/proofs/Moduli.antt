-- Lists of moduli: what is coprime or above 1, their products, and the first of them.
use Rattle.std.proofs.Common.{◌≡◌, ℕ, zero, suc, ◌*◌, ◌<◌, sym, ap, ◌∙◌, subst, arith, pos, List, [], ◌∷◌, All, get_or, length, take, drop, ◌++◌, slice_index}
use Rattle.std.specs.Int.{IsGcd}
use Rattle.std.proofs.lemmas.List.Kept.{AllPairs-cons}
use Rattle.std.proofs.lemmas.List.Elements.{All-head, All-tail}
use Rattle.std.proofs.Math.ListN.{get_or-append}
use Rattle.std.proofs.lemmas.List.{length-append, take-append-drop}
use Rattle.ring_law.specs.Residues.{HasInverse}
use Rattle.ring_law.specs.Moduli.{AllAboveOne, PairwiseCoprime, product}
use Rattle.ring_law.proofs.Congruence.{Congruent-refl}
use Rattle.ring_law.proofs.Inverses.{HasInverse-from_IsGcd, HasInverse-mul, IsGcd-from_HasInverse}

-- each modulus that stands after q has an inverse modulo q
abbrev pub PairwiseInvertible : List ℕ → Type 0
PairwiseInvertible [] = Unit {0}
PairwiseInvertible (q ∷ qs) = All (HasInverse q) qs × PairwiseInvertible qs

-- the product of numbers that have an inverse modulo q has one
pub HasInverse-product : (q : ℕ) (qs : List ℕ) → All (HasInverse q) qs → HasInverse q (product qs)
unfolding product
HasInverse-product q [] h = record { inverse = pos 1; is_one = Congruent-refl q (pos 1) }
HasInverse-product q (r ∷ qs) h =
    HasInverse-mul q r (product qs) (All-head (HasInverse q) r qs h) (HasInverse-product q qs (All-tail (HasInverse q) r qs h))

-- coprime moduli are so
pub PairwiseInvertible-from_coprime : (qs : List ℕ) → PairwiseCoprime qs → PairwiseInvertible qs
PairwiseInvertible-from_coprime [] h = tt
PairwiseInvertible-from_coprime (q ∷ qs) h = (
  λ k d l. HasInverse-from_IsGcd q (get_or qs k d) (h 0 (suc k) d (omega arith) (omega arith)),
  PairwiseInvertible-from_coprime qs (λ i j d a b. h (suc i) (suc j) d (omega arith) (omega arith)),
)

-- and only they
pub PairwiseCoprime-from_invertible : (qs : List ℕ) → PairwiseInvertible qs → PairwiseCoprime qs
PairwiseCoprime-from_invertible [] h = λ i j d a b. absurd (omega arith)
PairwiseCoprime-from_invertible (q ∷ qs) h =
    AllPairs-cons (λ p q. IsGcd p q 1) q qs (λ k d l. IsGcd-from_HasInverse q (get_or qs k d) (h.0 k d l)) (PairwiseCoprime-from_invertible qs h.1)

-- the product of moduli above 1 is above 0
pub product_positive : (qs : List ℕ) → AllAboveOne qs → 0 < product qs
unfolding product
product_positive [] h = omega arith
product_positive (q ∷ qs) h = both q (product qs) (h 0 (omega arith)) (product_positive qs (λ j l. h (suc j) (omega arith)))
  where
    both : (a b : ℕ) → 1 < a → 0 < b → 0 < a * b
    both zero b h k = absurd (omega arith)
    both (suc a) b h k = omega arith

-- what is above 1 is above 0
pub positive_from_above_one : (q : ℕ) → 1 < q → 0 < q
positive_from_above_one q h = omega arith

-- the product of a list in two parts
pub product-append : (qs rs : List ℕ) → product (qs ++ rs) ≡ product qs * product rs
unfolding product
product-append [] rs = one (product rs)
  where
    one : (r : ℕ) → r ≡ 1 * r
    one r = omega arith
product-append (q ∷ qs) rs = ap (λ p. q * p) (product-append qs rs) ∙ turn q (product qs) (product rs)
  where
    turn : (a b c : ℕ) → a * (b * c) ≡ a * b * c
    turn a b c = omega arith

shorter : (qs rs : List ℕ) (i : ℕ) → i < length qs → i < length (qs ++ rs)
shorter qs rs i l = let e = length-append qs rs in omega arith

-- the first part of coprime moduli is coprime
pub PairwiseInvertible-append_left : (qs rs : List ℕ) → PairwiseInvertible (qs ++ rs) → PairwiseInvertible qs
PairwiseInvertible-append_left [] rs h = tt
PairwiseInvertible-append_left (q ∷ qs) rs h =
    (λ k d l. subst (HasInverse q) (get_or-append qs rs d k l) (h.0 k d (shorter qs rs k l)), PairwiseInvertible-append_left qs rs h.1)

-- the first part of moduli above 1 is above 1
pub AllAboveOne-append_left : (qs rs : List ℕ) → AllAboveOne (qs ++ rs) → AllAboveOne qs
AllAboveOne-append_left qs rs h j l = subst (λ q. 1 < q) (get_or-append qs rs 0 j l) (h j (shorter qs rs j l))

-- the first l of coprime moduli are coprime
pub PairwiseInvertible-take : (l : ℕ) (qs : List ℕ) → PairwiseInvertible qs → PairwiseInvertible (take l qs)
PairwiseInvertible-take l qs h = PairwiseInvertible-append_left (take l qs) (drop l qs) (subst PairwiseInvertible (sym (take-append-drop l qs)) h)

-- the same for the first l moduli
pub AllAboveOne-take : (l : ℕ) (qs : List ℕ) → AllAboveOne qs → AllAboveOne (take l qs)
AllAboveOne-take l qs h = AllAboveOne-append_left (take l qs) (drop l qs) (subst AllAboveOne (sym (take-append-drop l qs)) h)

-- one modulus more multiplies the product
pub product-take : (l : ℕ) (qs : List ℕ) → l < length qs → product (take (suc l) qs) ≡ product (take l qs) * slice_index qs l
unfolding product
product-take l [] h = absurd (omega arith)
product-take zero (q ∷ qs) h = one q
  where
    one : (q : ℕ) → q * 1 ≡ 1 * q
    one q = omega arith
product-take (suc l) (q ∷ qs) h = ap (λ p. q * p) (product-take l qs (omega arith)) ∙ turn q (product (take l qs)) (slice_index qs l)
  where
    turn : (a b c : ℕ) → a * (b * c) ≡ a * b * c
    turn a b c = omega arith
