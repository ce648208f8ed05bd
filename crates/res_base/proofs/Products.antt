-- Products of the moduli of a list, modulo another number.
use Rattle.std.proofs.Common.{◌≡◌, ℕ, zero, suc, ◌-◌, ◌*◌, ◌%◌, ◌<◌, sym, ap, ◌∙◌, refl, arith, List, [], ◌∷◌, length, take, drop, slice_index, length-drop}
use Rattle.std.proofs.lemmas.List.{take_all}
use Rattle.std.proofs.lemmas.Nat.{mul-mod_first, mul-mod_second}
use Rattle.ring_law.specs.Moduli.{product, product_of_others}
use Rattle.ring_law.proofs.Moduli.{product-take}

-- the product of the others, by those before and those after
pub product_of_others-split : (qs : List ℕ) (i : ℕ) → i < length qs → product_of_others qs i ≡ product (take i qs) * product (drop (suc i) qs)
unfolding product product_of_others
product_of_others-split [] i l = absurd (omega arith)
product_of_others-split (q ∷ qs) zero l = one (product qs)
  where
    one : (p : ℕ) → p ≡ 1 * p
    one p = omega arith
product_of_others-split (q ∷ qs) (suc i) l = ap (λ p. q * p) (product_of_others-split qs i (omega arith)) ∙ turn q (product (take i qs)) (product (drop (suc i) qs))
  where
    turn : (a b c : ℕ) → a * (b * c) ≡ a * b * c
    turn a b c = omega arith

-- a product of residues
pub mul-mod_both : (a b m : ℕ) → (a % m) * (b % m) % m ≡ a * b % m
mul-mod_both a b m = mul-mod_first a (b % m) m ∙ mul-mod_second a b m

pub drop_whole : (qs : List ℕ) (k : ℕ) → take (length qs - k) (drop k qs) ≡ drop k qs
drop_whole qs k = take_all (length qs - k) (drop k qs) (simp length-drop (omega arith))

pub product_empty : product [] ≡ 1
unfolding product
product_empty = refl

-- one more modulus
pub product_mod-next : (qs : List ℕ) (m i next : ℕ) → i < length qs → next ≡ suc i
    → (product (take i qs) % m) * (slice_index qs i % m) % m ≡ product (take next qs) % m
product_mod-next qs m i next l e =
    mul-mod_both (product (take i qs)) (slice_index qs i) m
    ∙ ap (λ p. p % m) (sym (product-take i qs l))
    ∙ ap (λ (k : ℕ). product (take k qs) % m) (sym e)

pub product_mod-others : (qs : List ℕ) (m i next : ℕ) → i < length qs → next ≡ suc i
    → (product (take i qs) % m) * (product (drop next qs) % m) % m ≡ product_of_others qs i % m
product_mod-others qs m i next l e =
    mul-mod_both (product (take i qs)) (product (drop next qs)) m
    ∙ ap (λ (k : ℕ). product (take i qs) * product (drop k qs) % m) e
    ∙ ap (λ p. p % m) (sym (product_of_others-split qs i l))
