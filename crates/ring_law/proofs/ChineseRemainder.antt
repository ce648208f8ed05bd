-- What residues modulo several coprime numbers tell.
use Rattle.std.proofs.Common.{◌≡◌, ℕ, zero, suc, ◌*◌, ◌<◌, ◌≢◌, refl, sym, ap, ap₂, ◌∙◌, arith, ℤ, pos, ◌+ℤ◌, ◌-ℤ◌, ◌*ℤ◌, nat_abs, mod-eq_of_lt, ⊎_elim, List, [], ◌∷◌, All, get_or, length, true, cond, eqb, slice_index, mul_comm}
use Rattle.std.proofs.lemmas.List.Elements.{All-cons, All-nil, All-head, All-tail}
use Rattle.std.proofs.lemmas.Int.{ints}
use Rattle.std.proofs.lemmas.Bool.{cases_eq}
use Rattle.std.proofs.Math.Nat.{zero-mod}
use Rattle.ring_law.specs.Sums.{sum_below}
use Rattle.ring_law.specs.Residues.{Congruent, HasInverse, residue}
use Rattle.ring_law.specs.Moduli.{AllAboveOne, Selects, product, product_of_others}
use Rattle.ring_law.proofs.Places.{eqb_apart, eqb_equal, eqb_same}
use Rattle.ring_law.proofs.RingSolver.{identity2, identity4, identity6, literal, ◌⊕◌, ◌⊖◌, ◌⊗◌}
use Rattle.ring_law.proofs.Sums.{sum_below_single}
use Rattle.ring_law.proofs.Congruence.{Congruent-add, Congruent-equal, Congruent-left_factor, Congruent-mul, Congruent-multiple, Congruent-near, Congruent-refl, Congruent-right_factor, Congruent-sum_below, Congruent-trans}
use Rattle.ring_law.proofs.Residues.{Congruent-residue, residue_equal}
use Rattle.ring_law.proofs.Inverses.{HasInverse-mul, HasInverse-swap}
use Rattle.ring_law.proofs.Moduli.{HasInverse-product, PairwiseInvertible, positive_from_above_one}

-- congruent modulo q and modulo r: then modulo q * r
pub Congruent-mul_modulus : (q r : ℕ) (x y : ℤ) → HasInverse q r → Congruent q x y → Congruent r x y → Congruent (q * r) x y
Congruent-mul_modulus q r x y i h k =
    let b = i.inverse in let t = i.is_one.quotient in
    let e : k.quotient *ℤ pos r ≡ h.quotient *ℤ pos q = cancel y (k.quotient *ℤ pos r) (h.quotient *ℤ pos q) (sym k.equation ∙ h.equation) in
    record {
      quotient = h.quotient *ℤ b -ℤ t *ℤ k.quotient;
      equation = h.equation ∙ ap (λ z. y +ℤ z) (
          identity2 (λ hq tq. hq) (λ hq tq. hq ⊗ (literal (pos 1) ⊕ tq) ⊖ tq ⊗ hq) refl (h.quotient *ℤ pos q) (t *ℤ pos q)
          ∙ ap₂ (λ u v. (h.quotient *ℤ pos q) *ℤ u -ℤ (t *ℤ pos q) *ℤ v) (sym i.is_one.equation) (sym e)
          ∙ identity6 (λ h k b t q r. (h ⊗ q) ⊗ (b ⊗ r) ⊖ (t ⊗ q) ⊗ (k ⊗ r)) (λ h k b t q r. (h ⊗ b ⊖ t ⊗ k) ⊗ (q ⊗ r)) refl h.quotient k.quotient b t (pos q)
          (pos r));
    }
  where
    cancel : (y a b : ℤ) → y +ℤ a ≡ y +ℤ b → a ≡ b
    cancel y a b e = omega (arith, ints)

-- numbers that are congruent modulo each of coprime moduli are congruent modulo their product
pub chinese_remainder_unique : (qs : List ℕ) → PairwiseInvertible qs → (x y : ℤ) → All (λ q. Congruent q x y) qs → Congruent (product qs) x y
unfolding product
chinese_remainder_unique [] c x y h = record { quotient = x -ℤ y; equation = identity2 (λ x y. x) (λ x y. y ⊕ (x ⊖ y) ⊗ literal (pos 1)) refl x y }
chinese_remainder_unique (q ∷ qs) c x y h =
    Congruent-mul_modulus q (product qs) x y (HasInverse-product q qs c.0) (All-head (λ q. Congruent q x y) q qs h)
    (chinese_remainder_unique qs c.1 x y (All-tail (λ q. Congruent q x y) q qs h))

-- so below the product there is one number at most with given residues
pub chinese_remainder_one : (qs : List ℕ) → PairwiseInvertible qs → (x y : ℕ) → x < product qs → y < product qs →
    All (λ q. Congruent q (pos x) (pos y)) qs → x ≡ y
chinese_remainder_one qs c x y lx ly h =
    ap nat_abs (Congruent-near (product qs) (pos x) (pos y) (chinese_remainder_unique qs c (pos x) (pos y) h) (omega (arith, ints)))

-- and what is congruent modulo the product is so modulo each
pub Congruent-each_modulus : (qs : List ℕ) (x y : ℤ) → Congruent (product qs) x y → All (λ q. Congruent q x y) qs
unfolding product
Congruent-each_modulus [] x y h = All-nil (λ q. Congruent q x y)
Congruent-each_modulus (q ∷ qs) x y h =
    All-cons (λ q. Congruent q x y) q qs (Congruent-left_factor q (product qs) h)
    (Congruent-each_modulus qs x y (Congruent-right_factor q (product qs) h))

-- a number with given residues
pub chinese_remainder_exists : (qs : List ℕ) → PairwiseInvertible qs → (r : ℕ → ℤ) → (x : ℤ) × All (λ q. Congruent q x (r q)) qs
chinese_remainder_exists [] c r = (pos 0, All-nil (λ q. Congruent q (pos 0) (r q)))
chinese_remainder_exists (q ∷ qs) c r = from (chinese_remainder_exists qs c.1 r) (HasInverse-product q qs c.0)
  where
    from : (x : ℤ) × All (λ p. Congruent p x (r p)) qs → HasInverse q (product qs) → (x : ℤ) × All (λ p. Congruent p x (r p)) (q ∷ qs)
    from (x, h) i =
        let z = x +ℤ (i.inverse *ℤ (r q -ℤ x)) *ℤ pos (product qs) in
        let near : Congruent (product qs) z x = record { quotient = i.inverse *ℤ (r q -ℤ x); equation = refl } in
        let each = Congruent-each_modulus qs z x near in (
          z,
          All-cons (λ p. Congruent p z (r p)) q qs
              (Congruent-trans q
              (Congruent-equal q (identity4 (λ x u r m. x ⊕ (u ⊗ (r ⊖ x)) ⊗ m) (λ x u r m. x ⊕ (r ⊖ x) ⊗ (u ⊗ m)) refl x i.inverse (r q) (pos (product qs))))
              (Congruent-trans q (Congruent-add q (Congruent-refl q x) (Congruent-mul q (Congruent-refl q (r q -ℤ x)) i.is_one))
              (Congruent-equal q (identity2 (λ x r. x ⊕ (r ⊖ x) ⊗ literal (pos 1)) (λ x r. r) refl x (r q)))))
              (λ k d l. Congruent-trans (get_or qs k d) (each k d l) (h k d l)),
        )

-- a modulus times the product of the others is the product of all
pub mul-product_of_others : (qs : List ℕ) (i : ℕ) → i < length qs → slice_index qs i * product_of_others qs i ≡ product qs
unfolding product_of_others product
mul-product_of_others [] i l = absurd (omega arith)
mul-product_of_others (q ∷ qs) zero l = refl
mul-product_of_others (q ∷ qs) (suc i) l =
    turn (slice_index qs i) q (product_of_others qs i) ∙ ap (λ p. q * p) (mul-product_of_others qs i (omega arith))
  where
    turn : (a b c : ℕ) → a * (b * c) ≡ b * (a * c)
    turn a b c = omega arith

multiple : (q r : ℕ) → Congruent q (pos (q * r)) (pos 0)
multiple q r = Congruent-trans q (Congruent-equal q (ap pos (mul_comm q r))) (Congruent-multiple q (pos r))

-- modulo another modulus the product of the others is 0
pub product_of_others_vanish : (qs : List ℕ) (i j : ℕ) → i < length qs → j < length qs → i ≢ j →
    Congruent (slice_index qs j) (pos (product_of_others qs i)) (pos 0)
unfolding product_of_others
product_of_others_vanish [] i j l h d = absurd (omega arith)
product_of_others_vanish (q ∷ qs) zero zero l h d = absurd (d refl)
product_of_others_vanish (q ∷ qs) zero (suc j) l h d =
    Congruent-trans (slice_index qs j) (Congruent-equal (slice_index qs j) (ap pos (sym (mul-product_of_others qs j (omega arith)))))
    (multiple (slice_index qs j) (product_of_others qs j))
product_of_others_vanish (q ∷ qs) (suc i) zero l h d = multiple q (product_of_others qs i)
product_of_others_vanish (q ∷ qs) (suc i) (suc j) l h d =
    Congruent-trans (slice_index qs j)
    (Congruent-mul (slice_index qs j) (Congruent-refl (slice_index qs j) (pos q))
    (product_of_others_vanish qs i j (omega arith) (omega arith) (λ e. d (ap suc e))))
    (Congruent-equal (slice_index qs j) (none (pos q)))
  where
    none : (a : ℤ) → a *ℤ pos 0 ≡ pos 0
    none a = omega (arith, ints)

-- and modulo its own it has an inverse
pub HasInverse-product_of_others : (qs : List ℕ) → PairwiseInvertible qs → (i : ℕ) → i < length qs →
    HasInverse (slice_index qs i) (product_of_others qs i)
unfolding product_of_others
HasInverse-product_of_others [] c i l = absurd (omega arith)
HasInverse-product_of_others (q ∷ qs) c zero l = HasInverse-product q qs c.0
HasInverse-product_of_others (q ∷ qs) c (suc i) l =
    HasInverse-mul (slice_index qs i) q (product_of_others qs i) (HasInverse-swap q (slice_index qs i) (c.0 i 0 (omega arith)))
    (HasInverse-product_of_others qs c.1 i (omega arith))

-- the product of the others times its inverse selects its modulus
selecting : (qs : List ℕ) → AllAboveOne qs → (i : ℕ) → i < length qs → (inv : HasInverse (slice_index qs i) (product_of_others qs i)) →
    Selects qs i (inv.inverse *ℤ pos (product_of_others qs i))
selecting qs big i l inv j b = ⊎_elim here apart (cases_eq j i)
  where
    here : j ≡ i → residue (slice_index qs j) (inv.inverse *ℤ pos (product_of_others qs i)) ≡ cond (eqb j i) 1 0
    here e =
        ap (λ j. residue (slice_index qs j) (inv.inverse *ℤ pos (product_of_others qs i))) e
        ∙ residue_equal (slice_index qs i) (inv.inverse *ℤ pos (product_of_others qs i)) (pos 1)
        (positive_from_above_one (slice_index qs i) (big i l)) inv.is_one
        ∙ mod-eq_of_lt (big i l)
        ∙ ap (λ t. cond t 1 0) (sym (eqb_equal j i e))

    apart : j ≢ i → residue (slice_index qs j) (inv.inverse *ℤ pos (product_of_others qs i)) ≡ cond (eqb j i) 1 0
    apart d =
        residue_equal (slice_index qs j) (inv.inverse *ℤ pos (product_of_others qs i)) (pos 0) (positive_from_above_one (slice_index qs j) (big j b))
        (Congruent-trans (slice_index qs j)
        (Congruent-mul (slice_index qs j) (Congruent-refl (slice_index qs j) inv.inverse) (product_of_others_vanish qs i j l b (λ e. d (sym e))))
        (Congruent-equal (slice_index qs j) (none inv.inverse)))
        ∙ zero-mod (slice_index qs j)
        ∙ ap (λ t. cond t 1 0) (sym (eqb_apart j i d))
      where
        none : (a : ℤ) → a *ℤ pos 0 ≡ pos 0
        none a = omega (arith, ints)

-- there is a number that selects modulus i
pub selector : (qs : List ℕ) → PairwiseInvertible qs → AllAboveOne qs → (i : ℕ) → i < length qs → (g : ℤ) × Selects qs i g
selector qs cop big i l =
    ((HasInverse-product_of_others qs cop i l).inverse *ℤ pos (product_of_others qs i), selecting qs big i l (HasInverse-product_of_others qs cop i l))

-- a sum of numbers, each times the number that selects its modulus, has each of them as its residue
pub selected_sum : (qs : List ℕ) (g r : ℕ → ℤ) → AllAboveOne qs → ((i : ℕ) → i < length qs → Selects qs i (g i)) → (j : ℕ) → j < length qs →
    Congruent (slice_index qs j) (sum_below (length qs) (λ i. g i *ℤ r i)) (r j)
selected_sum qs g r big sel j l =
    Congruent-trans (slice_index qs j) (Congruent-sum_below (slice_index qs j) (length qs) (λ i. g i *ℤ r i) (λ i. cond (eqb j i) (r j) (pos 0)) (λ i b.
    Congruent-trans (slice_index qs j) (Congruent-mul (slice_index qs j) (selected i b) (Congruent-refl (slice_index qs j) (r i)))
    (Congruent-equal (slice_index qs j)
    (⊎_elim (λ (e : j ≡ i). same i e (eqb_equal j i e))
    (λ (d : j ≢ i). ap (λ t. pos (cond t 1 0) *ℤ r i) (eqb_apart j i d) ∙ zero (r i) ∙ ap (λ t. cond t (r j) (pos 0)) (sym (eqb_apart j i d))) (cases_eq j i)))))
    (Congruent-equal (slice_index qs j)
    (sum_below_single (length qs) j (λ i. cond (eqb j i) (r j) (pos 0)) l (λ i b d. ap (λ t. cond t (r j) (pos 0)) (eqb_apart j i (λ e. d (sym e))))
    ∙ ap (λ t. cond t (r j) (pos 0)) (eqb_same j)))
  where
    selected : (i : ℕ) → i < length qs → Congruent (slice_index qs j) (g i) (pos (cond (eqb j i) 1 0))
    selected i b =
        Congruent-trans (slice_index qs j) (Congruent-residue (slice_index qs j) (g i) (positive_from_above_one (slice_index qs j) (big j l)))
        (Congruent-equal (slice_index qs j) (ap pos (sel i b j l)))

    zero : (a : ℤ) → pos 0 *ℤ a ≡ pos 0
    zero a = omega (arith, ints)

    one : (a : ℤ) → pos 1 *ℤ a ≡ a
    one a = omega (arith, ints)

    same : (i : ℕ) → j ≡ i → eqb j i ≡ true → pos (cond (eqb j i) 1 0) *ℤ r i ≡ cond (eqb j i) (r j) (pos 0)
    same i e y = ap (λ t. pos (cond t 1 0) *ℤ r i) y ∙ one (r i) ∙ ap r (sym e) ∙ ap (λ t. cond t (r j) (pos 0)) (sym y)
