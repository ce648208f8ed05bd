-- Identities of the ring of whole numbers, decided by normal forms: an identity holds where the difference of its sides has only zero coefficients.
use Rattle.std.proofs.Common.{◌≡◌, ℕ, zero, suc, List, [], ◌∷◌, Bool, true, false, eqb, leb, T, eqb→eq, refl, sym, ap, ap₂, ◌∙◌, subst, arith}
use Rattle.std.proofs.Math.IntN.{ℤ, pos, negsuc, neg_ℤ, ◌+ℤ◌, ◌-ℤ◌, ◌*ℤ◌, *ℤ_comm}
use Rattle.std.proofs.lemmas.Int.{ints}
use Rattle.ring_law.proofs.WholeNumbers.{int_add_mul, int_equal_from_sub, int_mul_add, int_mul_assoc, int_mul_one, int_one_mul, int_zero_mul}

infixl 6 ◌⊕◌ ◌⊖◌
infixl 7 ◌⊗◌
-- an expression of the ring over numbered variables
pub data Expression : Type 0 where
  variable : ℕ → Expression
  literal : ℤ → Expression
  ◌⊕◌ : Expression → Expression → Expression
  ◌⊖◌ : Expression → Expression → Expression
  ◌⊗◌ : Expression → Expression → Expression
  minus : Expression → Expression

-- the value of variable i
abbrev pub lookup : List ℤ → ℕ → ℤ
lookup [] i = pos 0
lookup (x ∷ xs) zero = x
lookup (x ∷ xs) (suc i) = lookup xs i

-- the value of an expression, e being the values of its variables
abbrev pub value_of : List ℤ → Expression → ℤ
value_of e (variable i) = lookup e i
value_of e (literal c) = c
value_of e (a ⊕ b) = value_of e a +ℤ value_of e b
value_of e (a ⊖ b) = value_of e a -ℤ value_of e b
value_of e (a ⊗ b) = value_of e a *ℤ value_of e b
value_of e (minus a) = neg_ℤ (value_of e a)

-- a sum of terms: a coefficient and a monomial, the sorted list of its variables
abbrev pub NormalForm : Type 0
NormalForm = List (ℤ × List ℕ)

-- the value of a monomial
abbrev pub monomial_value : List ℤ → List ℕ → ℤ
monomial_value e [] = pos 1
monomial_value e (i ∷ m) = lookup e i *ℤ monomial_value e m

-- the value of a normal form
abbrev pub form_value : List ℤ → NormalForm → ℤ
form_value e [] = pos 0
form_value e ((c, m) ∷ p) = c *ℤ monomial_value e m +ℤ form_value e p

-- ---- normal forms are computed
abbrev pub same_monomial : List ℕ → List ℕ → Bool
same_monomial [] [] = true
same_monomial [] (j ∷ k) = false
same_monomial (i ∷ m) [] = false
same_monomial (i ∷ m) (j ∷ k) = elim (eqb i j) [ true ↦ same_monomial m k | false ↦ false ]

-- a term more, joined to one of the same monomial
abbrev pub add_term : ℤ → List ℕ → NormalForm → NormalForm
add_term c m [] = (c, m) ∷ []
add_term c m ((d, k) ∷ p) = elim (same_monomial m k) [ true ↦ (c +ℤ d, k) ∷ p | false ↦ (d, k) ∷ add_term c m p ]

-- the sum
abbrev pub add_forms : NormalForm → NormalForm → NormalForm
add_forms [] q = q
add_forms ((c, m) ∷ p) q = add_term c m (add_forms p q)

-- a variable more, in its place
abbrev pub insert_variable : ℕ → List ℕ → List ℕ
insert_variable i [] = i ∷ []
insert_variable i (j ∷ k) = elim (leb i j) [ true ↦ i ∷ j ∷ k | false ↦ j ∷ insert_variable i k ]

-- the product of monomials
abbrev pub multiply_monomials : List ℕ → List ℕ → List ℕ
multiply_monomials [] k = k
multiply_monomials (i ∷ m) k = insert_variable i (multiply_monomials m k)

-- the product with one term
abbrev pub multiply_by_term : ℤ → List ℕ → NormalForm → NormalForm
multiply_by_term c m [] = []
multiply_by_term c m ((d, k) ∷ p) = (c *ℤ d, multiply_monomials m k) ∷ multiply_by_term c m p

-- the product
abbrev pub multiply_forms : NormalForm → NormalForm → NormalForm
multiply_forms [] q = []
multiply_forms ((c, m) ∷ p) q = add_forms (multiply_by_term c m q) (multiply_forms p q)

-- the normal form of an expression
abbrev pub normal_form : Expression → NormalForm
normal_form (variable i) = (pos 1, i ∷ []) ∷ []
normal_form (literal c) = (c, []) ∷ []
normal_form (a ⊕ b) = add_forms (normal_form a) (normal_form b)
normal_form (a ⊖ b) = add_forms (multiply_by_term (negsuc 0) [] (normal_form b)) (normal_form a)
normal_form (a ⊗ b) = multiply_forms (normal_form a) (normal_form b)
normal_form (minus a) = multiply_by_term (negsuc 0) [] (normal_form a)

-- c is 0
abbrev pub is_zero : ℤ → Bool
is_zero (pos zero) = true
is_zero (pos (suc n)) = false
is_zero (negsuc n) = false

-- all coefficients are 0
abbrev pub all_zero : NormalForm → Bool
all_zero [] = true
all_zero ((c, m) ∷ p) = elim (is_zero c) [ true ↦ all_zero p | false ↦ false ]

-- ---- and they have the values of their expressions
pub same_monomial-equal : (m k : List ℕ) → same_monomial m k ≡ true → m ≡ k
same_monomial-equal [] [] e = refl
same_monomial-equal [] (j ∷ k) e = absurd cc
same_monomial-equal (i ∷ m) [] e = absurd cc
same_monomial-equal (i ∷ m) (j ∷ k) e = go (eqb i j) refl e (same_monomial-equal m k)
  where
    go : (t : Bool) → eqb i j ≡ t → elim t as (λ _. Bool) [ true ↦ same_monomial m k | false ↦ false ] ≡ true → (same_monomial m k ≡ true → m ≡ k) →
        i ∷ m ≡ j ∷ k
    go true d h f = ap₂ ◌∷◌ (eqb→eq i j (subst T (sym d) tt)) (f h)
    go false d h f = absurd cc

form_value-add_term : (e : List ℤ) (c : ℤ) (m : List ℕ) (p : NormalForm) → form_value e (add_term c m p) ≡ c *ℤ monomial_value e m +ℤ form_value e p
form_value-add_term e c m [] = refl
form_value-add_term e c m ((d, k) ∷ p) = go (same_monomial m k) refl (form_value-add_term e c m p)
  where
    go : (t : Bool) → same_monomial m k ≡ t → form_value e (add_term c m p) ≡ c *ℤ monomial_value e m +ℤ form_value e p →
        form_value e (elim t as (λ _. NormalForm) [ true ↦ (c +ℤ d, k) ∷ p | false ↦ (d, k) ∷ add_term c m p ]) ≡ c *ℤ monomial_value e m +ℤ
        (d *ℤ monomial_value e k +ℤ form_value e p)
    go true h i =
        rw (same_monomial-equal m k h)
        (ap (λ x. x +ℤ form_value e p) (int_add_mul c d (monomial_value e k)) ∙ regroup (c *ℤ monomial_value e k) (d *ℤ monomial_value e k) (form_value e p))
      where
        regroup : (x y z : ℤ) → x +ℤ y +ℤ z ≡ x +ℤ (y +ℤ z)
        regroup x y z = omega (arith, ints)
    go false h i = ap (λ x. d *ℤ monomial_value e k +ℤ x) i ∙ regroup (d *ℤ monomial_value e k) (c *ℤ monomial_value e m) (form_value e p)
      where
        regroup : (x y z : ℤ) → x +ℤ (y +ℤ z) ≡ y +ℤ (x +ℤ z)
        regroup x y z = omega (arith, ints)

form_value-add_forms : (e : List ℤ) (p q : NormalForm) → form_value e (add_forms p q) ≡ form_value e p +ℤ form_value e q
form_value-add_forms e [] q = sym (idl (form_value e q))
  where
    idl : (x : ℤ) → pos 0 +ℤ x ≡ x
    idl x = omega (arith, ints)
form_value-add_forms e ((c, m) ∷ p) q =
    form_value-add_term e c m (add_forms p q) ∙ ap (λ x. c *ℤ monomial_value e m +ℤ x) (form_value-add_forms e p q)
    ∙ regroup (c *ℤ monomial_value e m) (form_value e p) (form_value e q)
  where
    regroup : (x y z : ℤ) → x +ℤ (y +ℤ z) ≡ x +ℤ y +ℤ z
    regroup x y z = omega (arith, ints)

left_comm : (a b c : ℤ) → a *ℤ (b *ℤ c) ≡ b *ℤ (a *ℤ c)
left_comm a b c = sym (int_mul_assoc a b c) ∙ ap (λ x. x *ℤ c) (*ℤ_comm a b) ∙ int_mul_assoc b a c

monomial_value-insert_variable : (e : List ℤ) (i : ℕ) (k : List ℕ) → monomial_value e (insert_variable i k) ≡ lookup e i *ℤ monomial_value e k
monomial_value-insert_variable e i [] = refl
monomial_value-insert_variable e i (j ∷ k) = go (leb i j) (monomial_value-insert_variable e i k)
  where
    go : (t : Bool) → monomial_value e (insert_variable i k) ≡ lookup e i *ℤ monomial_value e k →
        monomial_value e (elim t as (λ _. List ℕ) [ true ↦ i ∷ j ∷ k | false ↦ j ∷ insert_variable i k ]) ≡ lookup e i *ℤ (lookup e j *ℤ monomial_value e k)
    go true h = refl
    go false h = ap (λ x. lookup e j *ℤ x) h ∙ left_comm (lookup e j) (lookup e i) (monomial_value e k)

monomial_value-multiply_monomials : (e : List ℤ) (m k : List ℕ) → monomial_value e (multiply_monomials m k) ≡ monomial_value e m *ℤ monomial_value e k
monomial_value-multiply_monomials e [] k = sym (int_one_mul (monomial_value e k))
monomial_value-multiply_monomials e (i ∷ m) k =
    monomial_value-insert_variable e i (multiply_monomials m k) ∙ ap (λ x. lookup e i *ℤ x) (monomial_value-multiply_monomials e m k)
    ∙ sym (int_mul_assoc (lookup e i) (monomial_value e m) (monomial_value e k))

four : (a b c d : ℤ) → (a *ℤ b) *ℤ (c *ℤ d) ≡ (a *ℤ c) *ℤ (b *ℤ d)
four a b c d = int_mul_assoc a b (c *ℤ d) ∙ ap (λ x. a *ℤ x) (left_comm b c d) ∙ sym (int_mul_assoc a c (b *ℤ d))

form_value-multiply_by_term : (e : List ℤ) (c : ℤ) (m : List ℕ) (p : NormalForm) →
    form_value e (multiply_by_term c m p) ≡ (c *ℤ monomial_value e m) *ℤ form_value e p
form_value-multiply_by_term e c m [] = sym (none (c *ℤ monomial_value e m))
  where
    none : (a : ℤ) → a *ℤ pos 0 ≡ pos 0
    none a = omega (arith, ints)
form_value-multiply_by_term e c m ((d, k) ∷ p) =
    ap₂ ◌+ℤ◌ (ap (λ x. (c *ℤ d) *ℤ x) (monomial_value-multiply_monomials e m k) ∙ four c d (monomial_value e m) (monomial_value e k))
    (form_value-multiply_by_term e c m p)
    ∙ sym (int_mul_add (c *ℤ monomial_value e m) (d *ℤ monomial_value e k) (form_value e p))

form_value-multiply_forms : (e : List ℤ) (p q : NormalForm) → form_value e (multiply_forms p q) ≡ form_value e p *ℤ form_value e q
form_value-multiply_forms e [] q = sym (int_zero_mul (form_value e q))
form_value-multiply_forms e ((c, m) ∷ p) q =
    form_value-add_forms e (multiply_by_term c m q) (multiply_forms p q)
    ∙ ap₂ ◌+ℤ◌ (form_value-multiply_by_term e c m q) (form_value-multiply_forms e p q)
    ∙ sym (int_add_mul (c *ℤ monomial_value e m) (form_value e p) (form_value e q))

times_minus_one : (x : ℤ) → (negsuc 0 *ℤ pos 1) *ℤ x ≡ neg_ℤ x
times_minus_one x = omega (arith, ints)

form_value-normal_form : (e : List ℤ) (a : Expression) → form_value e (normal_form a) ≡ value_of e a
form_value-normal_form e (variable i) = once (lookup e i)
  where
    once : (x : ℤ) → pos 1 *ℤ (x *ℤ pos 1) +ℤ pos 0 ≡ x
    once x = ap (λ y. pos 1 *ℤ y +ℤ pos 0) (int_mul_one x) ∙ last x
      where
        last : (x : ℤ) → pos 1 *ℤ x +ℤ pos 0 ≡ x
        last x = omega (arith, ints)
form_value-normal_form e (literal c) = last c
  where
    last : (x : ℤ) → x *ℤ pos 1 +ℤ pos 0 ≡ x
    last x = omega (arith, ints)
form_value-normal_form e (a ⊕ b) =
    form_value-add_forms e (normal_form a) (normal_form b) ∙ ap₂ ◌+ℤ◌ (form_value-normal_form e a) (form_value-normal_form e b)
form_value-normal_form e (a ⊖ b) =
    form_value-add_forms e (multiply_by_term (negsuc 0) [] (normal_form b)) (normal_form a)
    ∙ ap₂ ◌+ℤ◌ (form_value-multiply_by_term e (negsuc 0) [] (normal_form b) ∙ times_minus_one (form_value e (normal_form b))
    ∙ ap neg_ℤ (form_value-normal_form e b)) (form_value-normal_form e a)
    ∙ swapped (value_of e b) (value_of e a)
  where
    swapped : (x y : ℤ) → neg_ℤ x +ℤ y ≡ y -ℤ x
    swapped x y = omega (arith, ints)
form_value-normal_form e (a ⊗ b) =
    form_value-multiply_forms e (normal_form a) (normal_form b) ∙ ap₂ ◌*ℤ◌ (form_value-normal_form e a) (form_value-normal_form e b)
form_value-normal_form e (minus a) =
    form_value-multiply_by_term e (negsuc 0) [] (normal_form a) ∙ times_minus_one (form_value e (normal_form a)) ∙ ap neg_ℤ (form_value-normal_form e a)

pub is_zero-equal : (c : ℤ) → is_zero c ≡ true → c ≡ pos 0
is_zero-equal (pos zero) e = refl
is_zero-equal (pos (suc n)) e = absurd cc
is_zero-equal (negsuc n) e = absurd cc

form_value-all_zero : (e : List ℤ) (p : NormalForm) → all_zero p ≡ true → form_value e p ≡ pos 0
form_value-all_zero e [] h = refl
form_value-all_zero e ((c, m) ∷ p) h = go (is_zero c) refl h (form_value-all_zero e p)
  where
    go : (t : Bool) → is_zero c ≡ t → elim t as (λ _. Bool) [ true ↦ all_zero p | false ↦ false ] ≡ true → (all_zero p ≡ true → form_value e p ≡ pos 0) →
        c *ℤ monomial_value e m +ℤ form_value e p ≡ pos 0
    go true d g f = rw (is_zero-equal c d) (rw (f g) (last (monomial_value e m)))
      where
        last : (x : ℤ) → pos 0 *ℤ x +ℤ pos 0 ≡ pos 0
        last x = omega (arith, ints)
    go false d g f = absurd cc

-- two expressions have one value where the normal form of their difference has only zeros
pub ring_identity : (e : List ℤ) (a b : Expression) → all_zero (normal_form (a ⊖ b)) ≡ true → value_of e a ≡ value_of e b
ring_identity e a b h =
    int_equal_from_sub (value_of e a) (value_of e b) (sym (form_value-normal_form e (a ⊖ b)) ∙ form_value-all_zero e (normal_form (a ⊖ b)) h)

-- ---- an identity in n variables, its two sides written as functions of the variables
-- a function of n expressions
abbrev pub Operation : ℕ → Type 0
Operation zero = Expression
Operation (suc n) = Expression → Operation n

-- the expression that a function gives of the variables number i, i + 1 and so on
abbrev pub applied : (n i : ℕ) → Operation n → Expression
applied zero i f = f
applied (suc n) i f = applied n (suc i) (f (variable i))

-- the test: the two sides have one normal form
abbrev pub IsIdentity : (n : ℕ) → Operation n → Operation n → Type 0
IsIdentity n f g = all_zero (normal_form (applied n 0 f ⊖ applied n 0 g)) ≡ true

pub identity1 : (f g : Operation 1) → IsIdentity 1 f g → (a : ℤ) → value_of (a ∷ []) (applied 1 0 f) ≡ value_of (a ∷ []) (applied 1 0 g)
identity1 f g h a = ring_identity (a ∷ []) (applied 1 0 f) (applied 1 0 g) h

pub identity2 : (f g : Operation 2) → IsIdentity 2 f g → (a b : ℤ) → value_of (a ∷ b ∷ []) (applied 2 0 f) ≡ value_of (a ∷ b ∷ []) (applied 2 0 g)
identity2 f g h a b = ring_identity (a ∷ b ∷ []) (applied 2 0 f) (applied 2 0 g) h

pub identity3 : (f g : Operation 3) → IsIdentity 3 f g → (a b c : ℤ) →
    value_of (a ∷ b ∷ c ∷ []) (applied 3 0 f) ≡ value_of (a ∷ b ∷ c ∷ []) (applied 3 0 g)
identity3 f g h a b c = ring_identity (a ∷ b ∷ c ∷ []) (applied 3 0 f) (applied 3 0 g) h

pub identity4 : (f g : Operation 4) → IsIdentity 4 f g → (a b c d : ℤ) →
    value_of (a ∷ b ∷ c ∷ d ∷ []) (applied 4 0 f) ≡ value_of (a ∷ b ∷ c ∷ d ∷ []) (applied 4 0 g)
identity4 f g h a b c d = ring_identity (a ∷ b ∷ c ∷ d ∷ []) (applied 4 0 f) (applied 4 0 g) h

pub identity5 : (f g : Operation 5) → IsIdentity 5 f g → (a b c d r : ℤ) →
    value_of (a ∷ b ∷ c ∷ d ∷ r ∷ []) (applied 5 0 f) ≡ value_of (a ∷ b ∷ c ∷ d ∷ r ∷ []) (applied 5 0 g)
identity5 f g h a b c d r = ring_identity (a ∷ b ∷ c ∷ d ∷ r ∷ []) (applied 5 0 f) (applied 5 0 g) h

pub identity6 : (f g : Operation 6) → IsIdentity 6 f g → (a b c d r s : ℤ) →
    value_of (a ∷ b ∷ c ∷ d ∷ r ∷ s ∷ []) (applied 6 0 f) ≡ value_of (a ∷ b ∷ c ∷ d ∷ r ∷ s ∷ []) (applied 6 0 g)
identity6 f g h a b c d r s = ring_identity (a ∷ b ∷ c ∷ d ∷ r ∷ s ∷ []) (applied 6 0 f) (applied 6 0 g) h

pub identity7 : (f g : Operation 7) → IsIdentity 7 f g → (a b c d r s t : ℤ) →
    value_of (a ∷ b ∷ c ∷ d ∷ r ∷ s ∷ t ∷ []) (applied 7 0 f) ≡ value_of (a ∷ b ∷ c ∷ d ∷ r ∷ s ∷ t ∷ []) (applied 7 0 g)
identity7 f g h a b c d r s t = ring_identity (a ∷ b ∷ c ∷ d ∷ r ∷ s ∷ t ∷ []) (applied 7 0 f) (applied 7 0 g) h

pub identity8 : (f g : Operation 8) → IsIdentity 8 f g → (a b c d r s t u : ℤ) →
    value_of (a ∷ b ∷ c ∷ d ∷ r ∷ s ∷ t ∷ u ∷ []) (applied 8 0 f) ≡ value_of (a ∷ b ∷ c ∷ d ∷ r ∷ s ∷ t ∷ u ∷ []) (applied 8 0 g)
identity8 f g h a b c d r s t u = ring_identity (a ∷ b ∷ c ∷ d ∷ r ∷ s ∷ t ∷ u ∷ []) (applied 8 0 f) (applied 8 0 g) h

pub identity9 : (f g : Operation 9) → IsIdentity 9 f g → (a b c d r s t u v : ℤ) →
    value_of (a ∷ b ∷ c ∷ d ∷ r ∷ s ∷ t ∷ u ∷ v ∷ []) (applied 9 0 f) ≡ value_of (a ∷ b ∷ c ∷ d ∷ r ∷ s ∷ t ∷ u ∷ v ∷ []) (applied 9 0 g)
identity9 f g h a b c d r s t u v = ring_identity (a ∷ b ∷ c ∷ d ∷ r ∷ s ∷ t ∷ u ∷ v ∷ []) (applied 9 0 f) (applied 9 0 g) h

pub identity10 : (f g : Operation 10) → IsIdentity 10 f g → (a b c d r s t u v w : ℤ) →
    value_of (a ∷ b ∷ c ∷ d ∷ r ∷ s ∷ t ∷ u ∷ v ∷ w ∷ []) (applied 10 0 f) ≡ value_of (a ∷ b ∷ c ∷ d ∷ r ∷ s ∷ t ∷ u ∷ v ∷ w ∷ []) (applied 10 0 g)
identity10 f g h a b c d r s t u v w = ring_identity (a ∷ b ∷ c ∷ d ∷ r ∷ s ∷ t ∷ u ∷ v ∷ w ∷ []) (applied 10 0 f) (applied 10 0 g) h
