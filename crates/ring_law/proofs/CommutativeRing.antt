-- The solver over any commutative ring whose equality is a relation, with linear combinations of hypotheses.
use Rattle.std.proofs.Common.{◌≡◌, ℕ, zero, suc, List, [], ◌∷◌, Bool, true, false, leb, refl, ap, subst, ℤ, pos, negsuc, ◌+ℤ◌, ◌*ℤ◌}
use Rattle.ring_law.proofs.RingSolver.{Expression, NormalForm, add_forms, add_term, all_zero, insert_variable, is_zero, is_zero-equal, literal, minus, multiply_by_term, multiply_forms, multiply_monomials, normal_form, same_monomial, same_monomial-equal, variable, ◌⊕◌, ◌⊖◌, ◌⊗◌}

-- a commutative ring: what its operations and the whole numbers in it obey, `Equal` being its equality
pub record CommutativeRing : Type 1 where
  pub Element : Type 0
  pub Equal : Element → Element → Type 0
  pub add : Element → Element → Element
  pub mul : Element → Element → Element
  pub neg : Element → Element
  pub of_integer : ℤ → Element
  pub equal_refl : (a : Element) → Equal a a
  pub equal_sym : {a b : Element} → Equal a b → Equal b a
  pub equal_trans : {a b c : Element} → Equal a b → Equal b c → Equal a c
  pub add_equal : {a b c d : Element} → Equal a b → Equal c d → Equal (add a c) (add b d)
  pub mul_equal : {a b c d : Element} → Equal a b → Equal c d → Equal (mul a c) (mul b d)
  pub neg_is : (a : Element) → Equal (neg a) (mul (of_integer (negsuc 0)) a)
  pub add_assoc : (a b c : Element) → Equal (add (add a b) c) (add a (add b c))
  pub add_comm : (a b : Element) → Equal (add a b) (add b a)
  pub add_zero : (a : Element) → Equal (add a (of_integer (pos 0))) a
  pub mul_assoc : (a b c : Element) → Equal (mul (mul a b) c) (mul a (mul b c))
  pub mul_comm : (a b : Element) → Equal (mul a b) (mul b a)
  pub mul_one : (a : Element) → Equal (mul a (of_integer (pos 1))) a
  pub mul_zero : (a : Element) → Equal (mul a (of_integer (pos 0))) (of_integer (pos 0))
  pub mul_add : (a b c : Element) → Equal (mul a (add b c)) (add (mul a b) (mul a c))
  pub of_integer_add : (c d : ℤ) → Equal (of_integer (c +ℤ d)) (add (of_integer c) (of_integer d))
  pub of_integer_mul : (c d : ℤ) → Equal (of_integer (c *ℤ d)) (mul (of_integer c) (of_integer d))

module _ (R : CommutativeRing) where
  -- the value of variable i
  abbrev pub lookup : List R.Element → ℕ → R.Element
  lookup [] i = R.of_integer (pos 0)
  lookup (x ∷ xs) zero = x
  lookup (x ∷ xs) (suc i) = lookup xs i

  -- the value of an expression, e being the values of its variables
  abbrev pub value_of : List R.Element → Expression → R.Element
  value_of e (variable i) = lookup e i
  value_of e (literal c) = R.of_integer c
  value_of e (a ⊕ b) = R.add (value_of e a) (value_of e b)
  value_of e (a ⊖ b) = R.add (value_of e a) (R.neg (value_of e b))
  value_of e (a ⊗ b) = R.mul (value_of e a) (value_of e b)
  value_of e (minus a) = R.neg (value_of e a)

  abbrev monomial_value : List R.Element → List ℕ → R.Element
  monomial_value e [] = R.of_integer (pos 1)
  monomial_value e (i ∷ m) = R.mul (lookup e i) (monomial_value e m)

  abbrev form_value : List R.Element → NormalForm → R.Element
  form_value e [] = R.of_integer (pos 0)
  form_value e ((c, m) ∷ p) = R.add (R.mul (R.of_integer c) (monomial_value e m)) (form_value e p)

  add_mul : (a b c : R.Element) → R.Equal (R.mul (R.add a b) c) (R.add (R.mul a c) (R.mul b c))
  add_mul a b c = R.equal_trans (R.mul_comm (R.add a b) c) (R.equal_trans (R.mul_add c a b) (R.add_equal (R.mul_comm c a) (R.mul_comm c b)))

  one_mul : (a : R.Element) → R.Equal (R.mul (R.of_integer (pos 1)) a) a
  one_mul a = R.equal_trans (R.mul_comm (R.of_integer (pos 1)) a) (R.mul_one a)

  zero_mul : (a : R.Element) → R.Equal (R.mul (R.of_integer (pos 0)) a) (R.of_integer (pos 0))
  zero_mul a = R.equal_trans (R.mul_comm (R.of_integer (pos 0)) a) (R.mul_zero a)

  zero_add : (a : R.Element) → R.Equal (R.add (R.of_integer (pos 0)) a) a
  zero_add a = R.equal_trans (R.add_comm (R.of_integer (pos 0)) a) (R.add_zero a)

  add_left : (a b c : R.Element) → R.Equal (R.add a (R.add b c)) (R.add b (R.add a c))
  add_left a b c = R.equal_trans (R.equal_sym (R.add_assoc a b c)) (R.equal_trans (R.add_equal (R.add_comm a b) (R.equal_refl c)) (R.add_assoc b a c))

  mul_left : (a b c : R.Element) → R.Equal (R.mul a (R.mul b c)) (R.mul b (R.mul a c))
  mul_left a b c = R.equal_trans (R.equal_sym (R.mul_assoc a b c)) (R.equal_trans (R.mul_equal (R.mul_comm a b) (R.equal_refl c)) (R.mul_assoc b a c))

  same : {a b : R.Element} → a ≡ b → R.Equal a b
  same {a} {b} e = subst (λ x. R.Equal a x) e (R.equal_refl a)

  form_value-add_term : (e : List R.Element) (c : ℤ) (m : List ℕ) (p : NormalForm) →
      R.Equal (form_value e (add_term c m p)) (R.add (R.mul (R.of_integer c) (monomial_value e m)) (form_value e p))
  form_value-add_term e c m [] = R.equal_refl (R.add (R.mul (R.of_integer c) (monomial_value e m)) (R.of_integer (pos 0)))
  form_value-add_term e c m ((d, k) ∷ p) = go (same_monomial m k) refl (form_value-add_term e c m p)
    where
      go : (t : Bool) → same_monomial m k ≡ t →
          R.Equal (form_value e (add_term c m p)) (R.add (R.mul (R.of_integer c) (monomial_value e m)) (form_value e p)) →
          R.Equal (form_value e (elim t as (λ _. NormalForm) [ true ↦ (c +ℤ d, k) ∷ p | false ↦ (d, k) ∷ add_term c m p ])) (R.add (R.mul (R.of_integer c)
          (monomial_value e m)) (R.add (R.mul (R.of_integer d) (monomial_value e k)) (form_value e p)))
      go true h i =
          rw (same_monomial-equal m k h)
          (R.equal_trans (R.add_equal
          (R.equal_trans (R.mul_equal (R.of_integer_add c d) (R.equal_refl (monomial_value e k)))
          (add_mul (R.of_integer c) (R.of_integer d) (monomial_value e k))) (R.equal_refl (form_value e p)))
          (R.add_assoc (R.mul (R.of_integer c) (monomial_value e k)) (R.mul (R.of_integer d) (monomial_value e k)) (form_value e p)))
      go false h i =
          R.equal_trans (R.add_equal (R.equal_refl (R.mul (R.of_integer d) (monomial_value e k))) i)
          (add_left (R.mul (R.of_integer d) (monomial_value e k)) (R.mul (R.of_integer c) (monomial_value e m)) (form_value e p))

  form_value-add_forms : (e : List R.Element) (p q : NormalForm) → R.Equal (form_value e (add_forms p q)) (R.add (form_value e p) (form_value e q))
  form_value-add_forms e [] q = R.equal_sym (zero_add (form_value e q))
  form_value-add_forms e ((c, m) ∷ p) q =
      R.equal_trans (form_value-add_term e c m (add_forms p q))
      (R.equal_trans (R.add_equal (R.equal_refl (R.mul (R.of_integer c) (monomial_value e m))) (form_value-add_forms e p q))
      (R.equal_sym (R.add_assoc (R.mul (R.of_integer c) (monomial_value e m)) (form_value e p) (form_value e q))))

  monomial_value-insert_variable : (e : List R.Element) (i : ℕ) (k : List ℕ) →
      R.Equal (monomial_value e (insert_variable i k)) (R.mul (lookup e i) (monomial_value e k))
  monomial_value-insert_variable e i [] = R.equal_refl (R.mul (lookup e i) (R.of_integer (pos 1)))
  monomial_value-insert_variable e i (j ∷ k) = go (leb i j) (monomial_value-insert_variable e i k)
    where
      go : (t : Bool) → R.Equal (monomial_value e (insert_variable i k)) (R.mul (lookup e i) (monomial_value e k)) →
          R.Equal (monomial_value e (elim t as (λ _. List ℕ) [ true ↦ i ∷ j ∷ k | false ↦ j ∷ insert_variable i k ])) (R.mul (lookup e i) (R.mul (lookup e j)
          (monomial_value e k)))
      go true h = R.equal_refl (R.mul (lookup e i) (R.mul (lookup e j) (monomial_value e k)))
      go false h = R.equal_trans (R.mul_equal (R.equal_refl (lookup e j)) h) (mul_left (lookup e j) (lookup e i) (monomial_value e k))

  monomial_value-multiply_monomials : (e : List R.Element) (m k : List ℕ) →
      R.Equal (monomial_value e (multiply_monomials m k)) (R.mul (monomial_value e m) (monomial_value e k))
  monomial_value-multiply_monomials e [] k = R.equal_sym (one_mul (monomial_value e k))
  monomial_value-multiply_monomials e (i ∷ m) k =
      R.equal_trans (monomial_value-insert_variable e i (multiply_monomials m k))
      (R.equal_trans (R.mul_equal (R.equal_refl (lookup e i)) (monomial_value-multiply_monomials e m k))
      (R.equal_sym (R.mul_assoc (lookup e i) (monomial_value e m) (monomial_value e k))))

  four : (a b c d : R.Element) → R.Equal (R.mul (R.mul a b) (R.mul c d)) (R.mul (R.mul a c) (R.mul b d))
  four a b c d =
      R.equal_trans (R.mul_assoc a b (R.mul c d))
      (R.equal_trans (R.mul_equal (R.equal_refl a) (mul_left b c d)) (R.equal_sym (R.mul_assoc a c (R.mul b d))))

  form_value-multiply_by_term : (e : List R.Element) (c : ℤ) (m : List ℕ) (p : NormalForm) →
      R.Equal (form_value e (multiply_by_term c m p)) (R.mul (R.mul (R.of_integer c) (monomial_value e m)) (form_value e p))
  form_value-multiply_by_term e c m [] = R.equal_sym (R.mul_zero (R.mul (R.of_integer c) (monomial_value e m)))
  form_value-multiply_by_term e c m ((d, k) ∷ p) =
      R.equal_trans (R.add_equal
      (R.equal_trans (R.mul_equal (R.of_integer_mul c d) (monomial_value-multiply_monomials e m k))
      (four (R.of_integer c) (R.of_integer d) (monomial_value e m) (monomial_value e k))) (form_value-multiply_by_term e c m p))
      (R.equal_sym (R.mul_add (R.mul (R.of_integer c) (monomial_value e m)) (R.mul (R.of_integer d) (monomial_value e k)) (form_value e p)))

  form_value-multiply_forms : (e : List R.Element) (p q : NormalForm) →
      R.Equal (form_value e (multiply_forms p q)) (R.mul (form_value e p) (form_value e q))
  form_value-multiply_forms e [] q = R.equal_sym (zero_mul (form_value e q))
  form_value-multiply_forms e ((c, m) ∷ p) q =
      R.equal_trans (form_value-add_forms e (multiply_by_term c m q) (multiply_forms p q))
      (R.equal_trans (R.add_equal (form_value-multiply_by_term e c m q) (form_value-multiply_forms e p q))
      (R.equal_sym (add_mul (R.mul (R.of_integer c) (monomial_value e m)) (form_value e p) (form_value e q))))

  negated : (x : R.Element) → R.Equal (R.mul (R.mul (R.of_integer (negsuc 0)) (R.of_integer (pos 1))) x) (R.neg x)
  negated x = R.equal_trans (R.mul_equal (R.mul_one (R.of_integer (negsuc 0))) (R.equal_refl x)) (R.equal_sym (R.neg_is x))

  neg_c : {a b : R.Element} → R.Equal a b → R.Equal (R.neg a) (R.neg b)
  neg_c {a} {b} h = R.equal_trans (R.neg_is a) (R.equal_trans (R.mul_equal (R.equal_refl (R.of_integer (negsuc 0))) h) (R.equal_sym (R.neg_is b)))

  form_value-normal_form : (e : List R.Element) (a : Expression) → R.Equal (form_value e (normal_form a)) (value_of e a)
  form_value-normal_form e (variable i) =
      R.equal_trans (R.add_zero (R.mul (R.of_integer (pos 1)) (R.mul (lookup e i) (R.of_integer (pos 1)))))
      (R.equal_trans (one_mul (R.mul (lookup e i) (R.of_integer (pos 1)))) (R.mul_one (lookup e i)))
  form_value-normal_form e (literal c) = R.equal_trans (R.add_zero (R.mul (R.of_integer c) (R.of_integer (pos 1)))) (R.mul_one (R.of_integer c))
  form_value-normal_form e (a ⊕ b) =
      R.equal_trans (form_value-add_forms e (normal_form a) (normal_form b)) (R.add_equal (form_value-normal_form e a) (form_value-normal_form e b))
  form_value-normal_form e (a ⊖ b) =
      R.equal_trans (form_value-add_forms e (multiply_by_term (negsuc 0) [] (normal_form b)) (normal_form a))
      (R.equal_trans (R.add_equal
      (R.equal_trans (form_value-multiply_by_term e (negsuc 0) [] (normal_form b))
      (R.equal_trans (negated (form_value e (normal_form b))) (neg_c (form_value-normal_form e b)))) (form_value-normal_form e a))
      (R.add_comm (R.neg (value_of e b)) (value_of e a)))
  form_value-normal_form e (a ⊗ b) =
      R.equal_trans (form_value-multiply_forms e (normal_form a) (normal_form b)) (R.mul_equal (form_value-normal_form e a) (form_value-normal_form e b))
  form_value-normal_form e (minus a) =
      R.equal_trans (form_value-multiply_by_term e (negsuc 0) [] (normal_form a))
      (R.equal_trans (negated (form_value e (normal_form a))) (neg_c (form_value-normal_form e a)))

  form_value-all_zero : (e : List R.Element) (p : NormalForm) → all_zero p ≡ true → R.Equal (form_value e p) (R.of_integer (pos 0))
  form_value-all_zero e [] h = R.equal_refl (R.of_integer (pos 0))
  form_value-all_zero e ((c, m) ∷ p) h = go (is_zero c) refl h (form_value-all_zero e p)
    where
      go : (t : Bool) → is_zero c ≡ t → elim t as (λ _. Bool) [ true ↦ all_zero p | false ↦ false ] ≡ true →
          (all_zero p ≡ true → R.Equal (form_value e p) (R.of_integer (pos 0))) →
          R.Equal (R.add (R.mul (R.of_integer c) (monomial_value e m)) (form_value e p)) (R.of_integer (pos 0))
      go true d g f =
          R.equal_trans (R.add_equal
          (R.equal_trans (R.mul_equal (same (ap R.of_integer (is_zero-equal c d))) (R.equal_refl (monomial_value e m))) (zero_mul (monomial_value e m))) (f g))
          (R.add_zero (R.of_integer (pos 0)))
      go false d g f = absurd cc

  -- a negative and its number add up to 0
  pub minus_self : (b : R.Element) → R.Equal (R.add (R.neg b) b) (R.of_integer (pos 0))
  minus_self b =
      R.equal_trans (R.add_equal (R.neg_is b) (R.equal_sym (one_mul b)))
      (R.equal_trans (R.equal_sym (add_mul (R.of_integer (negsuc 0)) (R.of_integer (pos 1)) b))
      (R.equal_trans (R.mul_equal (R.equal_sym (R.of_integer_add (negsuc 0) (pos 1))) (R.equal_refl b)) (zero_mul b)))

  -- numbers whose difference is 0 are equal
  pub equal_from_sub : {a b : R.Element} → R.Equal (R.add a (R.neg b)) (R.of_integer (pos 0)) → R.Equal a b
  equal_from_sub {a} {b} h =
      R.equal_trans (R.equal_sym (R.add_zero a))
      (R.equal_trans (R.add_equal (R.equal_refl a) (R.equal_sym (minus_self b)))
      (R.equal_trans (R.equal_sym (R.add_assoc a (R.neg b) b)) (R.equal_trans (R.add_equal h (R.equal_refl b)) (zero_add b))))

  -- two expressions are equal where the normal form of their difference has only zeros
  pub ring_identity : (e : List R.Element) (a b : Expression) → all_zero (normal_form (a ⊖ b)) ≡ true → R.Equal (value_of e a) (value_of e b)
  ring_identity e a b h =
      equal_from_sub (R.equal_trans (R.equal_sym (form_value-normal_form e (a ⊖ b))) (form_value-all_zero e (normal_form (a ⊖ b)) h))

  -- a hypothesis times a factor, as a number that is zero, and the sum of two such
  pub vanishing_multiple : (c : R.Element) {l r : R.Element} → R.Equal l r → R.Equal (R.mul c (R.add l (R.neg r))) (R.of_integer (pos 0))
  vanishing_multiple c {l} {r} h =
      R.equal_trans (R.mul_equal (R.equal_refl c)
      (R.equal_trans (R.add_equal h (R.equal_refl (R.neg r))) (R.equal_trans (R.add_comm r (R.neg r)) (minus_self r)))) (R.mul_zero c)

  -- the sum of two numbers that are 0
  pub vanishing_sum : {x y : R.Element} → R.Equal x (R.of_integer (pos 0)) → R.Equal y (R.of_integer (pos 0)) →
      R.Equal (R.add x y) (R.of_integer (pos 0))
  vanishing_sum h g = R.equal_trans (R.add_equal h g) (R.add_zero (R.of_integer (pos 0)))

  -- an equation from others: `a - b` is `z` by the ring's laws, and `z` is zero by the hypotheses
  pub ring_identity_from : (e : List R.Element) (a b z : Expression) → all_zero (normal_form (a ⊖ b ⊖ z)) ≡ true →
      R.Equal (value_of e z) (R.of_integer (pos 0)) → R.Equal (value_of e a) (value_of e b)
  ring_identity_from e a b z h g = equal_from_sub (R.equal_trans (ring_identity e (a ⊖ b) z h) g)
