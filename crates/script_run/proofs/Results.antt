-- The results of operations on registers.
use Rattle.std.proofs.Common.{◌≡◌, ℕ, ◌*◌, ◌+◌, ◌/◌, ◌%◌, ◌≤◌, ℤ, pos, nat_abs, sym, ◌∙◌, subst, List, [], length, slice_index, slice_index_or}
use Rattle.std.proofs.lemmas.List.{get_or_read}
use Rattle.set_table.specs.Sets.{data_of, degree_of, plain_of}
use Rattle.ring_law.specs.Residues.{centred_residue}
use Rattle.ring_law.specs.Sums.{values_below}
use Rattle.ring_law.specs.Polynomials.{AllWithin}
use Rattle.ring_law.specs.Rows.{natural_polynomial, row_polynomial}
use Rattle.bfv_model.specs.NoiseBounds.{product_bound}
use Rattle.bfv_model.specs.Slots.{slots_of}
use Rattle.bfv_model.specs.Plaintexts.{plain_sum, plain_difference, plain_negative, plain_multiple, plain_product}
use Rattle.bfv_params.specs.Values.{CipherValue, ContextValue}
use Rattle.bfv_params.specs.Ciphers.{HoldsIn}
use Rattle.bfv_params.specs.Contexts.{modulus_in}
use Rattle.script_text.specs.declared.script.Op.{Op}
use Rattle.script_text.specs.declared.script.Op.TheVariants.{Add, Sub, Neg, AddPlain, SubPlain, MulPlain, MulConst, Mul}
use Rattle.script_text.specs.Evaluating.{IsWithin}
use Rattle.key_switch.specs.Providers.{Digits}
use Rattle.script_run.specs.Runs.{Carries}
use Rattle.script_run.specs.Steps.{ResultCarries}
use Rattle.script_run.proofs.Carrying.{sum_carries, difference_carries, negative_carries, multiple_carries, product_carries}

-- the operand, and what it carries, are those of its register
pub moved : (n : ℕ) (ctx : ContextValue) (s : ℕ → ℤ) (values : List ℕ) (bound : ℕ) (x y : CipherValue) → x ≡ y → Carries n ctx s y values bound → Carries n ctx s x values bound
moved n ctx s values bound x y is = subst (λ c. Carries n ctx s c values bound) (sym is)

module _ (n : ℕ) (ctx : ContextValue) (told : Digits → Type 0) (plains : List (List ℕ)) (operand : ℕ → CipherValue) (x out : CipherValue) (op : Op) (a : ℕ) (left : x ≡ operand a) where
  pub add_result : (y : CipherValue) (b : ℕ) → op ≡ Add a b → y ≡ operand b
      → ((s : ℕ → ℤ) (m other : ℕ → ℕ) (bound more : ℕ) → HoldsIn n ctx x s m bound → HoldsIn n ctx y s other more
      → HoldsIn n ctx out s (plain_sum (plain_of ctx.set) m other) (bound + more))
      → ResultCarries n ctx told op plains operand out
  add_result y b is right made = subst (λ (o : Op). ResultCarries n ctx told o plains operand out) (sym is) (λ s lists values bounds premise plain on.
      let one = moved n ctx s _ _ x (operand a) left on.0 in
      let two = moved n ctx s _ _ y (operand b) right on.1.0 in
      sum_carries n ctx out s _ one.plaintext _ one.slots two.plaintext _ two.slots (made s one.plaintext two.plaintext _ _ one.holds two.holds))

  pub sub_result : (y : CipherValue) (b : ℕ) → op ≡ Sub a b → y ≡ operand b
      → ((s : ℕ → ℤ) (m other : ℕ → ℕ) (bound more : ℕ) → HoldsIn n ctx x s m bound → HoldsIn n ctx y s other more
      → HoldsIn n ctx out s (plain_difference (plain_of ctx.set) m other) (bound + more))
      → ResultCarries n ctx told op plains operand out
  sub_result y b is right made = subst (λ (o : Op). ResultCarries n ctx told o plains operand out) (sym is) (λ s lists values bounds premise plain on.
      let one = moved n ctx s _ _ x (operand a) left on.0 in
      let two = moved n ctx s _ _ y (operand b) right on.1.0 in
      difference_carries n ctx out s _ one.plaintext _ one.slots two.plaintext _ two.slots (made s one.plaintext two.plaintext _ _ one.holds two.holds))

  pub neg_result : op ≡ Neg a
      → ((s : ℕ → ℤ) (m : ℕ → ℕ) (bound : ℕ) → HoldsIn n ctx x s m bound → HoldsIn n ctx out s (plain_negative (plain_of ctx.set) m) bound)
      → ResultCarries n ctx told op plains operand out
  neg_result is made = subst (λ (o : Op). ResultCarries n ctx told o plains operand out) (sym is) (λ s lists values bounds premise plain on.
      let one = moved n ctx s _ _ x (operand a) left on.0 in
      negative_carries n ctx out s _ one.plaintext _ one.slots (made s one.plaintext _ one.holds))

  pub mul_const_result : (k : ℕ) → op ≡ MulConst a k
      → ((s : ℕ → ℤ) (m : ℕ → ℕ) (bound : ℕ) → HoldsIn n ctx x s m bound
      → HoldsIn n ctx out s (plain_multiple (plain_of ctx.set) (pos k) m) (nat_abs (centred_residue (plain_of ctx.set) (pos k)) * bound))
      → ResultCarries n ctx told op plains operand out
  mul_const_result k is made = subst (λ (o : Op). ResultCarries n ctx told o plains operand out) (sym is) (λ s lists values bounds premise plain on.
      let one = moved n ctx s _ _ x (operand a) left on.0 in
      multiple_carries n ctx out s _ one.plaintext _ one.slots k (made s one.plaintext _ one.holds))

  pub add_plain_result : (p registers : ℕ) (row list : List ℕ) → op ≡ AddPlain a p → IsWithin (plain_of ctx.set) (length plains) registers op → list ≡ slice_index_or plains p list → slots_of ctx.set (row_polynomial row) ≡ list
      → ((s : ℕ → ℤ) (m : ℕ → ℕ) (bound : ℕ) → HoldsIn n ctx x s m bound
      → HoldsIn n ctx out s (plain_sum (plain_of ctx.set) m (slice_index row)) (bound + plain_of ctx.set))
      → ResultCarries n ctx told op plains operand out
  add_plain_result p registers row list is within read encoded made = subst (λ (o : Op). ResultCarries n ctx told o plains operand out) (sym is) (λ s lists values bounds premise plain on.
      let one = moved n ctx s _ _ x (operand a) left on.0 in
      sum_carries n ctx out s _ one.plaintext _ one.slots (slice_index row) (slice_index_or lists p []) (encoded ∙ get_or_read plains p list (subst (IsWithin (plain_of ctx.set) (length plains) registers) is within).1 read [] ∙ plain) (made s one.plaintext _ one.holds))

  pub sub_plain_result : (p registers : ℕ) (row list : List ℕ) → op ≡ SubPlain a p → IsWithin (plain_of ctx.set) (length plains) registers op → list ≡ slice_index_or plains p list → slots_of ctx.set (row_polynomial row) ≡ list
      → ((s : ℕ → ℤ) (m : ℕ → ℕ) (bound : ℕ) → HoldsIn n ctx x s m bound
      → HoldsIn n ctx out s (plain_difference (plain_of ctx.set) m (slice_index row)) (bound + plain_of ctx.set))
      → ResultCarries n ctx told op plains operand out
  sub_plain_result p registers row list is within read encoded made = subst (λ (o : Op). ResultCarries n ctx told o plains operand out) (sym is) (λ s lists values bounds premise plain on.
      let one = moved n ctx s _ _ x (operand a) left on.0 in
      difference_carries n ctx out s _ one.plaintext _ one.slots (slice_index row) (slice_index_or lists p []) (encoded ∙ get_or_read plains p list (subst (IsWithin (plain_of ctx.set) (length plains) registers) is within).1 read [] ∙ plain) (made s one.plaintext _ one.holds))

  pub mul_plain_result : (p registers : ℕ) (row list : List ℕ) → op ≡ MulPlain a p → IsWithin (plain_of ctx.set) (length plains) registers op → n ≡ degree_of ctx.set → list ≡ slice_index_or plains p list → slots_of ctx.set (row_polynomial row) ≡ list
      → ((s : ℕ → ℤ) (m : ℕ → ℕ) (bound : ℕ) → HoldsIn n ctx x s m bound
      → HoldsIn n ctx out s (plain_product n (plain_of ctx.set) m (slice_index row)) (n * (plain_of ctx.set / 2) * bound))
      → ResultCarries n ctx told op plains operand out
  mul_plain_result p registers row list is within degree read encoded made = subst (λ (o : Op). ResultCarries n ctx told o plains operand out) (sym is) (λ s lists values bounds premise plain on.
      let one = moved n ctx s _ _ x (operand a) left on.0 in
      product_carries n ctx out s _ one.plaintext _ one.slots (slice_index row) (slice_index_or lists p []) (encoded ∙ get_or_read plains p list (subst (IsWithin (plain_of ctx.set) (length plains) registers) is within).1 read [] ∙ plain)
      (subst (λ (d : ℕ). HoldsIn n ctx out s (plain_product d (plain_of ctx.set) one.plaintext (slice_index row)) (d * (plain_of ctx.set / 2) * slice_index bounds a)) degree (made s one.plaintext _ one.holds)))

  -- a product's bound is that of all data moduli
  module _ (degree : n ≡ degree_of ctx.set) (level : ctx.level ≡ length (data_of ctx.set)) where
    multiplied : (s : ℕ → ℤ) (m other : ℕ → ℕ) (v w : List ℕ) (bound more : ℕ) → slots_of ctx.set (natural_polynomial m) ≡ v → slots_of ctx.set (natural_polynomial other) ≡ w
        → HoldsIn n ctx out s (plain_product n (plain_of ctx.set) m other) (product_bound n (plain_of ctx.set) ctx.level bound more)
        → Carries n ctx s out (values_below (degree_of ctx.set) (λ i. slice_index v i * slice_index w i % plain_of ctx.set))
        (product_bound (degree_of ctx.set) (plain_of ctx.set) (length (data_of ctx.set)) bound more)
    multiplied s m other v w bound more one two holds =
        product_carries n ctx out s _ m v one other w two
        (subst (λ (d : ℕ). HoldsIn n ctx out s (plain_product d (plain_of ctx.set) m other) (product_bound d (plain_of ctx.set) (length (data_of ctx.set)) bound more)) degree
        (subst (λ (l : ℕ). HoldsIn n ctx out s (plain_product n (plain_of ctx.set) m other) (product_bound n (plain_of ctx.set) l bound more)) level holds))

    pub multiply_result : (y : CipherValue) (b : ℕ) → op ≡ Mul a b → y ≡ operand b
        → ((s : ℕ → ℤ) (m other : ℕ → ℕ) (bound more : ℕ) → AllWithin n 1 s → HoldsIn n ctx x s m bound → 4 * bound ≤ modulus_in ctx → HoldsIn n ctx y s other more → 4 * more ≤ modulus_in ctx
        → HoldsIn n ctx out s (plain_product n (plain_of ctx.set) m other) (product_bound n (plain_of ctx.set) ctx.level bound more))
        → ResultCarries n ctx told op plains operand out
    multiply_result y b is right made = subst (λ (o : Op). ResultCarries n ctx told o plains operand out) (sym is) (λ s lists values bounds premise plain on.
        let one = moved n ctx s _ _ x (operand a) left on.0 in
        let two = moved n ctx s _ _ y (operand b) right on.1.0 in
        multiplied s one.plaintext two.plaintext _ _ _ _ one.slots two.slots (made s one.plaintext two.plaintext _ _ premise.0 one.holds premise.1 two.holds premise.2))

    pub square_result : op ≡ Mul a a
        → ((s : ℕ → ℤ) (m : ℕ → ℕ) (bound : ℕ) → AllWithin n 1 s → HoldsIn n ctx x s m bound → 4 * bound ≤ modulus_in ctx
        → HoldsIn n ctx out s (plain_product n (plain_of ctx.set) m m) (product_bound n (plain_of ctx.set) ctx.level bound bound))
        → ResultCarries n ctx told op plains operand out
    square_result is made = subst (λ (o : Op). ResultCarries n ctx told o plains operand out) (sym is) (λ s lists values bounds premise plain on.
        let one = moved n ctx s _ _ x (operand a) left on.0 in
        multiplied s one.plaintext one.plaintext _ _ _ _ one.slots one.slots (made s one.plaintext _ premise.0 one.holds premise.1))
