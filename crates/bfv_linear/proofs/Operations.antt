-- What ciphers hold that were written by an operation, row after row.
use Rattle.std.proofs.Common.{◌≡◌, ⊎_elim, ℕ, ◌+◌, ◌-◌, ◌*◌, ◌/◌, ◌%◌, ◌*ℤ◌, ◌<◌, ◌≤◌, ◌∙◌, arith, sym, subst, ap, ℤ, pos, nat_abs, List, length, slice_index}
use Rattle.std.proofs.Math.Nat.{mod_self, mul-zero, zero-mod}
use Rattle.set_table.specs.Sets.{degree_of, plain_of}
use Rattle.ring_law.specs.Polynomials.{ring_negative, ring_product, ring_sum}
use Rattle.ring_law.specs.Residues.{centred_residue, residue}
use Rattle.ring_law.specs.Rows.{natural_polynomial}
use Rattle.ring_law.proofs.Congruence.{Congruent-mul, Congruent-refl, Congruent-sym}
use Rattle.ring_law.proofs.PolynomialRing.{ring_product_congruent}
use Rattle.ring_law.proofs.Residues.{Congruent-centred_residue, Congruent-from_residues, centred_residue_size, residue-add, residue-mul, residue-neg, residue_equal}
use Rattle.bfv_model.specs.Holds.{zero_polynomial}
use Rattle.bfv_model.specs.Plaintexts.{plain_difference, plain_multiple, plain_negative, plain_product, plain_sum}
use Rattle.bfv_model.proofs.LinearOperations.{Holds-add, Holds-add_plain, Holds-mul_constant, Holds-mul_plain, Holds-neg, Holds-sub, Holds-sub_plain}
use Rattle.bfv_model.proofs.Noise.{Holds-equal_plain, ring_product_zero}
use Rattle.bfv_model.proofs.Sets.{degree_pos}
use Rattle.bfv_params.specs.Values.{CipherValue, ContextValue}
use Rattle.bfv_params.specs.Ciphers.{HoldsIn}
use Rattle.bfv_linear.specs.Parts.{PartsRepresent, at_first_part, scaled_polynomial}
use Rattle.bfv_linear.specs.Plaintexts.{centred_plain}
use Rattle.bfv_linear.specs.Signs.{signed}
use Rattle.bfv_linear.specs.declared.signs.Sign.{Sign}
use Rattle.bfv_linear.specs.declared.signs.Sign.TheVariants.{Plus, Minus}
use Rattle.bfv_linear.proofs.Ciphers.{HoldsIn-parts, parts_written, third_is_zero, with_second}
use Rattle.bfv_linear.proofs.Moduli.{both_positive, plain_positive}
use Rattle.bfv_linear.proofs.Operands.{IsOperand}
use Rattle.bfv_linear.proofs.Results.{Becomes, Combines, IsZeroModulo, KeepsZero}
use Rattle.bfv_linear.proofs.Written.{WrittenTo}

-- ---- what is 0 modulo q
zero_negative : (n q : ℕ) (x : ℕ → ℤ) → 0 < q → IsZeroModulo n q x → IsZeroModulo n q (ring_negative x)
zero_negative n q x positive vanishes k below =
    residue-neg q (x k) positive ∙ ap (λ (r : ℕ). (q - r) % q) (vanishes k below) ∙ ap (λ (r : ℕ). r % q) (whole q) ∙ mod_self q
  where
    whole : (q : ℕ) → q - 0 ≡ q
    whole q = omega arith

zero_signed : (sign : Sign) (n q : ℕ) (x : ℕ → ℤ) → 0 < q → IsZeroModulo n q x → IsZeroModulo n q (signed sign x)
zero_signed Plus n q x positive vanishes = vanishes
zero_signed Minus n q x positive vanishes = zero_negative n q x positive vanishes

zero_sum : (n q : ℕ) (x y : ℕ → ℤ) → 0 < q → IsZeroModulo n q x → IsZeroModulo n q y → IsZeroModulo n q (ring_sum x y)
zero_sum n q x y positive vanishes other k below =
    residue-add q (x k) (y k) positive ∙ ap (λ (r : ℕ). (r + residue q (y k)) % q) (vanishes k below) ∙ ap (λ (r : ℕ). (0 + r) % q) (other k below) ∙ zero-mod q

zero_multiple : (n q : ℕ) (c : ℤ) (x : ℕ → ℤ) → 0 < q → IsZeroModulo n q x → IsZeroModulo n q (λ k. c *ℤ x k)
zero_multiple n q c x positive vanishes k below =
    residue-mul q c (x k) positive ∙ ap (λ (r : ℕ). (residue q c * r) % q) (vanishes k below) ∙ ap (λ (r : ℕ). r % q) (mul-zero (residue q c)) ∙ zero-mod q

zero_product : (n q : ℕ) (x p : ℕ → ℤ) → 0 < q → IsZeroModulo n q x → IsZeroModulo n q (ring_product n x p)
zero_product n q x p positive vanishes k below =
    residue_equal q (ring_product n x p k) (ring_product n zero_polynomial p k) positive
    ((ring_product_congruent q n {a = x} {b = zero_polynomial} {c = p} {d = p}
    (record { at = λ k l. Congruent-from_residues q (x k) (pos 0) positive (vanishes k l ∙ sym (zero-mod q)) })
    (record { at = λ k l. Congruent-refl q (p k) })).at k below)
    ∙ ap (residue q) (ring_product_zero n p k) ∙ zero-mod q

-- ---- a is written over first, which now is a cipher of count rows
module _ (n : ℕ) (ctx : ContextValue) (moduli : List ℕ) (a first now : CipherValue) (count : ℕ) (known : IsOperand n ctx moduli a)
    (over : IsOperand n ctx moduli first) (fewer : a.parts ≤ first.parts) (all : count ≡ first.parts * length moduli) where
  in_rows : count ≤ 3 * length moduli
  in_rows = ⊎_elim (λ (two : first.parts ≡ 2). let rows = ap (λ (p : ℕ). p * length moduli) two in omega arith)
      (λ (three : first.parts ≡ 3). let rows = ap (λ (p : ℕ). p * length moduli) three in omega arith) over.count

  -- one operation on the parts of a
  made_of : (op : ℕ → (ℕ → ℤ) → ℕ → ℤ) → KeepsZero n first.parts moduli (op 2) → WrittenTo first (Becomes n moduli (length moduli) op a.rows) count now
      → (x : ℕ → ℕ → ℤ) → PartsRepresent n ctx a x → PartsRepresent n ctx now (λ j. op j (x j))
  made_of op keeps written = parts_written n ctx moduli a first now op count known over fewer keeps written all

  pub parts_negative : WrittenTo first (Becomes n moduli (length moduli) (λ j. ring_negative) a.rows) count now
      → (x : ℕ → ℕ → ℤ) → PartsRepresent n ctx a x → PartsRepresent n ctx now (λ j. ring_negative (x j))
  parts_negative = made_of (λ j. ring_negative) (λ p x in_list positive two vanishes. zero_negative n (slice_index moduli p) x positive vanishes)

  pub parts_signed_sum : (sign : Sign) (b : CipherValue) → IsOperand n ctx moduli b → b.parts ≤ first.parts
      → WrittenTo first (Combines n moduli (length moduli) (λ x y. ring_sum x (signed sign y)) a.rows b.rows) count now
      → (x y : ℕ → ℕ → ℤ) → PartsRepresent n ctx a x → PartsRepresent n ctx b y → PartsRepresent n ctx now (λ j. ring_sum (x j) (signed sign (y j)))
  parts_signed_sum sign b known_b few written x y of_a of_b = made_of (λ j x. ring_sum x (signed sign (y j)))
      (λ p x in_list positive two vanishes. zero_sum n (slice_index moduli p) x (signed sign (y 2)) positive vanishes
      (zero_signed sign n (slice_index moduli p) (y 2) positive (third_is_zero n ctx moduli b known_b y of_b (omega arith) p in_list)))
      (with_second n ctx moduli a b first now (λ x y. ring_sum x (signed sign y)) count known_b in_rows y of_b written) x of_a

  pub parts_multiple : (c : ℤ) → WrittenTo first (Becomes n moduli (length moduli) (λ j x i. c *ℤ x i) a.rows) count now
      → (x : ℕ → ℕ → ℤ) → PartsRepresent n ctx a x → PartsRepresent n ctx now (λ j i. c *ℤ x j i)
  parts_multiple c = made_of (λ j x i. c *ℤ x i) (λ p x in_list positive two vanishes. zero_multiple n (slice_index moduli p) c x positive vanishes)

  pub parts_product : (y : ℕ → ℤ) → WrittenTo first (Becomes n moduli (length moduli) (λ j x. ring_product n x y) a.rows) count now
      → (x : ℕ → ℕ → ℤ) → PartsRepresent n ctx a x → PartsRepresent n ctx now (λ j. ring_product n (x j) y)
  parts_product y = made_of (λ j x. ring_product n x y) (λ p x in_list positive two vanishes. zero_product n (slice_index moduli p) x y positive vanishes)

  pub parts_at_first : (op : (ℕ → ℤ) → ℕ → ℤ) → WrittenTo first (Becomes n moduli (length moduli) (at_first_part op) a.rows) count now
      → (x : ℕ → ℕ → ℤ) → PartsRepresent n ctx a x → PartsRepresent n ctx now (λ j. at_first_part op j (x j))
  parts_at_first op = made_of (at_first_part op) (λ p x in_list positive two vanishes. vanishes)

-- ---- what the result holds, by the polynomials that its parts represent
module _ (n : ℕ) (ctx : ContextValue) (degree : n ≡ degree_of ctx.set) (a now : CipherValue) where
  some : 0 < n
  some = subst (λ m. 0 < m) (sym degree) (degree_pos ctx.set)

  pub HoldsIn-negative : ((x : ℕ → ℕ → ℤ) → PartsRepresent n ctx a x → PartsRepresent n ctx now (λ j. ring_negative (x j)))
      → {s : ℕ → ℤ} {m : ℕ → ℕ} {bound : ℕ} → HoldsIn n ctx a s m bound → HoldsIn n ctx now s (plain_negative (plain_of ctx.set) m) bound
  HoldsIn-negative words h = HoldsIn-parts n ctx now _ (words (λ j. natural_polynomial (h.part j)) h.represents)
      (Holds-neg some (plain_positive ctx.set) (both_positive ctx.set ctx.level) h.holds)

  pub HoldsIn-sum : (b : CipherValue)
      → ((x y : ℕ → ℕ → ℤ) → PartsRepresent n ctx a x → PartsRepresent n ctx b y → PartsRepresent n ctx now (λ j. ring_sum (x j) (y j)))
      → {s : ℕ → ℤ} {m other : ℕ → ℕ} {bound more : ℕ} → HoldsIn n ctx a s m bound → HoldsIn n ctx b s other more
      → HoldsIn n ctx now s (plain_sum (plain_of ctx.set) m other) (bound + more)
  HoldsIn-sum b words h hb =
      HoldsIn-parts n ctx now (λ j. ring_sum (natural_polynomial (h.part j)) (natural_polynomial (hb.part j))) (words (λ j. natural_polynomial (h.part j)) (λ j. natural_polynomial (hb.part j)) h.represents hb.represents)
      (Holds-add some (plain_positive ctx.set) (both_positive ctx.set ctx.level) h.holds hb.holds)

  pub HoldsIn-difference : (b : CipherValue)
      → ((x y : ℕ → ℕ → ℤ) → PartsRepresent n ctx a x → PartsRepresent n ctx b y → PartsRepresent n ctx now (λ j. ring_sum (x j) (ring_negative (y j))))
      → {s : ℕ → ℤ} {m other : ℕ → ℕ} {bound more : ℕ} → HoldsIn n ctx a s m bound → HoldsIn n ctx b s other more
      → HoldsIn n ctx now s (plain_difference (plain_of ctx.set) m other) (bound + more)
  HoldsIn-difference b words h hb =
      HoldsIn-parts n ctx now _ (words (λ j. natural_polynomial (h.part j)) (λ j. natural_polynomial (hb.part j)) h.represents hb.represents)
      (Holds-sub some (plain_positive ctx.set) (both_positive ctx.set ctx.level) h.holds hb.holds)

  pub HoldsIn-multiple : (k : ℕ)
      → ((x : ℕ → ℕ → ℤ) → PartsRepresent n ctx a x → PartsRepresent n ctx now (λ j i. centred_residue (plain_of ctx.set) (pos k) *ℤ x j i))
      → {s : ℕ → ℤ} {m : ℕ → ℕ} {bound : ℕ} → HoldsIn n ctx a s m bound
      → HoldsIn n ctx now s (plain_multiple (plain_of ctx.set) (pos k) m) (nat_abs (centred_residue (plain_of ctx.set) (pos k)) * bound)
  HoldsIn-multiple c words {s} {m} {bound} h = HoldsIn-parts n ctx now _ (words (λ j. natural_polynomial (h.part j)) h.represents)
      (Holds-equal_plain (plain_multiple (plain_of ctx.set) (pos c) m) same
      (Holds-mul_constant some (plain_positive ctx.set) (both_positive ctx.set ctx.level) h.holds factor))
    where
      factor : ℤ
      factor = centred_residue (plain_of ctx.set) (pos c)

      same : (k : ℕ) → k < n → residue (plain_of ctx.set) (factor *ℤ pos (m k)) ≡ residue (plain_of ctx.set) (pos c *ℤ pos (m k))
      same k below = residue_equal (plain_of ctx.set) (factor *ℤ pos (m k)) (pos c *ℤ pos (m k)) (plain_positive ctx.set)
          (Congruent-mul (plain_of ctx.set) (Congruent-sym (plain_of ctx.set) (Congruent-centred_residue (plain_of ctx.set) (pos c) (plain_positive ctx.set)))
          (Congruent-refl (plain_of ctx.set) (pos (m k))))

  pub HoldsIn-product : (plain : ℕ → ℕ)
      → ((x : ℕ → ℕ → ℤ) → PartsRepresent n ctx a x → PartsRepresent n ctx now (λ j. ring_product n (x j) (centred_plain (plain_of ctx.set) plain)))
      → {s : ℕ → ℤ} {m : ℕ → ℕ} {bound : ℕ} → HoldsIn n ctx a s m bound
      → HoldsIn n ctx now s (plain_product n (plain_of ctx.set) m plain) (n * (plain_of ctx.set / 2) * bound)
  HoldsIn-product plain words h = HoldsIn-parts n ctx now _ (words (λ j. natural_polynomial (h.part j)) h.represents)
      (Holds-mul_plain some (plain_positive ctx.set) (both_positive ctx.set ctx.level) h.holds {m2 = plain} (plain_of ctx.set / 2) factor
      (λ k below. half (plain_of ctx.set) (nat_abs (factor k)) (centred_residue_size (plain_of ctx.set) (pos (plain k)) (plain_positive ctx.set)))
      (record { at = λ k below. Congruent-sym (plain_of ctx.set) (Congruent-centred_residue (plain_of ctx.set) (pos (plain k)) (plain_positive ctx.set)) }))
    where
      factor : ℕ → ℤ
      factor = centred_plain (plain_of ctx.set) plain

      half : (t a : ℕ) → 2 * a ≤ t → a ≤ t / 2
      half t a twice = omega arith

  pub HoldsIn-plain_sum : (plain : ℕ → ℕ)
      → ((x : ℕ → ℕ → ℤ) → PartsRepresent n ctx a x → PartsRepresent n ctx now (λ j. at_first_part (λ x. ring_sum x (scaled_polynomial ctx plain)) j (x j)))
      → {s : ℕ → ℤ} {m : ℕ → ℕ} {bound : ℕ} → HoldsIn n ctx a s m bound
      → HoldsIn n ctx now s (plain_sum (plain_of ctx.set) m plain) (bound + plain_of ctx.set)
  HoldsIn-plain_sum plain words h = HoldsIn-parts n ctx now _ (words (λ j. natural_polynomial (h.part j)) h.represents)
      (Holds-add_plain some (plain_positive ctx.set) (both_positive ctx.set ctx.level) h.holds plain)

  pub HoldsIn-plain_difference : (plain : ℕ → ℕ)
      → ((x : ℕ → ℕ → ℤ) → PartsRepresent n ctx a x → PartsRepresent n ctx now (λ j. at_first_part (λ x. ring_sum x (ring_negative (scaled_polynomial ctx plain))) j (x j)))
      → {s : ℕ → ℤ} {m : ℕ → ℕ} {bound : ℕ} → HoldsIn n ctx a s m bound
      → HoldsIn n ctx now s (plain_difference (plain_of ctx.set) m plain) (bound + plain_of ctx.set)
  HoldsIn-plain_difference plain words h = HoldsIn-parts n ctx now _ (words (λ j. natural_polynomial (h.part j)) h.represents)
      (Holds-sub_plain some (plain_positive ctx.set) (both_positive ctx.set ctx.level) h.holds plain)
