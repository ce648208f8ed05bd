-- The product of two ciphers, from the rows of their lifted parts, and what it holds.
use Rattle.std.proofs.Common.{◌≡◌, ℕ, zero, suc, ◌+◌, ◌*◌, ◌<◌, ◌≤◌, arith, sym, subst, le_trans, mul-le-mul, mul-le-mul_left, ℤ, nat_abs, List, length}
use Rattle.std.proofs.Math.Nat.{le_of_mul-le-mul_left}
use Rattle.set_table.specs.Sets.{data_of, degree_of, m_tilde, plain_of}
use Rattle.ring_law.specs.Polynomials.{AllWithin, CongruentPolynomials}
use Rattle.ring_law.specs.Rows.{WordsRepresent}
use Rattle.ring_law.proofs.Congruence.{Congruent-refl}
use Rattle.res_base.specs.Sizes.{FitTogether}
use Rattle.res_base.proofs.Sizes.{fit_together}
use Rattle.bfv_model.specs.Conversions.{IsMontgomeryLift}
use Rattle.bfv_model.specs.Holds.{Holds, listed_word, zero_polynomial}
use Rattle.bfv_model.specs.NoiseBounds.{product_bound}
use Rattle.bfv_model.specs.Plaintexts.{plain_product}
use Rattle.bfv_model.proofs.CipherOperations.{WordsRepresent-zero, part_of}
use Rattle.bfv_model.proofs.Ciphers.{CipherHolds-any, CipherHolds-from}
use Rattle.bfv_model.proofs.Multiplication.{Holds-product, lift_bound, lift_room, lift_within, part_size, part_size_one}
use Rattle.bfv_model.proofs.Noise.{mul_positive}
use Rattle.bfv_model.proofs.Sets.{degree_pos, plain_pos}
use Rattle.bfv_params.specs.Ciphers.{HoldsIn, IsCipherOf}
use Rattle.bfv_params.specs.Contexts.{data_in, modulus_in}
use Rattle.bfv_params.specs.Kept.{IsCipher}
use Rattle.bfv_params.specs.Values.{CipherValue, ContextValue}
use Rattle.bfv_params.proofs.Coprimality.{data_length}
use Rattle.bfv_params.proofs.Parts.{third_part_in_context}
use Rattle.bfv_tensor.specs.Products.{IsProductIn}
use Rattle.bfv_tensor.specs.Rows.{AreLiftedParts, ArePairTransforms, AreSmallParts, IsScaledPart, part_rows, product_moduli, product_part}
use Rattle.bfv_tensor.proofs.ProductModuli.{data_above_one, data_invertible, modulus_positive}

m_tilde_positive : 0 < m_tilde
m_tilde_positive = omega arith

-- ---- sizes
module _ (n : ℕ) (ctx : ContextValue) (degree : n ≡ degree_of ctx.set) (within : ctx.level ≤ length (data_of ctx.set)) where
  some : 0 < n
  some = subst (λ m. 0 < m) (sym degree) (degree_pos ctx.set)

  L : ℕ
  L = length (data_in ctx)

  room : 4 * (1 + n) * length (data_in ctx) ≤ m_tilde
  room =
      let fit : FitTogether ctx.set = fit_together ctx.set in
      let count : length (data_in ctx) ≤ length (data_of ctx.set) = omega (arith, data_length ctx.set ctx.level within) in
      le_trans (mul-le-mul_left (4 * (1 + n)) count)
      (subst (λ (m : ℕ). 4 * (1 + m) * length (data_of ctx.set) ≤ m_tilde) (sym degree) fit.lift_room)

  bound : ℕ
  bound = lift_bound (modulus_in ctx) m_tilde (length (data_in ctx))

  -- two products of lifted coefficients are at most q*q
  squares : 2 * (n * (bound * bound)) ≤ n * (modulus_in ctx * modulus_in ctx)
  unfolding bound
  squares = twice (modulus_in ctx) (lift_bound (modulus_in ctx) m_tilde (length (data_in ctx)))
      (lift_room n (modulus_in ctx) m_tilde (length (data_in ctx)) m_tilde_positive room)
    where
      eight : (q A : ℕ) → 4 * (1 + n) * A ≤ q * (2 * n + 3) → 8 * A ≤ 5 * q
      eight q A l = le_of_mul-le-mul_left {k = 1 + n} (let z : q * 1 ≤ q * n = mul-le-mul_left q some in omega arith) (omega arith)

      twice : (q A : ℕ) → 4 * (1 + n) * A ≤ q * (2 * n + 3) → 2 * (n * (A * A)) ≤ n * (q * q)
      twice q A l =
          let s : 8 * A * (8 * A) ≤ 5 * q * (5 * q) = mul-le-mul (eight q A l) (eight q A l) in
          let both : 2 * (A * A) ≤ q * q = omega arith in
          let all : n * (2 * (A * A)) ≤ n * (q * q) = mul-le-mul_left n both in omega arith

  lifted_within : {x y : ℕ → ℤ} → IsMontgomeryLift n (modulus_in ctx) m_tilde (length (data_in ctx)) x y → AllWithin n bound y
  unfolding bound
  lifted_within {x} {y} lift k less =
      lift_within (modulus_in ctx) m_tilde (length (data_in ctx)) (nat_abs (y k)) m_tilde_positive (lift.size k less)

  -- the products of lifted parts are small
  pub products_small : (x y u v : ℕ → ℕ → ℤ) → ((j : ℕ) → j < 2 → IsMontgomeryLift n (modulus_in ctx) m_tilde (length (data_in ctx)) (x j) (u j))
      → ((j : ℕ) → j < 2 → IsMontgomeryLift n (modulus_in ctx) m_tilde (length (data_in ctx)) (y j) (v j))
      → (j : ℕ) → j < 3 → AllWithin n (n * (modulus_in ctx * modulus_in ctx)) (product_part n u v j)
  products_small x y u v of_u of_v = small
    where
      of_a : (j : ℕ) → j < 2 → AllWithin n bound (u j)
      of_a j l = lifted_within (of_u j l)

      of_b : (j : ℕ) → j < 2 → AllWithin n bound (v j)
      of_b j l = lifted_within (of_v j l)

      small : (j : ℕ) → j < 3 → AllWithin n (n * (modulus_in ctx * modulus_in ctx)) (product_part n u v j)
      small zero l k less = le_trans (part_size_one n bound (u 0) (v 0) (of_a 0 (omega arith)) (of_b 0 (omega arith)) k less) squares
      small (suc zero) l k less =
          le_trans (part_size n bound (u 0) (v 1) (u 1) (v 0) (of_a 0 (omega arith)) (of_b 1 (omega arith)) (of_a 1 (omega arith)) (of_b 0 (omega arith)) k less) squares
      small (suc (suc j)) l k less = le_trans (part_size_one n bound (u 1) (v 1) (of_a 1 (omega arith)) (of_b 1 (omega arith)) k less) squares

  -- so are the parts that rows represent, from the lifted parts of two ciphers
  abbrev pub small_parts : (a b : ℕ → ℕ → ℕ → ℕ) (a_rows b_rows rows : List (List ℕ)) (la : AreLiftedParts n ctx a a_rows) (lb : AreLiftedParts n ctx b b_rows)
      → ((x y : ℕ → ℕ → ℤ) → ArePairTransforms ctx a_rows x → ArePairTransforms ctx b_rows y
      → (j : ℕ) → j < 3 → WordsRepresent n (product_moduli ctx) (listed_word (part_rows ctx) rows j) (product_part n x y j))
      → AreSmallParts n ctx rows
  small_parts a b a_rows b_rows rows la lb products = record {
    part = product_part n la.lifted lb.lifted;
    small = products_small la.part lb.part la.lifted lb.lifted la.lifts lb.lifts;
    represents = products la.lifted lb.lifted la.transforms lb.transforms;
  }

  -- ---- what was written is the product
  pub product_written : (a b c : CipherValue) (a_rows b_rows : List (List ℕ)) → (la : AreLiftedParts n ctx (listed_word ctx.level a.rows) a_rows)
      → (lb : AreLiftedParts n ctx (listed_word ctx.level b.rows) b_rows)
      → ((j : ℕ) → j < 3 → IsScaledPart n ctx c j (product_part n la.lifted lb.lifted j)) → IsProductIn n ctx a b c
  product_written a b c a_rows b_rows la lb scaled = record {
    a_part = la.part;
    b_part = lb.part;
    c_part = part_of first.quotient middle.quotient last.quotient;
    a_represents = la.represents;
    b_represents = lb.represents;
    c_represents = represents;
    product = record {
      lifted_a0 = la.lifted 0;
      lifted_a1 = la.lifted 1;
      lifted_b0 = lb.lifted 0;
      lifted_b1 = lb.lifted 1;
      quotient_0 = first.quotient;
      quotient_1 = middle.quotient;
      quotient_2 = last.quotient;
      a0_lifts = la.lifts 0 (omega arith);
      a1_lifts = la.lifts 1 (omega arith);
      b0_lifts = lb.lifts 0 (omega arith);
      b1_lifts = lb.lifts 1 (omega arith);
      scaled_0 = first.scaled;
      scaled_1 = middle.scaled;
      scaled_2 = last.scaled;
      part_0 = itself first.quotient;
      part_1 = itself middle.quotient;
      part_2 = itself last.quotient;
    };
  }
    where
      first : IsScaledPart n ctx c 0 (product_part n la.lifted lb.lifted 0)
      first = scaled 0 (omega arith)

      middle : IsScaledPart n ctx c 1 (product_part n la.lifted lb.lifted 1)
      middle = scaled 1 (omega arith)

      last : IsScaledPart n ctx c 2 (product_part n la.lifted lb.lifted 2)
      last = scaled 2 (omega arith)

      itself : (x : ℕ → ℤ) → CongruentPolynomials (modulus_in ctx) n x x
      itself x = record { at = λ k l. Congruent-refl (modulus_in ctx) (x k) }

      represents : (j : ℕ) → j < 3 → WordsRepresent n (data_in ctx) (listed_word ctx.level c.rows j) (part_of first.quotient middle.quotient last.quotient j)
      represents zero l = first.represents
      represents (suc zero) l = middle.represents
      represents (suc (suc zero)) l = last.represents
      represents (suc (suc (suc j))) l = absurd (omega arith)

  -- ---- what it holds
  both_positive : 0 < plain_of ctx.set * modulus_in ctx
  both_positive = mul_positive (plain_of ctx.set) (modulus_in ctx) (plain_pos ctx.set) (modulus_positive ctx)

  -- two parts hold what the cipher does
  two_parts : (a : CipherValue) (x : ℕ → ℕ → ℤ) {s : ℕ → ℤ} {m : ℕ → ℕ} {W : ℕ} → IsCipherOf ctx a → IsCipher n a.set a.room a.level a.parts a.rows → a.parts ≡ 2
      → ((j : ℕ) → j < 2 → WordsRepresent n (data_in ctx) (listed_word ctx.level a.rows j) (x j)) → HoldsIn n ctx a s m W
      → Holds n (modulus_in ctx) (plain_of ctx.set) (x 0) (x 1) zero_polynomial s m W
  two_parts a x of kept two represents holds =
      CipherHolds-any (part_of (x 0) (x 1) zero_polynomial) (data_invertible ctx) (data_above_one ctx) both_positive holds rows
    where
      rows : (j : ℕ) → j < 3 → WordsRepresent n (data_in ctx) (listed_word ctx.level a.rows j) (part_of (x 0) (x 1) zero_polynomial j)
      rows zero l = represents 0 (omega arith)
      rows (suc zero) l = represents 1 (omega arith)
      rows (suc (suc zero)) l = WordsRepresent-zero n (data_in ctx) (listed_word ctx.level a.rows 2) (third_part_in_context ctx a of n kept two)
      rows (suc (suc (suc j))) l = absurd (omega arith)

  pub HoldsIn-product : (a b c : CipherValue) {s : ℕ → ℤ} {m other : ℕ → ℕ} {W more : ℕ} → IsCipherOf ctx a → IsCipher n a.set a.room a.level a.parts a.rows → a.parts ≡ 2
      → IsCipherOf ctx b → IsCipher n b.set b.room b.level b.parts b.rows → b.parts ≡ 2 → IsProductIn n ctx a b c → AllWithin n 1 s
      → HoldsIn n ctx a s m W → 4 * W ≤ modulus_in ctx → HoldsIn n ctx b s other more → 4 * more ≤ modulus_in ctx
      → HoldsIn n ctx c s (plain_product n (plain_of ctx.set) m other) (product_bound n (plain_of ctx.set) ctx.level W more)
  HoldsIn-product a b c {s} {m} {other} {W} {more} a_of a_kept a_two b_of b_kept b_two words ternary a_holds a_small b_holds b_small =
      let p = words.product in
      subst (λ (l : ℕ). HoldsIn n ctx c s (plain_product n (plain_of ctx.set) m other) (product_bound n (plain_of ctx.set) l W more)) (sym (data_length ctx.set ctx.level within))
      (CipherHolds-from (listed_word ctx.level c.rows) words.c_part (data_above_one ctx) (modulus_positive ctx) both_positive words.c_represents
      (Holds-product some (modulus_positive ctx) (plain_pos ctx.set) m_tilde_positive room a_small b_small ternary
      (two_parts a words.a_part a_of a_kept a_two words.a_represents a_holds) (two_parts b words.b_part b_of b_kept b_two words.b_represents b_holds)
      p.a0_lifts p.a1_lifts p.b0_lifts p.b1_lifts p.scaled_0 p.scaled_1 p.scaled_2 p.part_0 p.part_1 p.part_2))
