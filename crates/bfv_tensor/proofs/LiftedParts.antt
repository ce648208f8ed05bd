-- The factors of a product: the polynomials that their parts represent, and the rows of their lifts.
use Rattle.std.proofs.Common.{◌≡◌, ℕ, zero, suc, ◌+◌, ◌*◌, ◌<◌, ◌≤◌, ◌∙◌, ◌++◌, arith, sym, subst, ap, ℤ, List, [], length, get_or, slice_index}
use Rattle.std.specs.List.{slice_range}
use Rattle.std.proofs.lemmas.List.{get_or_append_left}
use Rattle.set_table.specs.Sets.{data_of, m_tilde}
use Rattle.ring_law.specs.Moduli.{product}
use Rattle.ring_law.specs.Rows.{Represents, WordsRepresent, natural_polynomial, word_at}
use Rattle.ring_law.proofs.Rows.{represented_polynomial}
use Rattle.neg_ntt.specs.Parameters.{IsTransformBy}
use Rattle.rns_poly.specs.Rows.{AreReduced}
use Rattle.rns_poly.specs.Transforms.{AreTransforms}
use Rattle.fast_conv.specs.Converters.{Conversion}
use Rattle.bfv_model.specs.Conversions.{IsMontgomeryLift}
use Rattle.bfv_model.specs.Holds.{listed_word}
use Rattle.bfv_params.specs.Ciphers.{IsCipherOf}
use Rattle.bfv_params.specs.Contexts.{data_in, modulus_in}
use Rattle.bfv_params.specs.Converters.{lift_at}
use Rattle.bfv_params.specs.Moduli.{wide_of}
use Rattle.bfv_params.specs.Values.{CipherValue, ContextValue}
use Rattle.bfv_params.proofs.Coprimality.{data_length}
use Rattle.bfv_params.proofs.Parts.{part_word}
use Rattle.bfv_tensor.specs.Rows.{AreLiftedParts, ArePairTransforms, part_rows, product_moduli, product_transforms}
use Rattle.bfv_tensor.proofs.JoinedRows.{row_behind}
use Rattle.bfv_tensor.proofs.ProductModuli.{data_above_one, data_invertible, modulus_positive, part_rows_is, place_within}

-- reduced rows under the data moduli represent a polynomial
pub some_polynomial : (n : ℕ) (ctx : ContextValue) (rows : List (List ℕ)) → AreReduced n (data_in ctx) rows → (x : ℕ → ℤ) × Represents n (data_in ctx) rows x
some_polynomial n ctx rows reduced = of
    (represented_polynomial n (data_in ctx) (data_invertible ctx) (data_above_one ctx) (modulus_positive ctx) (word_at rows) reduced_at)
  where
    reduced_at : (i k : ℕ) → i < length (data_in ctx) → k < n → word_at rows i k < slice_index (data_in ctx) i
    reduced_at i k within less = reduced i within k less

    of : (x : ℕ → ℕ) × ((k : ℕ) → x k < modulus_in ctx) × WordsRepresent n (data_in ctx) (word_at rows) (natural_polynomial x)
        → (x : ℕ → ℤ) × Represents n (data_in ctx) rows x
    of (x, below, represents) = (natural_polynomial x, represents)

-- what the rows of a part represent, its words do
pub words_of_part : (n : ℕ) (ctx : ContextValue) (c : CipherValue) (j : ℕ) (rows : List (List ℕ)) (x : ℕ → ℤ) → IsCipherOf ctx c → ctx.level ≤ length (data_of ctx.set)
    → rows ≡ slice_range c.rows (j * c.level) (j * c.level + c.level) → Represents n (data_in ctx) rows x
    → WordsRepresent n (data_in ctx) (listed_word ctx.level c.rows j) x
words_of_part n ctx c j rows x of within is represents i k in_list less =
    let inside : j * c.level + i < j * c.level + c.level = omega (arith, data_length ctx.set ctx.level within, of.level) in
    ap (λ (l : ℕ). word_at c.rows (j * l + i) k) (sym of.level) ∙ sym (part_word c.rows (j * c.level) (j * c.level + c.level) i k inside)
    ∙ ap (λ (r : List (List ℕ)). word_at r i k) (sym is) ∙ represents i k in_list less

-- two polynomials by their number
abbrev pub pair_of : (ℕ → ℤ) → (ℕ → ℤ) → ℕ → ℕ → ℤ
pair_of x y zero = x
pair_of x y (suc j) = y

-- the rows of two lifted parts
module _ (n : ℕ) (ctx : ContextValue) (word : ℕ → ℕ → ℕ → ℕ) (a b : List (List ℕ)) (within : ctx.level ≤ length (data_of ctx.set)) (a_count : length a ≡ part_rows ctx)
    (x0 x1 y0 y1 : ℕ → ℤ) (of_a : AreTransforms (product_transforms ctx) a (λ i. y0)) (of_b : AreTransforms (product_transforms ctx) b (λ i. y1)) where
  both_transforms : ArePairTransforms ctx (a ++ b) (pair_of y0 y1)
  both_transforms zero i t l is =
      let inside : i < length a = omega (arith, place_within ctx.set (product_moduli ctx) i t is, part_rows_is ctx within) in
      subst (λ row. IsTransformBy t row y0) (sym (ap (λ (p : ℕ). get_or (a ++ b) p []) (first i) ∙ get_or_append_left a b [] i inside)) (of_a i t is)
    where
      first : (i : ℕ) → 0 * part_rows ctx + i ≡ i
      first i = omega arith
  both_transforms (suc zero) i t l is =
      subst (λ row. IsTransformBy t row y1) (sym (row_behind a b i (1 * part_rows ctx + i) (omega arith))) (of_b i t is)
  both_transforms (suc (suc j)) i t l is = absurd (omega arith)

  pub parts_lifted : WordsRepresent n (data_in ctx) (word 0) x0 → WordsRepresent n (data_in ctx) (word 1) x1
      → IsMontgomeryLift n (modulus_in ctx) m_tilde (length (data_in ctx)) x0 y0 → IsMontgomeryLift n (modulus_in ctx) m_tilde (length (data_in ctx)) x1 y1
      → AreLiftedParts n ctx word (a ++ b)
  parts_lifted first second lift0 lift1 = record {
    part = pair_of x0 x1;
    lifted = pair_of y0 y1;
    represents = represents;
    lifts = lifts;
    transforms = both_transforms;
  }
    where
      represents : (j : ℕ) → j < 2 → WordsRepresent n (data_in ctx) (word j) (pair_of x0 x1 j)
      represents zero l = first
      represents (suc zero) l = second
      represents (suc (suc j)) l = absurd (omega arith)

      lifts : (j : ℕ) → j < 2 → IsMontgomeryLift n (modulus_in ctx) m_tilde (length (data_in ctx)) (pair_of x0 x1 j) (pair_of y0 y1 j)
      lifts zero l = lift0
      lifts (suc j) l = lift1

-- ---- the rows of a lift
-- by the converter of a context
pub lifted_rows : (n : ℕ) (ctx : ContextValue) (part lent wide : List (List ℕ)) (lift : Conversion) → lent ≡ part → lift ≡ lift_at ctx.set ctx.level
    → ((x : ℕ → ℤ) → Represents n lift.from lent x → (y : ℕ → ℤ) × IsMontgomeryLift n (product lift.from) m_tilde (length lift.from) x y × Represents n lift.to wide y)
    → (x : ℕ → ℤ) → Represents n (data_in ctx) part x
    → (y : ℕ → ℤ) × IsMontgomeryLift n (modulus_in ctx) m_tilde (length (data_in ctx)) x y × Represents n (wide_of ctx.set) wide y
lifted_rows n ctx part lent wide lift lent_is lift_is lifts x represents =
    let Lifts : Conversion → Type 0 = λ l. (x : ℕ → ℤ) → Represents n l.from lent x
    → (y : ℕ → ℤ) × IsMontgomeryLift n (product l.from) m_tilde (length l.from) x y × Represents n l.to wide y in
    subst Lifts lift_is lifts x (subst (λ (r : List (List ℕ)). Represents n (data_in ctx) r x) (sym lent_is) represents)
