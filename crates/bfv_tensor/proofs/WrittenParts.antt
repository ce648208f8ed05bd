-- The parts of a product, as they are scaled and written.
use Rattle.std.proofs.Common.{◌≡◌, ◌⊎◌, inl, ℕ, suc, ◌+◌, ◌-◌, ◌*◌, ◌/◌, ◌<◌, ◌≤◌, ◌∙◌, ◌++◌, arith, sym, subst, ap, mul-le-mul_right, ℤ, List, [], ◌∷◌, length, take, drop, get_or, slice_index}
use Rattle.std.specs.List.{slice_range}
use Rattle.std.proofs.lemmas.List.{get_or-drop}
use Rattle.std.proofs.lemmas.Slice.{drop-put_mid}
use borrow.Rule.Slice.PartMut.{put_mid}
use Rattle.set_table.specs.Sets.{data_of, degree_of, plain_of}
use Rattle.ring_law.specs.Moduli.{product}
use Rattle.ring_law.specs.Polynomials.{AllWithin}
use Rattle.ring_law.specs.Rows.{Represents, RowRepresents, word_at}
use Rattle.fast_conv.specs.Converters.{AreFastFloors, ExactConversion, ScaledConversion}
use Rattle.bfv_model.specs.Conversions.{IsScaledQuotient}
use Rattle.bfv_params.specs.Contexts.{data_in, modulus_in}
use Rattle.bfv_params.specs.Converters.{back_at, floor_at}
use Rattle.bfv_params.specs.Moduli.{wide_of}
use Rattle.bfv_params.specs.Values.{CipherValue, ContextValue}
use Rattle.bfv_params.proofs.Coprimality.{data_length}
use Rattle.bfv_params.proofs.Parts.{part_word}
use Rattle.bfv_tensor.specs.Rows.{AreSmallParts, IsScaledPart, IsSmallPart, part_rows, product_moduli}
use Rattle.bfv_tensor.proofs.JoinedRows.{each_behind, each_first}
use Rattle.bfv_tensor.proofs.ProductModuli.{modulus_positive, part_rows_is}
use Rattle.bfv_tensor.proofs.ScaledParts.{IsScaledQuotient-from, way_back_fits}

-- what the floor and the way back make of rows that represent a small polynomial
pub scaled_back : (n : ℕ) (ctx : ContextValue) (rows front wide floored back : List (List ℕ)) (floor : ScaledConversion) (exact : ExactConversion) (count : ℕ)
    → n ≡ degree_of ctx.set → ctx.level ≤ length (data_of ctx.set) → count ≡ ctx.level → front ≡ take count rows → wide ≡ drop count rows
    → floor ≡ floor_at ctx.set ctx.level → exact ≡ back_at ctx.set ctx.level
    → ((d : ℕ → ℤ) → Represents n floor.from front d → Represents n floor.to wide d
    → (e : ℕ → ℤ) × AreFastFloors n (product floor.from) floor.factor (length floor.from) d e × Represents n floor.to floored e)
    → ((x : ℕ → ℤ) → AllWithin n (product exact.base * (exact.sk / 4)) x → Represents n (exact.base ++ exact.sk ∷ []) floored x → Represents n exact.to back x)
    → (d : IsSmallPart n ctx rows)
    → (e : ℕ → ℤ) × IsScaledQuotient n (modulus_in ctx) (plain_of ctx.set) (length (data_in ctx)) d.part e × Represents n (data_in ctx) back e
scaled_back n ctx rows front wide floored back floor exact count degree within counted front_is wide_is floor_is exact_is floors exactly d =
    let level : count ≡ length (data_in ctx) = counted ∙ data_length ctx.set ctx.level within in
    let P : ℕ → List ℕ → Type 0 = λ q row. RowRepresents n q row d.part in
    let all : (i : ℕ) → i < length (product_moduli ctx) → P (slice_index (product_moduli ctx) i) (get_or rows i []) = λ i in_list k less. d.represents i k in_list less in
    let first : Represents n (data_in ctx) front d.part =
    subst (λ (r : List (List ℕ)). Represents n (data_in ctx) r d.part) (sym (front_is ∙ ap (λ (m : ℕ). take m rows) level))
    (λ i k in_list less. each_first (data_in ctx) (wide_of ctx.set) rows P all i in_list k less) in
    let behind : Represents n (wide_of ctx.set) wide d.part =
    subst (λ (r : List (List ℕ)). Represents n (wide_of ctx.set) r d.part) (sym (wide_is ∙ ap (λ (m : ℕ). drop m rows) level))
    (λ i k in_list less. each_behind (data_in ctx) (wide_of ctx.set) rows P all i in_list k less) in
    let Floors : ScaledConversion → Type 0 = λ f. (x : ℕ → ℤ) → Represents n f.from front x → Represents n f.to wide x
    → (e : ℕ → ℤ) × AreFastFloors n (product f.from) f.factor (length f.from) x e × Represents n f.to floored e in
    let Exactly : ExactConversion → Type 0 = λ b. (x : ℕ → ℤ) → AllWithin n (product b.base * (b.sk / 4)) x → Represents n (b.base ++ b.sk ∷ []) floored x
    → Represents n b.to back x in
    let found = subst Floors floor_is floors d.part first behind in
    let scaled = IsScaledQuotient-from n (modulus_in ctx) (plain_of ctx.set) (length (data_in ctx)) d.part found.0 (modulus_positive ctx) found.1 in
    (found.0, scaled, subst Exactly exact_is exactly found.0 (way_back_fits n ctx d.part found.0 degree within d.small scaled) found.2)

-- ---- one part after another
-- the rows of one of three parts
abbrev pub small_part : (n : ℕ) (ctx : ContextValue) (first rows : List (List ℕ)) (j from to : ℕ) → ctx.level ≤ length (data_of ctx.set) → j < 3 → from ≡ j * part_rows ctx
    → to ≡ from + part_rows ctx → ((i : ℕ) → from ≤ i → get_or rows i [] ≡ get_or first i []) → AreSmallParts n ctx first → IsSmallPart n ctx (slice_range rows from to)
small_part n ctx first rows j from to within place begins ends rest d = record {
  part = d.part j;
  small = d.small j place;
  represents = λ i k in_list less.
      let inside : from + i < to = omega (arith, part_rows_is ctx within) in
      part_word rows from to i k inside ∙ ap (λ (row : List ℕ). slice_index row k) (rest (from + i) (omega arith))
      ∙ ap (λ (p : ℕ). word_at first (p + i) k) begins ∙ d.represents j place i k in_list less;
}

-- a part that was written before stays
pub scaled_kept : (n : ℕ) (ctx : ContextValue) (old new : CipherValue) (p j : ℕ) (d : ℕ → ℤ) → ctx.level ≤ length (data_of ctx.set) → p < j
    → ((i : ℕ) → (i < j * ctx.level) ⊎ (j * ctx.level + ctx.level ≤ i) → get_or new.rows i [] ≡ get_or old.rows i [])
    → IsScaledPart n ctx old p d → IsScaledPart n ctx new p d
scaled_kept n ctx old new p j d within before others part = record {
  quotient = part.quotient;
  scaled = part.scaled;
  represents = λ i k in_list less.
      ap (λ (row : List ℕ). slice_index row k) (others (p * ctx.level + i) (inl (inside i in_list))) ∙ part.represents i k in_list less;
}
  where
    inside : (i : ℕ) → i < length (data_in ctx) → p * ctx.level + i < j * ctx.level
    inside i in_list =
        let most : suc p * ctx.level ≤ j * ctx.level = mul-le-mul_right ctx.level before in omega (arith, data_length ctx.set ctx.level within)

-- the rows behind those that were lent are as they were
pub rest_kept : (rows lent : List (List ℕ)) (from to i : ℕ) → from ≤ to → to ≤ length rows → length lent ≡ to - from → to ≤ i
    → get_or (put_mid from (to - from) rows lent) i [] ≡ get_or rows i []
rest_kept rows lent from to i ordered within count behind =
    let place : i ≡ to + (i - to) = omega arith in
    let written : List (List ℕ) = put_mid from (to - from) rows lent in
    ap (λ (p : ℕ). get_or written p []) place ∙ sym (get_or-drop to written (i - to) [])
    ∙ ap (λ (r : List (List ℕ)). get_or r (i - to) []) (drop-put_mid from (to - from) rows lent to (omega arith) (omega arith) count)
    ∙ get_or-drop to rows (i - to) [] ∙ ap (λ (p : ℕ). get_or rows p []) (sym place)
