-- One part of a cipher or a key among its rows, and the moduli of a set's transforms.
use Rattle.std.proofs.Common.{◌≡◌, ℕ, ◌+◌, ◌-◌, ◌*◌, ◌%◌, ◌<◌, ◌≤◌, ℤ, arith, refl, mul-le-mul_right, sym, subst, ap, ◌∙◌, List, [], ◌∷◌, length, map, take, drop, get_or, slice_index}
use Rattle.std.specs.List.{slice_range}
use Rattle.std.proofs.lemmas.Nat.{mod-mul-add}
use Rattle.std.proofs.lemmas.List.{get_or-drop, get_or-take, take-map}
use Rattle.set_table.specs.declared.SetName.{SetName}
use Rattle.ring_law.specs.Rows.{IsReduced, Represents, WordsRepresent, word_at}
use Rattle.rns_poly.specs.Rows.{AreReduced}
use Rattle.rns_poly.specs.Transforms.{moduli_of}
use Rattle.neg_ntt.specs.Parameters.{Parameters}
use Rattle.bfv_model.specs.Holds.{listed_word}
use Rattle.bfv_params.specs.Kept.{IsCipher}
use Rattle.bfv_params.specs.Moduli.{data_at, key_at}
use Rattle.bfv_params.specs.Rows.{ReducedInTurn}
use Rattle.bfv_params.specs.Transforms.{transform_of}
use Rattle.bfv_params.specs.Ciphers.{IsCipherOf}
use Rattle.bfv_params.specs.Contexts.{data_in}
use Rattle.bfv_params.specs.Values.{CipherValue, ContextValue}
use Rattle.bfv_params.proofs.Coprimality.{data_length, first_keys}

-- row i of a part is row `from` + i of the whole
pub part_row : (rows : List (List ℕ)) (from to i : ℕ) → from + i < to → get_or (slice_range rows from to) i [] ≡ get_or rows (from + i) []
part_row rows from to i within = get_or-take (to - from) (drop from rows) i [] (omega arith) ∙ get_or-drop from rows i []

-- the same of a word
pub part_word : (rows : List (List ℕ)) (from to i k : ℕ) → from + i < to → word_at (slice_range rows from to) i k ≡ word_at rows (from + i) k
part_word rows from to i k within = ap (λ (row : List ℕ). slice_index row k) (part_row rows from to i within)

-- the rows of a part, which has one row for each modulus, are reduced
pub part_reduced : (n count : ℕ) (moduli : List ℕ) (rows : List (List ℕ)) (part from to : ℕ) → ReducedInTurn n count moduli rows
    → length moduli ≡ count → from ≡ part * count → to ≡ from + count → to ≤ length rows → AreReduced n moduli (slice_range rows from to)
part_reduced n count moduli rows part from to reduced counted begins ends within i in_part =
    let place : (from + i) % count ≡ i = subst (λ f. (f + i) % count ≡ i) (sym begins) (mod-mul-add part count i (omega arith)) in
    subst (IsReduced n (slice_index moduli i)) (sym (part_row rows from to i (omega arith)))
    (subst (λ p. IsReduced n (slice_index moduli p) (get_or rows (from + i) [])) place (reduced (from + i) (omega arith)))

-- and represent what the words of the part represent
pub part_represents : (n count : ℕ) (moduli : List ℕ) (rows : List (List ℕ)) (part from to : ℕ) (x : ℕ → ℤ) → length moduli ≡ count → from ≡ part * count → to ≡ from + count
    → WordsRepresent n moduli (listed_word count rows part) x → Represents n moduli (slice_range rows from to) x
part_represents n count moduli rows part from to x counted begins ends represents i k inside less =
    part_word rows from to i k (omega arith)
    ∙ subst (λ f. word_at rows (f + i) k ≡ word_at rows (part * count + i) k) (sym begins) refl ∙ represents i k inside less

-- ---- the parts of a cipher
module _ (n : ℕ) (c : CipherValue) (kept : IsCipher n c.set c.room c.level c.parts c.rows) where
  pub level_length : length (data_at c.set c.level) ≡ c.level
  level_length = sym (data_length c.set c.level (omega (arith, kept.fits, kept.within)))

  -- part j, from row `from` to row `to`
  module _ (j from to : ℕ) (place : j < 3) (begins : from ≡ j * c.level) (ends : to ≡ from + c.level) where
    pub cipher_part_reduced : AreReduced n (data_at c.set c.level) (slice_range c.rows from to)
    cipher_part_reduced = part_reduced n c.level (data_at c.set c.level) c.rows j from to kept.reduced level_length begins ends (within j place begins)
      where
        within : (j : ℕ) → j < 3 → from ≡ j * c.level → to ≤ length c.rows
        within j place begins = omega (arith, kept.size, ends, mul-le-mul_right c.level place)

    pub cipher_part_represents : (x : ℕ → ℤ) → WordsRepresent n (data_at c.set c.level) (listed_word c.level c.rows j) x
        → Represents n (data_at c.set c.level) (slice_range c.rows from to) x
    cipher_part_represents x = part_represents n c.level (data_at c.set c.level) c.rows j from to x level_length begins ends

  -- where there are two parts the words of the third are zero
  pub third_part_zero : c.parts ≡ 2 → (i k : ℕ) → i < c.level → k < n → listed_word c.level c.rows 2 i k ≡ 0
  third_part_zero two i k inside less =
      kept.rest (2 * c.level + i) k (subst (λ p. p * c.level ≤ 2 * c.level + i) (sym two) (omega arith)) (omega (arith, kept.size)) less

-- ---- the same in a context of the cipher
module _ (ctx : ContextValue) (c : CipherValue) (of : IsCipherOf ctx c) where
  pub data_of_cipher : data_at c.set c.level ≡ data_in ctx
  data_of_cipher = ap (λ set. data_at set c.level) of.set ∙ ap (data_at ctx.set) of.level

  -- what the rows of part j represent
  pub part_in_context : (n j : ℕ) (rows : List (List ℕ)) (x : ℕ → ℤ)
      → ((y : ℕ → ℤ) → WordsRepresent n (data_at c.set c.level) (listed_word c.level c.rows j) y → Represents n (data_at c.set c.level) rows y)
      → WordsRepresent n (data_in ctx) (listed_word ctx.level c.rows j) x → Represents n (data_in ctx) rows x
  part_in_context n j rows x lent represents = subst (λ qs. Represents n qs rows x) data_of_cipher
      (lent x (subst (λ qs. WordsRepresent n qs (listed_word c.level c.rows j) x) (sym data_of_cipher)
      (subst (λ l. WordsRepresent n (data_in ctx) (listed_word l c.rows j) x) (sym of.level) represents)))

  pub third_part_in_context : (n : ℕ) → IsCipher n c.set c.room c.level c.parts c.rows → c.parts ≡ 2 → (i k : ℕ) → i < length (data_in ctx) → k < n
      → listed_word ctx.level c.rows 2 i k ≡ 0
  third_part_in_context n kept two i k inside less = subst (λ l. listed_word l c.rows 2 i k ≡ 0) of.level
      (third_part_zero n c kept two i k (subst (λ l. i < l) (ap length (sym data_of_cipher) ∙ level_length n c kept) inside) less)

-- ---- the moduli of transforms
-- the transforms modulo a set's moduli have these moduli
pub moduli_of_transforms : (set : SetName) (moduli : List ℕ) → moduli_of (map (transform_of set) moduli) ≡ moduli
moduli_of_transforms set [] = refl
moduli_of_transforms set (q ∷ moduli) = ap (λ rest. q ∷ rest) (moduli_of_transforms set moduli)

-- those of the first transforms of keys are the data moduli
pub moduli_of_first : (set : SetName) (level count : ℕ) (keys : List Parameters) → keys ≡ map (transform_of set) (key_at set level) → count ≡ length (data_at set level)
    → moduli_of (take count keys) ≡ data_at set level
moduli_of_first set level count keys are counted =
    ap (λ (ts : List Parameters). moduli_of (take count ts)) are ∙ ap moduli_of (take-map (transform_of set) count (key_at set level))
    ∙ moduli_of_transforms set (take count (key_at set level)) ∙ first_keys set level count (key_at set level) refl counted
