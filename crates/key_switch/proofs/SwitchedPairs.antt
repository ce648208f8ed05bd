-- The pair that the sums over all digits give, and what it stands for.
use Rattle.std.proofs.Common.{◌≡◌, ℕ, ◌+◌, ◌*◌, ◌%◌, ◌^◌, ◌<◌, ◌≤◌, ◌∙◌, ap, ap₂, arith, sym, subst, ℤ, pos, neg_ℤ, ◌*ℤ◌, List, [], ◌∷◌, ◌++◌, Some, Contains, Option, unwrap_or, length, length-append, slice_index}
use Rattle.std.proofs.Math.Seq.{get_or-append_seam}
use Rattle.word_mod.specs.Moduli.{IsModulus}
use Rattle.set_table.specs.declared.SetName.{SetName}
use Rattle.set_table.specs.Sets.{data_of, degree_of, key_of, list_of, log_degree_of, special_of, transform_moduli_of}
use Rattle.ring_law.specs.Sums.{sum_below}
use Rattle.ring_law.specs.Residues.{Congruent}
use Rattle.ring_law.specs.Polynomials.{AllWithin}
use Rattle.ring_law.specs.Moduli.{AllAboveOne}
use Rattle.ring_law.specs.Rows.{Represents}
use Rattle.ring_law.specs.Transform.{transform_entry}
use Rattle.ring_law.proofs.Moduli.{AllAboveOne-take, PairwiseInvertible, PairwiseInvertible-from_coprime, PairwiseInvertible-take, product_positive}
use Rattle.neg_ntt.specs.Parameters.{AreParameters}
use Rattle.neg_ntt.proofs.Steps.{AreParameters-minus_one}
use Rattle.res_base.specs.Bases.{IsBase}
use Rattle.res_base.proofs.Bases.{AllAboveOne-from_IsBase, IsModulus-from_IsBase}
use Rattle.res_base.proofs.Sizes.{IsBase-data_of, IsBase-key_of}
use Rattle.bfv_model.specs.Drawn.{greatest_error}
use Rattle.bfv_model.specs.Keys.{IsSwitchKeyOf, WordsAreSwitchKeyOf, digit_sum, switched_part}
use Rattle.bfv_model.specs.SwitchKeys.{IsSwitchKeyIn, key_roots_of}
use Rattle.bfv_model.proofs.KeySwitching.{switched_phase}
use Rattle.bfv_params.specs.Contexts.{data_in}
use Rattle.bfv_params.specs.Transforms.{transform_of}
use Rattle.bfv_params.specs.Values.{ContextValue}
use Rattle.bfv_params.proofs.Coprimality.{data_length}
use Rattle.bfv_params.proofs.Products.{AreParameters-transform_of, degree_of-least}
use Rattle.bfv_params.proofs.Tables.{degree_of-power, key_listed}
use Rattle.key_switch.specs.Sums.{AreDigitSums, digit_entry, digit_row, key_in, sum_word}
use Rattle.key_switch.specs.Switching.{AreKeyTransforms, IsSwitchedPair, PairStandsFor}
use Rattle.key_switch.proofs.DigitSums.{entry_of_digit_sum}
use Rattle.key_switch.proofs.KeyLevels.{IsSwitchKeyOf-take, key_is_modulus, key_modulus, key_root, keys_count, row_below}

-- the special modulus of a set
special_positive : (set : SetName) (P : ℕ) → special_of set ≡ Some P → 0 < P
special_positive set P special =
    let last : slice_index (key_of set) (length (data_of set)) ≡ P
    = ap (λ (o : Option ℕ). slice_index (data_of set ++ list_of o) (length (data_of set))) special ∙ get_or-append_seam (data_of set) P [] 0 in
    let modulus : IsModulus (slice_index (key_of set) (length (data_of set))) = IsModulus-from_IsBase (key_of set) (IsBase-key_of set) (length (data_of set))
    (subst (λ (o : Option ℕ). length (data_of set) < length (data_of set ++ list_of o)) (sym special) (omega (arith, length-append (data_of set) (P ∷ [])))) in
    omega (arith, last, modulus.from_three)

module _ (n : ℕ) (ctx : ContextValue) (P : ℕ) (special : special_of ctx.set ≡ Some P) (degree : n ≡ degree_of ctx.set) (within : ctx.level ≤ length (data_of ctx.set)) where
  power : n ≡ 2 ^ log_degree_of ctx.set
  power = degree ∙ degree_of-power ctx.set

  -- the transform under key modulus r
  parameters_at : (r : ℕ) → r < ctx.level + 1 → AreParameters n (transform_of ctx.set (slice_index (key_in ctx) r))
  parameters_at r below =
      let listed : Contains (transform_moduli_of ctx.set) (slice_index (key_in ctx) r)
      = key_listed ctx.set ctx.level r 0 (subst (λ m. r < m) (sym (keys_count ctx.set ctx.level P special within)) below) in
      subst (λ m. AreParameters m (transform_of ctx.set (slice_index (key_in ctx) r))) (sym degree)
      (AreParameters-transform_of ctx.set (slice_index (key_in ctx) r) listed (key_is_modulus ctx.set ctx.level P special within r below))

  -- the sums are the transforms of the sum of the digits, each times the polynomial of the key's digit
  pub digit_sum_entries : (part sums : List (List ℕ)) (word : ℕ → ℕ → ℕ → ℕ → ℕ) (key : ℕ → ℕ → ℕ → ℤ) (c : ℕ → ℤ) → AreDigitSums n ctx part word ctx.level sums
      → AreKeyTransforms ctx.set word key → Represents n (data_in ctx) part c → (j r k : ℕ) → j < 2 → r < ctx.level + 1 → k < n
      → sum_word (ctx.level + 1) sums (j * (2 * (ctx.level + 1))) r k % slice_index (key_in ctx) r
      ≡ transform_entry (slice_index (key_in ctx) r) (log_degree_of ctx.set) (transform_of ctx.set (slice_index (key_in ctx) r)).root (digit_sum n (data_in ctx) c (key j)) k
  digit_sum_entries part sums word key c are transforms represents j r k in_key below inside =
      let p : ℕ = slice_index (key_in ctx) r in
      let log : ℕ = log_degree_of ctx.set in
      let root : ℕ = (transform_of ctx.set p).root in
      let row : ℕ = digit_row (ctx.level + 1) (length (data_of ctx.set) + 1) r in
      let fit = parameters_at r below in
      let modulus : IsModulus p = key_is_modulus ctx.set ctx.level P special within r below in
      let minus_one : Congruent p (pos (root ^ (2 ^ log))) (neg_ℤ (pos 1)) = AreParameters-minus_one n (transform_of ctx.set p) fit in
      let count : length (data_in ctx) ≡ ctx.level = sym (data_length ctx.set ctx.level within) in
      entry_of_digit_sum n p log root (data_in ctx) part c (key j) (λ i. word i j row k) k (sum_word (ctx.level + 1) sums (j * (2 * (ctx.level + 1))) r k) power
      (omega (arith, modulus.from_three)) minus_one represents
      (λ i inside_key. transforms i j row k (omega (arith, inside_key, count, within)) in_key (row_below ctx.set ctx.level P special within r below) (subst (λ m. k < m) degree inside)
      ∙ ap₂ (λ q z. transform_entry q log z (key j i) k) (sym (key_modulus ctx.set ctx.level P special within r below)) (sym (key_root ctx.set ctx.level P special within r below)))
      (are j r k in_key below inside ∙ ap (λ m. sum_below m (λ i. pos (digit_entry ctx part i r k) *ℤ pos (word i j row k))) (sym count))

  -- a switched pair by a key with the relation stands for the product
  pub PairStandsFor-switched : (word : ℕ → ℕ → ℕ → ℕ → ℕ) (c source s : ℕ → ℤ) (rows : List (List ℕ)) → IsSwitchKeyIn ctx.set word source s → AllWithin n 1 s
      → ((key : ℕ → ℕ → ℕ → ℤ) → AreKeyTransforms ctx.set word key → IsSwitchedPair n (data_in ctx) P key c rows) → PairStandsFor n (data_in ctx) P c source s rows
  PairStandsFor-switched word c source s rows key ternary switched =
      let same : key.special ≡ P = ap (λ (o : Option ℕ). unwrap_or o P) (sym key.is_special ∙ special) in
      from (subst (λ p. WordsAreSwitchKeyOf (log_degree_of ctx.set) (data_of ctx.set) p (key_roots_of ctx.set) greatest_error word source s) same key.words)
    where
      base : IsBase (data_of ctx.set)
      base = IsBase-data_of ctx.set

      coprime : PairwiseInvertible (data_of ctx.set)
      coprime = PairwiseInvertible-from_coprime (data_of ctx.set) base.coprime

      big : AllAboveOne (data_of ctx.set)
      big = AllAboveOne-from_IsBase (data_of ctx.set) base

      positive : 0 < P
      positive = special_positive ctx.set P special

      pos_n : 0 < n
      pos_n = let least = degree_of-least ctx.set in omega (arith, least, degree)

      from : WordsAreSwitchKeyOf (log_degree_of ctx.set) (data_of ctx.set) P (key_roots_of ctx.set) greatest_error word source s → PairStandsFor n (data_in ctx) P c source s rows
      from of_key =
          let keys : key_of ctx.set ≡ data_of ctx.set ++ P ∷ [] = ap (λ last. data_of ctx.set ++ list_of last) special in
          let transforms : AreKeyTransforms ctx.set word of_key.part = λ i j r k in_data in_key below inside.
          of_key.transforms i j r k in_data in_key below (subst (λ m. k < m) (degree_of-power ctx.set) inside)
          ∙ ap (λ (qs : List ℕ). transform_entry (slice_index qs r) (log_degree_of ctx.set) (slice_index (key_roots_of ctx.set) r) (of_key.part j i) k) (sym keys) in
          let relation : IsSwitchKeyOf n (data_in ctx) P greatest_error (of_key.part 0) (of_key.part 1) source s =
          IsSwitchKeyOf-take ctx.level n (data_of ctx.set) P greatest_error (of_key.part 0) (of_key.part 1) source s coprime big positive
          (subst (λ m. IsSwitchKeyOf m (data_of ctx.set) P greatest_error (of_key.part 0) (of_key.part 1) source s) (sym power) of_key.relation) in
          let above : AllAboveOne (data_in ctx) = AllAboveOne-take ctx.level (data_of ctx.set) big in record {
            part = λ j. switched_part n (data_in ctx) P c (of_key.part j);
            represents = switched of_key.part transforms;
            stands = switched_phase n P greatest_error (data_in ctx) pos_n positive (product_positive (data_in ctx) above) (PairwiseInvertible-take ctx.level (data_of ctx.set) coprime) above
                c source s (of_key.part 0) (of_key.part 1) ternary relation;
          }
