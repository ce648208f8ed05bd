-- What a cipher holds that was made of another row after row.
use Rattle.std.proofs.Common.{◌≡◌, ℕ, ◌+◌, ◌*◌, ◌/◌, ◌%◌, ◌<◌, ◌≤◌, ◌∙◌, arith, div-add-mod', inl, inr, mul-le-mul_right, refl, sym, subst, ap, ℤ, List, [], length, get_or, slice_index}
use Rattle.std.proofs.lemmas.Bool.{cases_lt}
use Rattle.std.proofs.lemmas.Nat.{div-mul-add, mod-mul-add}
use Rattle.set_table.specs.Sets.{data_of, plain_of}
use Rattle.ring_law.specs.Moduli.{AllAboveOne}
use Rattle.ring_law.specs.Residues.{residue}
use Rattle.ring_law.specs.Rows.{RowRepresents, word_at}
use Rattle.bfv_model.specs.Holds.{Holds, listed_word}
use Rattle.bfv_model.proofs.Ciphers.{CipherHolds-from}
use Rattle.bfv_params.specs.Moduli.{data_at}
use Rattle.bfv_params.specs.Values.{CipherValue, ContextValue}
use Rattle.bfv_params.proofs.Coprimality.{data_length}
use Rattle.bfv_params.specs.Ciphers.{HoldsIn}
use Rattle.bfv_params.specs.Contexts.{data_in, modulus_in}
use Rattle.bfv_linear.specs.Parts.{PartsRepresent}
use Rattle.bfv_linear.proofs.Moduli.{both_positive, data_above_one, data_positive}
use Rattle.bfv_linear.proofs.Operands.{IsOperand}
use Rattle.bfv_linear.proofs.Results.{Becomes, Combines, IsZeroModulo, KeepsZero, all_rows}
use Rattle.bfv_linear.proofs.Written.{WrittenTo, WrittenTo-map}

-- the parts of a cipher whose rows became so represent what the operation makes of the parts
parts_of_rows : (n : ℕ) (ctx : ContextValue) (op : ℕ → (ℕ → ℤ) → ℕ → ℤ) (a made : CipherValue) → ctx.level ≤ length (data_of ctx.set)
    → ((i : ℕ) → i < 3 * ctx.level → Becomes n (data_in ctx) ctx.level op a.rows i (get_or made.rows i []))
    → (x : ℕ → ℕ → ℤ) → PartsRepresent n ctx a x → PartsRepresent n ctx made (λ j. op j (x j))
parts_of_rows n ctx op a made within each x represents j in_cipher i k in_list below =
    let level = ctx.level in
    let row : i < level = let len = data_length ctx.set level within in omega arith in
    let place : (j * level + i) % level ≡ i = mod-mul-add j level i row in
    let part : (j * level + i) / level ≡ j = div-mul-add j level i row in
    let in_rows : j * level + i < 3 * level = inside j level i in_cipher row in
    subst (λ p. word_at made.rows (j * level + i) k ≡ residue (slice_index (data_in ctx) p) (op j (x j) k)) place
    (subst (λ p. word_at made.rows (j * level + i) k ≡ residue (slice_index (data_in ctx) ((j * level + i) % level)) (op p (x j) k)) part
    (each (j * level + i) in_rows (x j)
    (λ l small. subst (λ p. word_at a.rows (j * level + i) l ≡ residue (slice_index (data_in ctx) p) (x j l)) (sym place)
    (represents j in_cipher i l in_list small)) k below))
  where
    inside : (j level i : ℕ) → j < 3 → i < level → j * level + i < 3 * level
    inside j level i part row = let most = mul-le-mul_right level part in omega arith

-- the same of a cipher that was written over another cipher
pub parts_written : (n : ℕ) (ctx : ContextValue) (moduli : List ℕ) (a first now : CipherValue) (op : ℕ → (ℕ → ℤ) → ℕ → ℤ) (count : ℕ)
    → IsOperand n ctx moduli a → IsOperand n ctx moduli first → a.parts ≤ first.parts
    → KeepsZero n first.parts moduli (op 2)
    → WrittenTo first (Becomes n moduli (length moduli) op a.rows) count now → count ≡ first.parts * length moduli
    → (x : ℕ → ℕ → ℤ) → PartsRepresent n ctx a x → PartsRepresent n ctx now (λ j. op j (x j))
parts_written n ctx moduli a first now op count known_a known_first fewer keeps written all =
    parts_of_rows n ctx op a now (let within = known_a.within in let level = known_a.level in omega arith)
    (λ i within. subst (λ ms. Becomes n ms ctx.level op a.rows i (get_or now.rows i [])) known_a.listed
    (subst (λ len. Becomes n moduli len op a.rows i (get_or now.rows i [])) known_a.level (each i (let level = known_a.level in omega arith))))
  where
    above : AllAboveOne moduli
    above = subst AllAboveOne (sym known_a.listed) (data_above_one ctx.set ctx.level)

    each : (i : ℕ) → i < 3 * length moduli → Becomes n moduli (length moduli) op a.rows i (get_or now.rows i [])
    each = all_rows n (length moduli) first.parts moduli op a.rows now.rows known_first.count above refl known_a.size (written.size ∙ known_first.size) keeps
        (λ i k from within below. known_a.rest i k (shorter i from) within below)
        (λ i k from within below. ap (λ (row : List ℕ). slice_index row k) (written.rest i [] (omega arith)) ∙ known_first.rest i k from (omega (arith, written.size)) below)
        (λ i less. written.done i (omega arith))
      where
        shorter : (i : ℕ) → first.parts * length moduli ≤ i → a.parts * length moduli ≤ i
        shorter i from = let fewer_rows = mul-le-mul_right (length moduli) fewer in omega arith

-- a cipher holds what its parts hold
pub HoldsIn-parts : (n : ℕ) (ctx : ContextValue) (now : CipherValue) (x : ℕ → ℕ → ℤ) → PartsRepresent n ctx now x
    → {s : ℕ → ℤ} {m : ℕ → ℕ} {bound : ℕ} → Holds n (modulus_in ctx) (plain_of ctx.set) (x 0) (x 1) (x 2) s m bound → HoldsIn n ctx now s m bound
HoldsIn-parts n ctx now x represents held =
    CipherHolds-from (listed_word ctx.level now.rows) x (data_above_one ctx.set ctx.level) (data_positive ctx.set ctx.level) (both_positive ctx.set ctx.level) represents held

-- ---- the second operand of two
module _ (n : ℕ) (ctx : ContextValue) (moduli : List ℕ) (b : CipherValue) (known : IsOperand n ctx moduli b) (y : ℕ → ℕ → ℤ) (represents : PartsRepresent n ctx b y) where
  word_is : (j p k : ℕ) → j < 3 → p < length moduli → k < n → word_at b.rows (j * length moduli + p) k ≡ residue (slice_index moduli p) (y j k)
  word_is j p k in_cipher in_list below =
      subst (λ ms. word_at b.rows (j * length moduli + p) k ≡ residue (slice_index ms p) (y j k)) (sym known.listed)
      (subst (λ len. word_at b.rows (j * len + p) k ≡ residue (slice_index (data_at ctx.set ctx.level) p) (y j k)) (sym known.level)
      (represents j in_cipher p k (subst (λ ms. p < length ms) known.listed in_list) below))

  -- its rows stand for its parts
  pub row_represents : (i : ℕ) → i < 3 * length moduli → RowRepresents n (slice_index moduli (i % length moduli)) (get_or b.rows i []) (y (i / length moduli))
  row_represents i within k below =
      let some = known.some in
      let split : i / length moduli * length moduli + i % length moduli ≡ i = div-add-mod' i (length moduli) in
      subst (λ r. word_at b.rows r k ≡ residue (slice_index moduli (i % length moduli)) (y (i / length moduli) k)) split
      (word_is (i / length moduli) (i % length moduli) k (part some split) (omega arith) below)
    where
      part : 0 < length moduli → i / length moduli * length moduli + i % length moduli ≡ i → i / length moduli < 3
      part some split = elim (cases_lt (i / length moduli) 3) [
        | inl less ↦ less
        | inr more ↦ (let most = mul-le-mul_right (length moduli) more in absurd (omega arith))
      ]

  -- and its third part, where it has but two, for 0
  pub third_is_zero : b.parts ≤ 2 → (p : ℕ) → p < length moduli → IsZeroModulo n (slice_index moduli p) (y 2)
  third_is_zero few p in_list k below =
      let most = mul-le-mul_right (length moduli) few in
      sym (word_is 2 p k (omega arith) in_list below) ∙ known.rest (2 * length moduli + p) k (omega arith) (omega (arith, known.size)) below

-- the operation with the second operand, row after row
pub with_second : (n : ℕ) (ctx : ContextValue) (moduli : List ℕ) (a b first now : CipherValue) (op : (ℕ → ℤ) → (ℕ → ℤ) → ℕ → ℤ) (count : ℕ)
    → IsOperand n ctx moduli b → count ≤ 3 * length moduli → (y : ℕ → ℕ → ℤ) → PartsRepresent n ctx b y
    → WrittenTo first (Combines n moduli (length moduli) op a.rows b.rows) count now
    → WrittenTo first (Becomes n moduli (length moduli) (λ j x. op x (y j)) a.rows) count now
with_second n ctx moduli a b first now op count known most y of_b written =
    WrittenTo-map first (Combines n moduli (length moduli) op a.rows b.rows) (Becomes n moduli (length moduli) (λ j x. op x (y j)) a.rows) count now
    (λ i row less combines x represents. combines x (y (i / length moduli)) represents (row_represents n ctx moduli b known y of_b i (omega arith)))
    written
