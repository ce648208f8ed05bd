-- Places that are split before and after one of them, which alone is written.
use Rattle.std.proofs.Common.{rules, arith, ◌≡◌, ◌≢◌, ℕ, suc, ◌+◌, ◌-◌, ◌<◌, ◌≤◌, true, false, refl, sym, ap, subst, ◌∙◌, ⊎_elim, List, [], ◌∷◌, ◌++◌, length, set, nat_lt, slice_index, slice_index_or, length-append}
use Rattle.std.specs.List.{AllByRecursion}
use Rattle.std.proofs.lemmas.Bool.{cases_lt}
use Rattle.std.proofs.lemmas.List.{get_or_append_left}
use Rattle.std.proofs.Math.Seq.{get_or-append_right, get_or-append_seam}
use Rattle.bfv_params.specs.Values.{CipherValue, ContextValue}
use Rattle.bfv_params.specs.Ciphers.{IsCipherOf}
use Rattle.script_text.specs.declared.script.Op.{Op}
use Rattle.script_text.specs.Scripts.{operands_of, parts_taken}
use Rattle.key_switch.specs.Providers.{Digits}
use Rattle.script_run.specs.Places.{cipher_at, no_cipher}
use Rattle.script_run.specs.Steps.{HaveTakenParts, OnOperands, ResultCarries, ResultHasParts, StepDone, IsOther, other_at}
use Rattle.script_run.proofs.Live.{all_weaker, some_weaker}
use Rattle.script_run.proofs.Results.{moved}

-- what holds of each operand carries over
pub on_operands : (op : Op) (P Q : ℕ → Type 0) → ((r : ℕ) → P r → Q r) → OnOperands op P → OnOperands op Q
on_operands op P Q weaker all = all_weaker {P = P} {Q = Q} (operands_of op) weaker all

both_of : (P Q : ℕ → Type 0) (xs : List ℕ) → AllByRecursion P xs → AllByRecursion Q xs → AllByRecursion (λ x. P x × Q x) xs
both_of P Q [] p q = tt
both_of P Q (x ∷ xs) p q = ((p.0, q.0), both_of P Q xs p.1 q.1)

pub on_both : (op : Op) (P Q : ℕ → Type 0) → OnOperands op P → OnOperands op Q → OnOperands op (λ r. P r × Q r)
on_both op P Q p q = both_of P Q (operands_of op) p q

after : (front back : List CipherValue) (x : CipherValue) (p : ℕ) → length front < p → cipher_at (front ++ x ∷ back) p ≡ cipher_at back (p - (length front + 1))
after front back x p above =
    let place : p - length front ≡ suc (p - (length front + 1)) = omega (arith, above) in
    get_or-append_right front (x ∷ back) p no_cipher (omega (arith, above)) ∙ ap (λ (j : ℕ). slice_index_or (x ∷ back) j no_cipher) place

lt_true : (a b : ℕ) → a < b → nat_lt a b ≡ true
lt_true a b less = grind (rules, arith)

lt_false : (a b : ℕ) → b ≤ a → nat_lt a b ≡ false
lt_false a b not_less = grind (rules, arith)

in_front : (front back : List CipherValue) (p : ℕ) → p < length front → other_at front back p ≡ cipher_at front p
in_front front back p less = rw (lt_true p (length front) less) refl

in_back : (front back : List CipherValue) (p : ℕ) → length front ≤ p → other_at front back p ≡ cipher_at back (p - (length front + 1))
in_back front back p not_less = rw (lt_false p (length front) not_less) refl

-- the cipher at a place other than the one in the middle
pub other_is : (front back : List CipherValue) (x : CipherValue) (p : ℕ) → p ≢ length front → cipher_at (front ++ x ∷ back) p ≡ other_at front back p
other_is front back x p apart = ⊎_elim
    (λ less. get_or_append_left front (x ∷ back) no_cipher p less ∙ sym (in_front front back p less))
    (λ not_less. after front back x p (omega (arith, not_less, apart)) ∙ sym (in_back front back p not_less))
    (cases_lt p (length front))

-- the operation's result was written into the middle
pub step_done : (n : ℕ) (ctx : ContextValue) (told : Digits → Type 0) (op : Op) (plan : List ℕ) (plains : List (List ℕ)) (old front one back : List CipherValue) (written : CipherValue)
    → old ≡ front ++ (one ++ back) → length one ≡ 1 → IsCipherOf ctx written → written.room ≡ (cipher_at one 0).room
    → ResultHasParts op (λ r. other_at front back (slice_index plan r)) written
    → ResultCarries n ctx told op plains (λ r. other_at front back (slice_index plan r)) written
    → OnOperands op (λ r. slice_index plan r ≢ length front)
    → StepDone n ctx told op plan plains (length front) old (front ++ (set one 0 written ++ back))
step_done n ctx told op plan plains old front [] back written is one of_context room parts carries apart = absurd (omega (arith, one))
step_done n ctx told op plan plains old front (x ∷ y ∷ rest) back written is one of_context room parts carries apart = absurd (omega (arith, one))
step_done n ctx told op plan plains old front (x ∷ []) back written is one of_context room parts carries apart = rw is (record {
  size = length-append front (written ∷ back) ∙ sym (length-append front (x ∷ back));
  others = λ p other. other_is front back written p other ∙ sym (other_is front back x p other);
  of_context = subst (IsCipherOf ctx) (sym here) of_context;
  room = ap (λ (c : CipherValue). c.room) here ∙ room ∙ ap (λ (c : CipherValue). c.room) (sym (get_or-append_seam front x back no_cipher));
  parts = λ counts hold. ap (λ (c : CipherValue). c.parts) here ∙ parts counts (on_operands op _ _
      (λ r both. ap (λ (c : CipherValue). c.parts) (sym (other_is front back x (slice_index plan r) both.1)) ∙ both.0) (on_both op _ _ hold apart));
  carries = λ s lists values bounds premise plain hold. moved n ctx s _ _ (cipher_at (front ++ written ∷ back) (length front)) written here (carries s lists values bounds premise plain (on_operands op _ _
      (λ r both. moved n ctx s _ _ (other_at front back (slice_index plan r)) _ (sym (other_is front back x (slice_index plan r) both.1)) both.0) (on_both op _ _ hold apart)));
})
  where
    here : cipher_at (front ++ written ∷ back) (length front) ≡ written
    here = get_or-append_seam front written back no_cipher

-- the place of the result by another name
pub apart_from : (op : Op) (plan : List ℕ) (count out place : ℕ) → out ≡ place → OnOperands op (λ r. (slice_index plan r < count) × (slice_index plan r ≢ out))
    → OnOperands op (λ r. (slice_index plan r < count) × (slice_index plan r ≢ place))
apart_from op plan count out place is there = subst (λ (p : ℕ). OnOperands op (λ r. (slice_index plan r < count) × (slice_index plan r ≢ p))) is there

-- what `operate` asks for follows from what holds of all places
module _ (plan : List ℕ) (old front one back : List CipherValue) (is : old ≡ front ++ (one ++ back)) (single : length one ≡ 1) where
  pub others_inside : (op : Op) → OnOperands op (λ r. (slice_index plan r < length old) × (slice_index plan r ≢ length front))
      → OnOperands op (λ r. IsOther front back (slice_index plan r))
  others_inside op there =
      let whole = ap length is ∙ length-append front (one ++ back) in
      let rest = length-append one back in
      on_operands op _ _ (λ r at. record { apart = at.1; inside = omega (arith, at.0) }) there

  -- what holds of the operands' ciphers among all places
  pub others_of : (P : CipherValue → Type 0) (op : Op) → OnOperands op (λ r. P (cipher_at old (slice_index plan r)))
      → OnOperands op (λ r. (slice_index plan r < length old) × (slice_index plan r ≢ length front))
      → OnOperands op (λ r. P (other_at front back (slice_index plan r)))
  others_of P op hold there = on_operands op _ _ (λ r both. subst P (by one is single (slice_index plan r) both.1.1) both.0) (on_both op _ _ hold there)
    where
      by : (one : List CipherValue) → old ≡ front ++ (one ++ back) → length one ≡ 1 → (p : ℕ) → p ≢ length front → cipher_at old p ≡ other_at front back p
      by [] is single p apart = absurd (omega (arith, single))
      by (x ∷ y ∷ rest) is single p apart = absurd (omega (arith, single))
      by (x ∷ []) is single p apart = ap (λ (places : List CipherValue). cipher_at places p) is ∙ other_is front back x p apart

  pub others_all : (P : CipherValue → Type 0) (op : Op) → ((p : ℕ) → p < length old → P (cipher_at old p))
      → OnOperands op (λ r. (slice_index plan r < length old) × (slice_index plan r ≢ length front))
      → OnOperands op (λ r. P (other_at front back (slice_index plan r)))
  others_all P op all there = others_of P op (on_operands op _ _ (λ r at. all (slice_index plan r) at.0) there) there

  pub others_taken : (op : Op) → HaveTakenParts op (λ r. cipher_at old (slice_index plan r))
      → OnOperands op (λ r. (slice_index plan r < length old) × (slice_index plan r ≢ length front))
      → HaveTakenParts op (λ r. other_at front back (slice_index plan r))
  others_taken op taken there = some_weaker (parts_taken op) (λ n hold. others_of (λ c. c.parts ≡ n) op hold there) taken

  pub middle_all : (P : CipherValue → Type 0) → ((p : ℕ) → p < length old → P (cipher_at old p)) → P (cipher_at one 0)
  middle_all P all =
      let whole = ap length is ∙ length-append front (one ++ back) in
      let rest = length-append one back in
      subst P (by one is single) (all (length front) (omega arith))
    where
      by : (one : List CipherValue) → old ≡ front ++ (one ++ back) → length one ≡ 1 → cipher_at old (length front) ≡ cipher_at one 0
      by [] is single = absurd (omega (arith, single))
      by (x ∷ y ∷ rest) is single = absurd (omega (arith, single))
      by (x ∷ []) is single = ap (λ (places : List CipherValue). cipher_at places (length front)) is ∙ get_or-append_seam front x back no_cipher
