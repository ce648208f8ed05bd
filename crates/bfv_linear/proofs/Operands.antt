-- Ciphers of a context under the list of its data moduli.
use Rattle.std.proofs.Common.{◌≡◌, ◌⊎◌, ℕ, ◌+◌, ◌*◌, ◌%◌, ◌<◌, ◌≤◌, ◌∙◌, arith, sym, subst, ap, ℤ, List, [], length, get_or, slice_index, slice_range}
use Rattle.set_table.specs.Sets.{data_of, degree_of}
use Rattle.ring_law.specs.Rows.{IsReduced, RowRepresents}
use Rattle.rns_poly.specs.Rows.{AreReduced, EachRepresents}
use Rattle.bfv_params.specs.Kept.{IsCipher}
use Rattle.bfv_params.specs.Moduli.{data_at}
use Rattle.bfv_params.specs.Rows.{ReducedInTurn, ZeroFrom}
use Rattle.bfv_params.specs.Values.{CipherValue, ContextValue}
use Rattle.bfv_params.proofs.Ciphers.{within_three}
use Rattle.bfv_params.proofs.Tables.{degree_of-limit}
use Rattle.bfv_params.specs.Ciphers.{IsCipherOf}
use Rattle.bfv_linear.proofs.OneRow.{alone_reduced, alone_represents, from_alone, one_at, one_long}
use Rattle.bfv_linear.proofs.Results.{RowBecomes}
use Rattle.bfv_linear.proofs.Written.{WrittenTo}

-- what is known of a cipher of the context whose data moduli are listed
pub record IsOperand (n : ℕ) (ctx : ContextValue) (moduli : List ℕ) (a : CipherValue) : Type 0 where
  pub of_context : IsCipherOf ctx a
  pub degree : n ≤ 32768
  pub degree_is : n ≡ degree_of ctx.set
  pub listed : moduli ≡ data_at ctx.set ctx.level
  pub level : length moduli ≡ ctx.level
  pub some : 0 < length moduli
  pub within : length moduli ≤ length (data_of ctx.set)
  pub count : (a.parts ≡ 2) ⊎ (a.parts ≡ 3)
  pub size : length a.rows ≡ 3 * length moduli
  pub reduced : ReducedInTurn n (length moduli) moduli a.rows
  pub rest : ZeroFrom n (a.parts * length moduli) a.rows

pub operand : (n : ℕ) (ctx : ContextValue) (moduli : List ℕ) (a : CipherValue) → IsCipherOf ctx a
    → IsCipher n a.set a.room a.level a.parts a.rows → moduli ≡ data_at ctx.set ctx.level → length moduli ≡ ctx.level → IsOperand n ctx moduli a
operand n ctx moduli a of kept listed counted =
    let same_set = of.set in
    let same_level = of.level in
    let level : a.level ≡ length moduli = same_level ∙ sym counted in
    let degree : n ≡ degree_of ctx.set = kept.degree ∙ ap degree_of same_set in
    let same : data_at a.set a.level ≡ moduli = ap (λ set. data_at set a.level) same_set ∙ ap (data_at ctx.set) same_level ∙ sym listed in
    record {
      of_context = of;
      degree = subst (λ m. m ≤ 32768) (sym degree) (degree_of-limit ctx.set);
      degree_is = degree;
      listed = listed;
      level = counted;
      some = subst (λ m. 0 < m) level kept.some;
      within = let most = kept.within in let fits = kept.fits in let larger : a.level ≤ length (data_of a.set) = omega arith in
          subst (λ set. length moduli ≤ length (data_of set)) same_set (subst (λ m. m ≤ length (data_of a.set)) level larger);
      count = kept.count;
      size = kept.size ∙ ap (λ m. 3 * m) level;
      reduced = subst (λ ms. ReducedInTurn n (length moduli) ms a.rows) same
          (subst (λ m. ReducedInTurn n m (data_at a.set a.level) a.rows) level kept.reduced);
      rest = subst (λ m. ZeroFrom n (a.parts * m) a.rows) level kept.rest;
    }

-- a row of the parts is a row of the cipher
pub in_cipher : (n : ℕ) (ctx : ContextValue) (moduli : List ℕ) (a : CipherValue) (i parts : ℕ) → IsOperand n ctx moduli a → a.parts ≡ parts → i < parts * length moduli
    → i < 3 * length moduli
in_cipher n ctx moduli a i parts known same less = within_three parts (length moduli) i (subst (λ p. (p ≡ 2) ⊎ (p ≡ 3)) same known.count) less

-- ---- row i under its modulus
module _ (n : ℕ) (ctx : ContextValue) (moduli : List ℕ) (a : CipherValue) (i : ℕ) (known : IsOperand n ctx moduli a) where
  pub place_in_list : i % length moduli < length moduli
  place_in_list = let some = known.some in omega arith

  -- row i alone, as it is lent
  module _ (p : ℕ) (lent : List (List ℕ)) (at : p ≡ i % length moduli) (is : lent ≡ slice_range a.rows i (i + 1)) (within : i < 3 * length moduli) where
    pub lent_length : length lent ≡ length (slice_range moduli p (p + 1))
    lent_length = ap length is ∙ one_long a.rows i (omega (arith, known.size)) ∙ sym (one_long moduli p (let in_list = place_in_list in omega arith))

    pub lent_reduced : AreReduced n (slice_range moduli p (p + 1)) lent
    lent_reduced = alone_reduced n p moduli lent (let in_list = place_in_list in omega arith)
        (subst (λ rows. IsReduced n (slice_index moduli p) (get_or rows 0 [])) (sym is)
        (subst (λ row. IsReduced n (slice_index moduli p) row) (sym (one_at a.rows i []))
        (subst (λ q. IsReduced n (slice_index moduli q) (get_or a.rows i [])) (sym at) (known.reduced i (omega (arith, known.size))))))

-- a reduced row of the parts can be written into a cipher of the context
pub row_fits : (n : ℕ) (ctx : ContextValue) (moduli : List ℕ) (first now : CipherValue) (P : ℕ → List ℕ → Type 0) (i count parts : ℕ) (row : List ℕ)
    → IsOperand n ctx moduli first → first.parts ≡ parts → WrittenTo first P count now → i < parts * length moduli
    → IsReduced n (slice_index moduli (i % length moduli)) row
    → (i < now.parts * now.level) × IsReduced n (slice_index (data_at now.set now.level) (i % now.level)) row
row_fits n ctx moduli first now P i count parts row over counted written less reduced =
    let level : length moduli ≡ now.level = over.level ∙ sym (written.level ∙ over.of_context.level) in
    let same : data_at ctx.set ctx.level ≡ data_at now.set now.level =
    ap (data_at ctx.set) (sym (written.level ∙ over.of_context.level)) ∙ ap (λ set. data_at set now.level) (sym (written.set ∙ over.of_context.set)) in (
      subst (λ p. i < p * now.level) (sym (written.parts ∙ counted)) (subst (λ m. i < parts * m) level less),
      subst (λ ms. IsReduced n (slice_index ms (i % now.level)) row) (over.listed ∙ same) (subst (λ m. IsReduced n (slice_index moduli (i % m)) row) level reduced),
    )

-- a slice of what is lent
pub lent_from : (view rows lent : List (List ℕ)) (i j : ℕ) → lent ≡ slice_range view i j → view ≡ rows → lent ≡ slice_range rows i j
lent_from view rows lent i j is same = is ∙ ap (λ (whole : List (List ℕ)). slice_range whole i j) same

lent_represents : (n p i : ℕ) (moduli : List ℕ) (rows lent : List (List ℕ)) (x : ℕ → ℤ) → p < length moduli → lent ≡ slice_range rows i (i + 1)
    → RowRepresents n (slice_index moduli p) (get_or rows i []) x → EachRepresents n (slice_range moduli p (p + 1)) lent (λ j. x)
lent_represents n p i moduli rows lent x in_list is represents =
    let row : get_or lent 0 [] ≡ get_or rows i [] = ap (λ (r : List (List ℕ)). get_or r 0 []) is ∙ one_at rows i [] in
    alone_represents n p moduli lent x in_list (subst (λ r. RowRepresents n (slice_index moduli p) r x) (sym row) represents)

-- a row that was made of row i alone, under modulus p
pub made_alone : (op : (ℕ → ℤ) → ℕ → ℤ) (n p i : ℕ) (moduli : List ℕ) (rows lent made : List (List ℕ)) → p < length moduli → lent ≡ slice_range rows i (i + 1)
    → ((x : ℕ → ℕ → ℤ) → EachRepresents n (slice_range moduli p (p + 1)) lent x → EachRepresents n (slice_range moduli p (p + 1)) made (λ j. op (x j)))
    → RowBecomes op n (slice_index moduli p) (get_or rows i []) (get_or made 0 [])
made_alone op n p i moduli rows lent made in_list is makes x represents k below =
    from_alone n p moduli made (λ j. op x) in_list (makes (λ j. x) (lent_represents n p i moduli rows lent x in_list is represents)) k below

-- the same of two ciphers
pub made_alone_of_two : (op : (ℕ → ℤ) → (ℕ → ℤ) → ℕ → ℤ) (n p i : ℕ) (moduli : List ℕ) (a b lent_a lent_b made : List (List ℕ)) → p < length moduli
    → lent_a ≡ slice_range a i (i + 1) → lent_b ≡ slice_range b i (i + 1)
    → ((x y : ℕ → ℕ → ℤ) → EachRepresents n (slice_range moduli p (p + 1)) lent_a x → EachRepresents n (slice_range moduli p (p + 1)) lent_b y
    → EachRepresents n (slice_range moduli p (p + 1)) made (λ j. op (x j) (y j)))
    → (x y : ℕ → ℤ) → RowRepresents n (slice_index moduli p) (get_or a i []) x → RowRepresents n (slice_index moduli p) (get_or b i []) y
    → RowRepresents n (slice_index moduli p) (get_or made 0 []) (op x y)
made_alone_of_two op n p i moduli a b lent_a lent_b made in_list is_a is_b makes x y represents_a represents_b k below =
    from_alone n p moduli made (λ j. op x y) in_list
    (makes (λ j. x) (λ j. y) (lent_represents n p i moduli a lent_a x in_list is_a represents_a) (lent_represents n p i moduli b lent_b y in_list is_b represents_b)) k below
