-- The lists of the inputs of one kind.
use Rattle.std.proofs.Common.{◌≡◌, ◌<◌, ◌≤◌, ℕ, zero, suc, ◌+◌, ◌*◌, List, [], ◌∷◌, ◌++◌, length, map, take, drop, get_or, Bool, true, false, cond, refl, sym, ap, ap₂, ◌∙◌, subst, arith, length-take, length-drop, slice_index}
use Rattle.std.specs.List.{filter, zip, range_with_len}
use Rattle.std.proofs.Math.Nat.{mul-le-mul_left, mul-suc}
use Rattle.std.proofs.lemmas.List.{take_more, take_all, get_or-take, get_or-drop, map-append, append-nil}
use Rattle.std.proofs.lemmas.List.Elements.{filter-append, All-push}
use Rattle.ring_law.proofs.Values.{length-values_below}
use Rattle.script_text.specs.declared.script.Input.{Input}
use Rattle.script_text.specs.Value.{lists_of, lists_in}
use Rattle.script_text.specs.Evaluating.{AreLists, AreValues}

zip-push : {K X : Type 0} (ks : List K) (xs : List X) (k : K) (x : X) → length ks ≡ length xs → zip (ks ++ k ∷ []) (xs ++ x ∷ []) ≡ zip ks xs ++ (k, x) ∷ []
zip-push [] [] k x same = refl
zip-push [] (y ∷ ys) k x same = absurd (omega arith)
zip-push (j ∷ ks) [] k x same = absurd (omega arith)
zip-push (j ∷ ks) (y ∷ ys) k x same = ap (λ (ps : List (_ × _)). (j, y) ∷ ps) (zip-push ks ys k x (omega arith))

lists_of-push : (test : Input → Bool) (inputs : List Input) (lists : List (List ℕ)) (input : Input) (list : List ℕ) (passes : Bool) → length inputs ≡ length lists → test input ≡ passes
    → lists_of test (inputs ++ input ∷ []) (lists ++ list ∷ []) ≡ lists_of test inputs lists ++ cond passes (list ∷ []) []
lists_of-push test inputs lists input list passes same is =
    ap (λ (ps : List (Input × List ℕ)). map (λ p. p.1) (filter (λ p. test p.0) ps)) (zip-push inputs lists input list same)
    ∙ ap (λ (ps : List (Input × List ℕ)). map (λ p. p.1) ps) (filter-append (λ (p : Input × List ℕ). test p.0) (zip inputs lists) ((input, list) ∷ []))
    ∙ map-append (λ (p : Input × List ℕ). p.1) (filter (λ p. test p.0) (zip inputs lists)) (filter (λ p. test p.0) ((input, list) ∷ []))
    ∙ ap (λ (xs : List (List ℕ)). lists_of test inputs lists ++ xs) (ap (λ (b : Bool). map (λ (p : Input × List ℕ). p.1) (cond b ((input, list) ∷ []) [])) is ∙ by passes)
  where
    by : (b : Bool) → map (λ (p : Input × List ℕ). p.1) (cond b ((input, list) ∷ []) []) ≡ cond b (list ∷ []) []
    by true = refl
    by false = refl

range-push : (a n : ℕ) → range_with_len a (suc n) ≡ range_with_len a n ++ (a + n) ∷ []
range-push a zero = ap (λ (k : ℕ). k ∷ []) (omega arith)
range-push a (suc n) = ap (λ (ks : List ℕ). a ∷ ks) (range-push (a + 1) n ∙ ap (λ (k : ℕ). range_with_len (a + 1) n ++ k ∷ []) (omega arith))

lists_in-push : (n i : ℕ) (values : List ℕ) → lists_in n (i + 1) values ≡ lists_in n i values ++ take n (drop (n * i) values) ∷ []
lists_in-push n i values =
    ap (λ (k : ℕ). lists_in n k values) (by i)
    ∙ ap (λ (ks : List ℕ). map (λ k. take n (drop (n * k) values)) ks) (range-push 0 i ∙ ap (λ (k : ℕ). range_with_len 0 i ++ k ∷ []) (from_zero i))
    ∙ map-append (λ k. take n (drop (n * k) values)) (range_with_len 0 i) (i ∷ [])
  where
    by : (i : ℕ) → i + 1 ≡ suc i
    by i = omega arith

    from_zero : (i : ℕ) → 0 + i ≡ i
    from_zero i = omega arith

lists_more : (test : Input → Bool) (inputs : List Input) (n i : ℕ) (values : List ℕ) (input : Input) (passes : Bool) → i < length inputs → input ≡ get_or inputs i input → test input ≡ passes
    → lists_of test (take (i + 1) inputs) (lists_in n (i + 1) values) ≡ lists_of test (take i inputs) (lists_in n i values) ++ cond passes (take n (drop (n * i) values) ∷ []) []
lists_more test inputs n i values input passes below is tested =
    ap₂ (λ (is : List Input) (ls : List (List ℕ)). lists_of test is ls) (take_more inputs i input below ∙ ap (λ (k : Input). take i inputs ++ k ∷ []) (sym is)) (lists_in-push n i values)
    ∙ lists_of-push test (take i inputs) (lists_in n i values) input (take n (drop (n * i) values)) passes same tested
  where
    same : length (take i inputs) ≡ length (lists_in n i values)
    same =
        let taken = length-take i inputs in
        let lists = length-values_below i (λ (k : ℕ). take n (drop (n * k) values)) in
        omega arith

-- the values of one input
room : (n count i : ℕ) → i < count → n * i + n ≤ n * count
room n count i below =
    let more : n * suc i ≤ n * count = mul-le-mul_left n below in
    let step : n * suc i ≡ n * i + n = mul-suc n i in
    omega arith

values_at : (n t count i : ℕ) (values : List ℕ) → length values ≡ n * count → i < count → ((k : ℕ) → k < length values → slice_index values k < t) → AreValues n t (take n (drop (n * i) values))
values_at n t count i values size below small =
    let fits = room n count i below in
    let dropped = length-drop (n * i) values in
    let taken = length-take n (drop (n * i) values) in (
      omega arith,
      λ k within.
          let at : slice_index (take n (drop (n * i) values)) k ≡ slice_index values (n * i + k) = get_or-take n (drop (n * i) values) k 0 within ∙ get_or-drop (n * i) values k 0 in
          let bound = small (n * i + k) (omega arith) in
          omega arith,
    )

-- one input more in the loop that gathers the lists
pub lists_step : (test : Input → Bool) (inputs : List Input) (n t i : ℕ) (values : List ℕ) (input : Input) (passes : Bool) (old new : List (List ℕ)) (list : List ℕ)
    → i < length inputs → input ≡ get_or inputs i input → passes ≡ test input → list ≡ take n (drop (n * i) values)
    → length values ≡ n * length inputs → ((k : ℕ) → k < length values → slice_index values k < t)
    → old ≡ lists_of test (take i inputs) (lists_in n i values) → AreLists n t old → new ≡ cond passes (old ++ list ∷ []) old
    → (new ≡ lists_of test (take (i + 1) inputs) (lists_in n (i + 1) values)) × AreLists n t new
lists_step test inputs n t i values input passes old new list below is tested taken size small so_far lists pushed = (
  pushed ∙ by passes ∙ sym (lists_more test inputs n i values input passes below is (sym tested)),
  subst (AreLists n t) (sym pushed) (kept passes),
)
  where
    by : (b : Bool) → cond b (old ++ list ∷ []) old ≡ lists_of test (take i inputs) (lists_in n i values) ++ cond b (take n (drop (n * i) values) ∷ []) []
    by true = ap₂ (λ (ls : List (List ℕ)) (l : List ℕ). ls ++ l ∷ []) so_far taken
    by false = so_far ∙ sym (append-nil (lists_of test (take i inputs) (lists_in n i values)))

    kept : (b : Bool) → AreLists n t (cond b (old ++ list ∷ []) old)
    kept true = All-push (AreValues n t) old list lists (subst (AreValues n t) (sym taken) (values_at n t (length inputs) i values size below small))
    kept false = lists

-- all inputs were gathered
pub lists_done : (test : Input → Bool) (inputs : List Input) (n i : ℕ) (values : List ℕ) → i ≡ length inputs
    → lists_of test (take i inputs) (lists_in n i values) ≡ lists_of test inputs (lists_in n (length inputs) values)
lists_done test inputs n i values all =
    ap₂ (λ (is : List Input) (ls : List (List ℕ)). lists_of test is ls) (take_all i inputs (omega arith)) (ap (λ (k : ℕ). lists_in n k values) all)

zip_count : (test : Input → Bool) (inputs : List Input) (lists : List (List ℕ)) → length inputs ≡ length lists → length (lists_of test inputs lists) ≡ length (filter test inputs)
zip_count test [] lists same = refl
zip_count test (input ∷ inputs) [] same = absurd (omega arith)
zip_count test (input ∷ inputs) (list ∷ lists) same = by (test input) (zip_count test inputs lists (omega arith))
  where
    by : (b : Bool) → length (lists_of test inputs lists) ≡ length (filter test inputs)
        → length (map (λ (p : Input × List ℕ). p.1) (cond b ((input, list) ∷ filter (λ p. test p.0) (zip inputs lists)) (filter (λ p. test p.0) (zip inputs lists)))) ≡ length (cond b (input ∷ filter test inputs) (filter test inputs))
    by true more = ap suc more
    by false more = more

-- as many lists as inputs that pass
pub length-lists_of : (test : Input → Bool) (inputs : List Input) (n : ℕ) (values : List ℕ) → length (lists_of test inputs (lists_in n (length inputs) values)) ≡ length (filter test inputs)
length-lists_of test inputs n values = zip_count test inputs (lists_in n (length inputs) values) (sym (length-values_below (length inputs) (λ (k : ℕ). take n (drop (n * k) values))))
