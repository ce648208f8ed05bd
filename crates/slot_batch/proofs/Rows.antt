-- Two words of a row written in one turn of a loop over both halves.
use Rattle.std.proofs.Common.{◌≡◌, ℕ, ◌+◌, ◌-◌, ◌*◌, ◌<◌, ◌≤◌, ◌≢◌, sym, ap, ◌∙◌, subst, arith, List, length, slice_index, slice_set, get_or-set_other, get_or-set_same, length-set, ⊎_elim}
use Rattle.std.proofs.lemmas.Bool.{cases_lt}

module _ (row : List ℕ) (a b v w : ℕ) (la : a < length row) (lb : b < length row) (apart : a ≢ b) where
  set_other : (j : ℕ) → j ≢ a → j ≢ b → slice_index (slice_set (slice_set row a v) b w) j ≡ slice_index row j
  set_other j p q = get_or-set_other (slice_set row a v) b j w 0 q ∙ get_or-set_other row a j v 0 p

  set_first : slice_index (slice_set (slice_set row a v) b w) a ≡ v
  set_first = get_or-set_other (slice_set row a v) b a w 0 apart ∙ get_or-set_same row a v 0 la

  set_second : slice_index (slice_set (slice_set row a v) b w) b ≡ w
  set_second = get_or-set_same (slice_set row a v) b w 0 (subst (λ n. b < n) (sym (length-set row a v)) lb)

-- so many words of both halves have been written, each at its place: f is the place of a word, and g what is to stand there
pub record IsWritten (f g : ℕ → ℕ) (half count : ℕ) (row : List ℕ) : Type 0 where
  pub first : (j : ℕ) → j < count → slice_index row (f j) ≡ g j
  pub second : (j : ℕ) → j < count → slice_index row (f (half + j)) ≡ g (half + j)

-- one more word of each half
pub written_more : (f g : ℕ → ℕ) (n half i a b v w : ℕ) (row : List ℕ) → n ≡ 2 * half → length row ≡ n → i < half
    → ((j : ℕ) → j < n → f j < n) → ((j k : ℕ) → j < n → k < n → f j ≡ f k → j ≡ k)
    → a ≡ f i → b ≡ f (half + i) → v ≡ g i → w ≡ g (half + i)
    → IsWritten f g half i row → IsWritten f g half (i + 1) (slice_set (slice_set row a v) b w)
written_more f g n half i a b v w row even len within below once at_a at_b is_v is_w before = record {
  first = λ j l. ⊎_elim
      (λ (h : j < i). other (f j) (λ e. away j (once j i (omega arith) (omega arith) (e ∙ at_a)) h)
      (λ e. far j (once j (half + i) (omega arith) (omega arith) (e ∙ at_b)) h) ∙ before.first j h)
      (λ (h : i ≤ j). let same : i ≡ j = omega arith in subst (λ (j : ℕ). slice_index (slice_set (slice_set row a v) b w) (f j) ≡ g j) same
      (ap (λ (y : ℕ). slice_index (slice_set (slice_set row a v) b w) y) (sym at_a) ∙ set_first row a b v w in_a in_b apart ∙ is_v))
      (cases_lt j i);
  second = λ j l. ⊎_elim
      (λ (h : j < i). other (f (half + j)) (λ e. near j (once (half + j) i (omega arith) (omega arith) (e ∙ at_a)))
      (λ e. away_second j (once (half + j) (half + i) (omega arith) (omega arith) (e ∙ at_b)) h) ∙ before.second j h)
      (λ (h : i ≤ j). let same : i ≡ j = omega arith in subst (λ (j : ℕ). slice_index (slice_set (slice_set row a v) b w) (f (half + j)) ≡ g (half + j)) same
      (ap (λ (y : ℕ). slice_index (slice_set (slice_set row a v) b w) y) (sym at_b) ∙ set_second row a b v w in_a in_b apart ∙ is_w))
      (cases_lt j i);
}
  where
    in_a : a < length row
    in_a = let h = below i (omega arith) in omega arith

    in_b : b < length row
    in_b = let h = below (half + i) (omega arith) in omega arith

    away : (j : ℕ) → j ≡ i → j < i → ⊥
    away j e h = absurd (omega arith)

    far : (j : ℕ) → j ≡ half + i → j < i → ⊥
    far j e h = absurd (omega arith)

    near : (j : ℕ) → half + j ≡ i → ⊥
    near j e = absurd (omega arith)

    away_second : (j : ℕ) → half + j ≡ half + i → j < i → ⊥
    away_second j e h = absurd (omega arith)

    apart : a ≢ b
    apart e = absurd (let h = once i (half + i) (omega arith) (omega arith) (sym at_a ∙ e ∙ at_b) in omega arith)

    other : (c : ℕ) → c ≢ a → c ≢ b → slice_index (slice_set (slice_set row a v) b w) c ≡ slice_index row c
    other = set_other row a b v w in_a in_b apart

-- both halves are all of it
pub written_all : (f g : ℕ → ℕ) (n half count : ℕ) (row : List ℕ) → n ≡ 2 * half → half ≤ count → IsWritten f g half count row
    → (j : ℕ) → j < n → slice_index row (f j) ≡ g j
written_all f g n half count row even enough h j l = ⊎_elim
    (λ (p : j < half). h.first j (omega arith))
    (λ (p : half ≤ j). let e : half + (j - half) ≡ j = omega arith in
    subst (λ (j : ℕ). slice_index row (f j) ≡ g j) e (h.second (j - half) (omega arith)))
    (cases_lt j half)
