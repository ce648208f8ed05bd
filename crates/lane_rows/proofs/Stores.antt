use Rattle.std.proofs.Common.{◌≡◌, ◌≢◌, ℕ, ◌+◌, ◌-◌, ◌*◌, ◌<◌, ◌≤◌, ◌∙◌, List, length, get_or, arith, ap, sym, subst, ⊎_elim, below_more}
use Rattle.std.proofs.lemmas.Bool.{cases_lt}
use Rattle.std.proofs.lemmas.Simd.{get_or-put_chunk_below, get_or-put_chunk_at, get_or-put_chunk_above}
use Rattle.std.specs.List.{SameFrom}
use Rattle.std.specs.Simd.Lanes.{put_chunk}

-- What holds of the word of a row at each place before chunk k, and of the lanes that are stored there, holds at each place before the
-- next chunk.
pub stored : (P : ℕ → ℕ → Type 0) (xs vs : List ℕ) (k : ℕ) → length vs ≡ 4 → 4 * k + 4 ≤ length xs
    → ((j : ℕ) → j < 4 * k → P j (get_or xs j 0)) → ((i : ℕ) → i < 4 → P (4 * k + i) (get_or vs i 0))
    → (j : ℕ) → j < 4 * (k + 1) → P j (get_or (put_chunk (4 * k) xs vs) j 0)
stored P xs vs k len_vs in_xs before here j h =
    ⊎_elim
    (λ (l : j < 4 * k). rw (get_or-put_chunk_below (4 * k) xs vs j 0 l) (before j l))
    (λ (g : 4 * k ≤ j).
    let i : ℕ = j - 4 * k in
    let is_j : 4 * k + i ≡ j = omega arith in
    let in_vs : i < length vs = omega arith in
    let room : 4 * k + length vs ≤ length xs = omega arith in
    let Q : ℕ → Type 0 = λ z. P z (get_or (put_chunk (4 * k) xs vs) z 0) in
    subst Q is_j (rw (get_or-put_chunk_at (4 * k) xs vs i 0 in_vs room) (here i (omega arith))))
    (cases_lt j (4 * k))

-- the words of a row before place n are f of what they first were, and those from it on are as they first were
pub record MappedTo (f : ℕ → ℕ) (first xs : List ℕ) (n : ℕ) : Type 0 where
  pub done : (j : ℕ) → j < n → get_or xs j 0 ≡ f (get_or first j 0)
  pub rest : SameFrom first xs n

-- after a chunk is stored in its place
pub MappedTo-put_chunk : (f : ℕ → ℕ) (first xs vs : List ℕ) (k : ℕ) → length vs ≡ 4 → 4 * k + 4 ≤ length xs → MappedTo f first xs (4 * k)
    → ((i : ℕ) → i < 4 → get_or vs i 0 ≡ f (get_or xs (4 * k + i) 0)) → MappedTo f first (put_chunk (4 * k) xs vs) (4 * (k + 1))
MappedTo-put_chunk f first xs vs k len_vs in_xs before here = record {
  done = stored (λ j x. x ≡ f (get_or first j 0)) xs vs k len_vs in_xs before.done
      (λ i h. here i h ∙ ap f (before.rest (4 * k + i) 0 (omega arith)));
  rest = λ j d h. get_or-put_chunk_above (4 * k) xs vs j d (omega arith) ∙ before.rest j d (omega arith);
}

-- the words of two rows before place n are as P says, and those from it on are as they first were
pub record PairsTo (P : ℕ → ℕ → ℕ → Type 0) (first_xs first_ys xs ys : List ℕ) (n : ℕ) : Type 0 where
  pub done : (j : ℕ) → j < n → P j (get_or xs j 0) (get_or ys j 0)
  pub xs_rest : (j : ℕ) → n ≤ j → get_or xs j 0 ≡ get_or first_xs j 0
  pub ys_rest : (j : ℕ) → n ≤ j → get_or ys j 0 ≡ get_or first_ys j 0

-- one pair more
pub PairsTo-more : (P : ℕ → ℕ → ℕ → Type 0) (first_xs first_ys xs ys new_xs new_ys : List ℕ) (i n : ℕ) → n ≡ i + 1
    → PairsTo P first_xs first_ys xs ys i → P i (get_or new_xs i 0) (get_or new_ys i 0)
    → ((j : ℕ) → j ≢ i → get_or new_xs j 0 ≡ get_or xs j 0) → ((j : ℕ) → j ≢ i → get_or new_ys j 0 ≡ get_or ys j 0)
    → PairsTo P first_xs first_ys new_xs new_ys n
PairsTo-more P first_xs first_ys xs ys new_xs new_ys i n next before here xs_others ys_others =
    subst (λ n. PairsTo P first_xs first_ys new_xs new_ys n) (sym next) (record {
      done = below_more _ _ (λ j h. rw (xs_others j (λ e. omega arith), ys_others j (λ e. omega arith)) (before.done j h)) here;
      xs_rest = λ j h. xs_others j (λ e. omega arith) ∙ before.xs_rest j (omega arith);
      ys_rest = λ j h. ys_others j (λ e. omega arith) ∙ before.ys_rest j (omega arith);
    })
