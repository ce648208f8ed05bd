-- Ciphers that are written row after row.
use Rattle.std.proofs.Common.{◌≡◌, ◌≢◌, ℕ, ◌+◌, ◌<◌, ◌∙◌, arith, refl, sym, subst, List, [], length, length-set, get_or, get_or-set_other, get_or-set_same, below_more, slice_set}
use Rattle.std.specs.List.{SameFrom}
use Rattle.bfv_params.specs.Values.{CipherValue}

-- the rows before place count became what P says, and those from it on are as they first were
pub record WrittenTo (first : CipherValue) (P : ℕ → List ℕ → Type 0) (count : ℕ) (now : CipherValue) : Type 0 where
  pub set : now.set ≡ first.set
  pub room : now.room ≡ first.room
  pub level : now.level ≡ first.level
  pub parts : now.parts ≡ first.parts
  pub size : length now.rows ≡ length first.rows
  pub done : (i : ℕ) → i < count → P i (get_or now.rows i [])
  pub rest : SameFrom first.rows now.rows count

pub WrittenTo-start : (first : CipherValue) (P : ℕ → List ℕ → Type 0) (count : ℕ) → ((i : ℕ) → i < count → P i (get_or first.rows i [])) → WrittenTo first P count first
WrittenTo-start first P count before = record {
  set = refl;
  room = refl;
  level = refl;
  parts = refl;
  size = refl;
  done = before;
  rest = λ i d from. refl;
}

-- after one more row is written
pub WrittenTo-set : (first : CipherValue) (P : ℕ → List ℕ → Type 0) (i : ℕ) (now next : CipherValue) (row : List ℕ) → i < length first.rows
    → next ≡ record now { rows = slice_set now.rows i row } → P i row → WrittenTo first P i now → WrittenTo first P (i + 1) next
WrittenTo-set first P i now next row within is holds before = subst (WrittenTo first P (i + 1)) (sym is) (record {
  set = before.set;
  room = before.room;
  level = before.level;
  parts = before.parts;
  size = length-set now.rows i row ∙ before.size;
  done = below_more _ _
      (λ j less. let other : j ≢ i = omega arith in subst (P j) (sym (get_or-set_other now.rows i j row [] other)) (before.done j less))
      (subst (P i) (sym (get_or-set_same now.rows i row [] (omega (arith, before.size)))) holds);
  rest = λ j d from. let other : j ≢ i = omega arith in get_or-set_other now.rows i j row d other ∙ before.rest j d (omega arith);
})

-- what P says tells what Q does
pub WrittenTo-map : (first : CipherValue) (P Q : ℕ → List ℕ → Type 0) (count : ℕ) (now : CipherValue) → ((i : ℕ) (row : List ℕ) → i < count → P i row → Q i row)
    → WrittenTo first P count now → WrittenTo first Q count now
WrittenTo-map first P Q count now tells written = record {
  set = written.set;
  room = written.room;
  level = written.level;
  parts = written.parts;
  size = written.size;
  done = λ i less. tells i (get_or now.rows i []) less (written.done i less);
  rest = written.rest;
}
