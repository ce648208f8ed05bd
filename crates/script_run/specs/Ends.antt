-- Until when registers are live and places are taken.
use Rattle.std.specs.Prelude.{◌≡◌, ◌≢◌, ℕ, ◌+◌, ◌<◌, ◌≤◌, ◌↔◌, max, List, [], ◌∷◌, length, slice_index, nat_lt}
use Rattle.std.specs.List.{count_by}
use Rattle.script_text.specs.Scripts.{Script}
use Rattle.script_run.specs.Registers.{Live, input_count}

-- Each register has its end: once defined, it is live before the steps below the end and before no other.
pub record AreEnds (script : Script) (ends : List ℕ) : Type 0 where
  pub size : length ends ≡ input_count script + length script.steps
  pub live : (i r : ℕ) → i ≤ length script.steps → r < input_count script + i → Live script i r ↔ (i < slice_index ends r)

-- how many places are taken before step i, where each is taken until its end
abbrev pub taken_count : ℕ → List ℕ → ℕ
taken_count i ends = count_by (nat_lt i) ends

-- Of places that are each taken until its end, one that is free before step i was taken until another end. It may be a new one, if all
-- are taken.
pub record IsTaken (old new : List ℕ) (i until place : ℕ) : Type 0 where
  pub free : slice_index old place ≤ i
  pub inside : place < length new
  pub here : slice_index new place ≡ until
  pub others : (p : ℕ) → p ≢ place → slice_index new p ≡ slice_index old p
  pub later : (j : ℕ) → i ≤ j → taken_count j new ≡ taken_count j old + taken_count j (until ∷ [])
  pub more : length old ≤ length new
  pub few : length new ≤ max (length old) (taken_count i old + 1)
