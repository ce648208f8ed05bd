-- When a register of a script is live, and plans that give each register a place.
use Rattle.std.specs.Prelude.{◌≡◌, ◌≢◌, ◌⊎◌, ℕ, ◌+◌, ◌<◌, ◌≤◌, max, Bool, ◌||◌, ◌&&◌, ◌==◌, nat_lt, List, drop, fold, length, slice_index, slice_get, Some, Contains}
use Rattle.std.specs.List.{count_by, list_any, range_with_len}
use Rattle.ring_law.specs.Sums.{values_below}
use Rattle.script_text.specs.declared.script.Step.{Step}
use Rattle.script_text.specs.Scripts.{Script, cipher_inputs, operands_of}

-- the number of cipher inputs, which are the first registers
abbrev pub input_count : Script → ℕ
input_count script = length (cipher_inputs script.inputs)

-- step i or a later one reads the register
abbrev pub IsReadFrom : Script → ℕ → ℕ → Type 0
IsReadFrom script i r = (j : ℕ) × (step : Step) × (i ≤ j) × (slice_get script.steps j ≡ Some step) × Contains (operands_of step.op) r

-- The register is live before step i, or after the last step if there is no step i: it was defined before, and it is put out or read
-- by step i or a later one. Before step 0 every input is live.
pub record Live (script : Script) (i r : ℕ) : Type 0 where
  pub defined : r < input_count script + i
  pub needed : (i ≡ 0) ⊎ ((r ≡ script.output) ⊎ IsReadFrom script i r)

-- whether step i or a later one reads the register
abbrev pub is_read_from : Script → ℕ → ℕ → Bool
is_read_from script i r = list_any (λ step. list_any (λ operand. r == operand) (operands_of step.op)) (drop i script.steps)

-- whether the register is live before step i: a test, so that live registers can be counted
abbrev pub is_live : Script → ℕ → ℕ → Bool
is_live script i r = nat_lt r (input_count script + i) && ((i == 0) || ((r == script.output) || is_read_from script i r))

-- how many registers are live before step i, of those that were defined before
abbrev pub live_count : Script → ℕ → ℕ
live_count script i = count_by (is_live script i) (range_with_len 0 (input_count script + i))

-- the greatest number of registers that are live at one moment, which is before a step or after the last
abbrev pub most_live : Script → ℕ
most_live script = fold max 0 (values_below (length script.steps + 1) (live_count script))

-- A plan gives each register one of `count` places. No two registers that are live at one moment have the same, and the result of a
-- step has the place of no register that is live before that step.
pub record IsPlan (script : Script) (plan : List ℕ) (count : ℕ) : Type 0 where
  pub size : length plan ≡ input_count script + length script.steps
  pub within : (r : ℕ) → r < length plan → slice_index plan r < count
  pub apart : (i r other : ℕ) → i ≤ length script.steps → Live script i r → Live script i other → slice_index plan r ≡ slice_index plan other → r ≡ other
  pub result : (i r : ℕ) → i < length script.steps → Live script i r → slice_index plan r ≢ slice_index plan (input_count script + i)
