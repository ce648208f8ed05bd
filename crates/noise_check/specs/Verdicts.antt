-- Whether the noise of a script stays within its set's limit.
use Rattle.std.specs.Prelude.{ℕ, nat_lt, List, length, map, replicate, position, slice_index, Option, Some, None}
use Rattle.set_table.specs.Sets.{degree_of, plain_of, data_of}
use Rattle.script_text.specs.Scripts.{Script, cipher_inputs, register_lines}
use Rattle.bound_num.specs.Bound.{up}
use Rattle.bfv_model.specs.Drawn.{greatest_error}
use Rattle.bfv_model.specs.Limit.{limit}
use Rattle.bfv_model.specs.NoiseBounds.{fresh_bound}
use Rattle.noise_check.specs.declared.verdict.Verdict.{Verdict}
use Rattle.noise_check.specs.declared.verdict.Verdict.TheVariants.{Accepted, TooNoisy}
use Rattle.noise_check.specs.RoundedBounds.{rounded_bounds}
use Rattle.noise_check.specs.Numbers.{bound_of}

-- the bounds of a script's cipher inputs, where all of them are fresh
abbrev pub fresh_bounds : Script → List ℕ
fresh_bounds script = replicate (length (cipher_inputs script.inputs)) (up (fresh_bound (degree_of script.set) (plain_of script.set) greatest_error))

-- the first register whose bound is above the limit
abbrev pub first_above : Script → List ℕ → Option ℕ
first_above script bounds = position (nat_lt (limit (data_of script.set))) bounds

-- the verdict on a script with such a first register, or with none
abbrev pub verdict_at : Script → List ℕ → Option ℕ → Verdict
verdict_at script bounds None = Accepted (map bound_of bounds)
verdict_at script bounds (Some register) =
    TooNoisy (slice_index (register_lines script) register) (bound_of (slice_index bounds register)) (bound_of (limit (data_of script.set)))

-- the verdict on a script whose cipher inputs have these bounds
abbrev pub verdict_of : Script → List ℕ → Verdict
verdict_of script inputs = verdict_at script (rounded_bounds script inputs) (first_above script (rounded_bounds script inputs))
