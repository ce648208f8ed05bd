-- How long texts may be.
use Rattle.std.specs.Prelude.{ℕ}

-- the most bytes that the text of a script has
abbrev pub max_script_bytes : ℕ
max_script_bytes = 1048576

-- the most inputs of both kinds that a script has
abbrev pub max_inputs : ℕ
max_inputs = 64

-- the most steps that a script has
abbrev pub max_steps : ℕ
max_steps = 4096

-- the most bytes that the text of a list of values has
abbrev pub max_values_bytes : ℕ
max_values_bytes = 4194304
