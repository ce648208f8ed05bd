-- How long the text of a batch may be.
use Rattle.std.specs.Prelude.{ℕ}

-- the most bytes that the text of a batch has
abbrev pub max_batch_bytes : ℕ
max_batch_bytes = 1048576

-- the most commands that a batch has
abbrev pub max_commands : ℕ
max_commands = 1000
