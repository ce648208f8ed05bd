-- What a sink of text looks like from outside.
use Rattle.std.specs.Prelude.{◌≡◌, ℕ, ◌≤◌, List, ◌++◌, take, Option, Result, OnOk, OnErr, IsErrOf}
use Rattle.std.specs.Option.{option_map}
use Rattle.outer_io.specs.Store.{Rose}
use Rattle.outer_io.specs.declared.faults.SinkFault.{SinkFault}
use Rattle.outer_io.specs.declared.faults.SinkFault.TheVariants.{Failed}

-- What is known of a sink.
pub record SinkState : Type 0 where
  -- all that was put, where the sink tells it
  pub text : Option (List ℕ)
  -- how many calls of `put` failed
  pub faults : ℕ

-- the text with a piece at its end, where it is told
abbrev pub grown : SinkState → List ℕ → Option (List ℕ)
grown old piece = option_map (λ text. text ++ piece) old.text

-- A piece is put: after Ok it stands at the end of the text, after an Err a prefix of it does.
-- `Failed` comes only where the count rose.
pub record Puts {T : Type 0} (old new : SinkState) (piece : List ℕ) (result : Result T SinkFault) : Type 0 where
  pub ok : OnOk result (new.text ≡ grown old piece)
  pub err : OnErr result ((n : ℕ) × (new.text ≡ grown old (take n piece)))
  pub faults : old.faults ≤ new.faults
  pub failed : IsErrOf result Failed → Rose old.faults new.faults
