use Rattle.std.proofs.Common.{◌≡◌, ℕ, List, ◌+◌, length, map}
use Rattle.std.specs.Prelude.{Some}
use Rattle.std.specs.String.{string_bytes}
use Rattle.outer_io.specs.Store.{StoreState, OnlyReads}
use Rattle.command_words.specs.Form.{form_of}
use Rattle.command_words.specs.declared.form.Form.TheVariants.{Run}
use Rattle.command_model.specs.Bindings as bindings
use Rattle.command_model.specs.Reading.{Reading}
use Rattle.command_model.specs.Plan.{reading_of_bindings}
use Rattle.command_stages.specs.Stages.{Way}
use Rattle.run_operands.specs.BoundReads.{FitInputs}
use Rattle.run_operands.proofs.BoundReading.{Progress}
use Rattle.run_operands.proofs.bound_files.read_operands.Given as goal

abbrev pub invariant-loop-word : goal.invariant-loop-word
invariant-loop-word g l =
    let state = g.S.Store.state in
    let words = map string_bytes l.words in
    record {
      keeps : OnlyReads (state l.fn.store) (state l.store);
      count : 3 + length l.operands.items ≡ l.word;
      way : (rest : List bindings.Operand → Reading) (begun : StoreState) → form_of words ≡ Some Run
          → Way words (reading_of_bindings l.script 3 (bindings.bindings_of words) rest) begun (state l.fn.store)
          → Progress l.script words rest begun (state l.store) l.word l.operands.items;
      fits : FitInputs l.script words l.operands.items;
    }
