use Rattle.std.proofs.Common.{◌≡◌, ℕ, ◌<◌, List, length, map}
use Rattle.std.specs.Prelude.{slice_index_or}
use Rattle.std.specs.Option.{ForSome}
use Rattle.std.specs.String.{string_bytes}
use Rattle.outer_io.specs.Store.{OnlyReads}
use Rattle.file_model.specs.FileText.{FileContent}
use Rattle.bfv_params.specs.Ciphers.{IsCipherOf}
use Rattle.script_run.specs.Workspaces.{input_of, whole_context}
use Rattle.command_model.specs.Bindings.{no_content}
use Rattle.run_operands.specs.BoundFiles.{AreHeld}
use Rattle.bfv_commands.specs.Filled.{HasWordsOf}
use Rattle.bfv_commands.proofs.execution.fill_ciphers.Given as goal

abbrev pub invariant-loop-r : goal.invariant-loop-r
invariant-loop-r g l =
    let state = g.S.Store.state in
    record {
      keeps : OnlyReads (state l.fn.store) (state l.store);
      set : l.space.set ≡ l.fn.space.set;
      inputs : l.space.inputs ≡ l.fn.space.inputs;
      plan : l.space.plan ≡ l.fn.space.plan;
      plains : l.space.plains ≡ l.fn.space.plains;
      places : length l.space.places ≡ length l.fn.space.places;
      of_context : (q : ℕ) → q < l.fn.space.inputs → IsCipherOf (whole_context l.fn.space.set) (input_of l.space q);
      parts : (q : ℕ) → q < l.r → (input_of l.space q).parts ≡ 2;
      told : ForSome (state l.fn.store).files (λ files. (contents : List FileContent) → AreHeld (map string_bytes l.words) files l.ciphers contents
          → (q : ℕ) → q < l.r → HasWordsOf g.row.N l.fn.space.set (input_of l.space q) (slice_index_or contents q no_content));
    }
