use Rattle.std.proofs.Common.{rules, arith, ◌≡◌, ℕ, ◌<◌, List, [], length, map, All, slice_index, sym, ◌∙◌, ap, subst}
use Rattle.std.specs.Prelude.{slice_index_or}
use Rattle.std.specs.String.{string_bytes}
use Rattle.std.proofs.lemmas.Result.{err_from_is_err_and}
use Rattle.set_table.specs.declared.SetName.{SetName}
use Rattle.set_table.specs.Sets.{degree_of, data_of, plain_of}
use Rattle.ring_law.specs.Rows.{IsReduced}
use Rattle.bfv_model.specs.Holds.{secret_polynomial}
use Rattle.bfv_params.specs.Values.{ContextValue}
use Rattle.bfv_params.specs.Ciphers.{IsCipherOf}
use Rattle.script_text.specs.Value.{value_of}
use Rattle.noise_check.specs.ExactBounds.{exact_bounds}
use Rattle.key_switch.specs.Memory.{MemKeysValue}
use Rattle.script_run.specs.Premises.{IsQuiet}
use Rattle.script_run.specs.Registers.{input_count}
use Rattle.script_run.specs.Runs.{Carries, InputsCarry}
use Rattle.script_run.specs.Workspaces.{input_of, output_of, whole_context}
use Rattle.command_model.specs.Plan.{stated_bounds}
use Rattle.script_run.proofs.Plans.{still_made}
use Rattle.command_stages.proofs.Writing.{unmade_before}
use Rattle.run_operands.specs.BoundFiles.{MayBeBound}
use Rattle.bfv_commands.specs.Filled.{AreListed}
use Rattle.bfv_commands.proofs.Executing.{AreRead, inputs_apart, inputs_carry, owner_ternary, zero_of_context}
use Rattle.bfv_commands.proofs.execution.executed.Goals as goal

pub fill_ciphers-requires : goal.fill_ciphers-requires
fill_ciphers-requires g c =
    let script = c.args.script.now in
    let made = c.in-Ok-new.ensures.made in
    let filled = c.fill_plains.ensures in
    let old = c.in-Ok-new.space in
    let new = c.fill_plains.new.space in
    let of_set : new.set ≡ script.set = filled.set ∙ made.same_set in
    let context : c.in-Ok.ctx ≡ whole_context new.set = c.in-Ok.ensures ∙ ap whole_context (c.set-set.ensures.value ∙ sym of_set) in
    let inputs : new.inputs ≡ input_count script = filled.inputs ∙ c.in-Ok-new.ensures.input_count in
    let now = still_made script old new made record {
      set = filled.set;
      inputs = filled.inputs;
      plan = filled.plan;
      count = ap length filled.places;
      plain_count = filled.count;
    } in (
      search rules,
      (
        c.requires.degree ∙ ap degree_of (sym of_set),
        (
          c.requires.cipher_count ∙ sym inputs,
          (
            subst (λ (z : SetName). All (MayBeBound z (length c.args.words.now)) c.args.ciphers.now) (sym of_set) c.requires.bound,
            (
              λ r below. zero_of_context g.row.N c.in-Ok.ctx old new r context filled.places filled.plan (c.in-Ok-new.ensures.inputs r (subst (λ (count : ℕ). r < count) filled.inputs below)),
              inputs_apart script new now inputs,
            ),
          ),
        ),
      ),
    )

pub returns-in_err-fill_ciphers-clause-made : goal.returns-in_err-fill_ciphers-clause-made
returns-in_err-fill_ciphers-clause-made g c = λ contents.
    let p = err_from_is_err_and c.from_residual.result c.from_residual.ensures.1 in
    rw (p.1, p.2) (unmade_before (c.in_err-fill_ciphers.ensures.made contents))

pub execute-requires : goal.execute-requires
execute-requires g c =
    let n = g.row.N in
    let script = c.args.script.now in
    let ctx = c.in-Ok.ctx in
    let made = c.in-Ok-new.ensures.made in
    let filled = c.fill_plains.ensures in
    let read = c.in_ok-fill_ciphers.ensures in
    let old = c.in-Ok-new.space in
    let between = c.fill_plains.new.space in
    let new = c.fill_ciphers.new.space in
    let context : ctx ≡ whole_context script.set = c.in-Ok.ensures ∙ ap whole_context c.set-set.ensures.value in
    let of_script : ctx.set ≡ script.set = ap (λ (x : ContextValue). x.set) context in
    let of_set : between.set ≡ script.set = filled.set ∙ made.same_set in
    let between_made = still_made script old between made record {
      set = filled.set;
      inputs = filled.inputs;
      plan = filled.plan;
      count = ap length filled.places;
      plain_count = filled.count;
    } in
    let new_made = still_made script between new between_made record {
      set = read.set;
      inputs = read.inputs;
      plan = read.plan;
      count = read.places;
      plain_count = ap length read.plains;
    } in
    let inputs : new.inputs ≡ input_count script = read.inputs ∙ filled.inputs ∙ c.in-Ok-new.ensures.input_count in (
      search rules,
      (
        search rules,
        (
          sym of_script,
          (
            ap (λ (x : ContextValue). x.level) context ∙ ap (λ (z : SetName). length (data_of z)) (sym of_script),
            (
              new_made,
              (
                c.requires.keyless,
                (
                  λ r below. subst (λ (x : ContextValue). IsCipherOf x (input_of new r)) (ap whole_context of_set ∙ sym context) (read.of_context r below),
                  (
                    λ r below. read.parts r (subst (λ (count : ℕ). r < count) (sym inputs) below),
                    (
                      λ p below. subst (λ (z : SetName). IsReduced n (plain_of z) (slice_index_or new.plains p [])) (made.same_set ∙ sym of_script)
                          (subst (λ (plains : List (List ℕ)). IsReduced n (plain_of old.set) (slice_index_or plains p [])) (sym read.plains)
                          (filled.reduced p (subst (λ (count : ℕ). p < count) (sym c.requires.plain_count) below))),
                      ap (λ (keys : MemKeysValue). keys.set) c.new-keys.ensures ∙ c.set-set.ensures.value ∙ sym of_script,
                    ),
                  ),
                ),
              ),
            ),
          ),
        ),
      ),
    )

pub returns-clause-made : goal.returns-clause-made
returns-clause-made g c = λ contents. record {
  keeps = (c.in_ok-fill_ciphers.ensures.made contents).keeps;
  ok = λ files told held owner plains lists listed sealed quiet.
      let n = g.row.N in
      let script = c.args.script.now in
      let words = map string_bytes c.args.words.now in
      let count = length c.args.words.now in
      let ciphers = c.args.ciphers.now in
      let operands = c.args.operands.now in
      let places = c.args.places.now in
      let made = c.in-Ok-new.ensures.made in
      let filled = c.fill_plains.ensures in
      let read = c.in_ok-fill_ciphers.ensures in
      let space = c.fill_ciphers.new.space in
      let s = secret_polynomial owner.secret in
      let bounds = stated_bounds contents in
      let context : c.in-Ok.ctx ≡ whole_context script.set = c.in-Ok.ensures ∙ ap whole_context c.set-set.ensures.value in
      let are_read : AreRead n script space words files count ciphers contents = record {
        degree = c.requires.degree;
        set = read.set ∙ filled.set ∙ made.same_set;
        inputs = read.inputs ∙ filled.inputs ∙ c.in-Ok-new.ensures.input_count;
        counted = c.requires.cipher_count;
        bound = c.requires.bound;
        held = held;
        words_read = (read.made contents).ok files told held;
      } in
      let carry = inputs_carry n script space words files count ciphers contents operands places owner plains lists are_read c.requires.plain_count
      (subst (AreListed operands places) (sym read.plains) filled.filled) listed sealed in
      subst (λ (x : ContextValue). Carries n x s (output_of c.execute.new.self) (value_of script lists) (slice_index (exact_bounds script bounds) script.output)) context
      (c.in-Ok-execute.ensures.value s lists bounds (subst (λ (x : ContextValue). InputsCarry n x s script space.plan space.places space.plains lists bounds) (sym context) carry)
      record {
        ternary = owner_ternary n script contents owner plains lists c.set-set.ensures.sound sealed;
        quiet = subst (λ (x : ContextValue). IsQuiet x script bounds) (sym context) quiet;
        keys = λ i key below. let none = ap length c.requires.keyless in absurd (omega (arith, none, below));
      });
  err = tt;
  reads = tt;
}
