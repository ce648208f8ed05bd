use Rattle.std.proofs.Common.{rules, arith, ◌≡◌, ℕ, ◌<◌, List, slice_index, sym, ◌∙◌, ap, subst}
use Rattle.std.specs.Prelude.{slice_index_or}
use Rattle.std.proofs.lemmas.Option.{slice_get-get_or}
use Rattle.std.proofs.lemmas.Result.{err_from_is_err_and}
use Rattle.set_table.specs.declared.SetName.{SetName}
use Rattle.bfv_params.specs.Values.{CipherValue}
use Rattle.bfv_params.specs.Ciphers.{IsCipherOf}
use Rattle.script_run.specs.Workspaces.{input_of, whole_context}
use Rattle.command_model.specs.Bindings.{no_content}
use Rattle.bfv_commands.specs.Filled.{HasWordsOf}
use Rattle.command_stages.proofs.Ways.{reads_then}
use Rattle.command_stages.proofs.Writing.{unmade_behind}
use Rattle.bfv_commands.proofs.Executing.{one_more}
use Rattle.bfv_commands.proofs.execution.fill_ciphers.Goals as goal

pub returns-in_err-fill_cipher-clause-made : goal.returns-in_err-fill_cipher-clause-made
returns-in_err-fill_cipher-clause-made g c = λ contents.
    let r = c.loop-r.r in
    let at = slice_get-get_or c.args.ciphers.now r _ c.loop-r-test.true in
    let before = c.loop-r.invariant.keeps in
    let made = c.in_err-fill_cipher.ensures.made (slice_index_or contents r no_content) in
    let p = err_from_is_err_and c.from_residual.result c.from_residual.ensures.1 in
    rw (p.1, p.2) record {
      keeps = reads_then before made.keeps;
      ok = tt;
      err = unmade_behind before (λ word is. record { place = r; cipher = _; there = at; is = sym is }) (λ files held. held.each r _ at) made.err;
      reads = made.reads;
    }

pub loop-r-preserved : goal.loop-r-preserved
loop-r-preserved g c =
    let r = c.loop-r.r in
    let n = g.row.N in
    let old = c.loop-r.space in
    let new = c.fill_cipher.new.space in
    let set = c.args.space.now.set in
    let before = c.loop-r.invariant in
    let inside : r < c.args.space.now.inputs = omega (arith, c.loop-r-test.true, c.requires.count) in
    let apart : (q : ℕ) → q < c.args.space.now.inputs → slice_index old.plan q ≡ slice_index old.plan r → q ≡ r
    = λ q below same. c.requires.apart q r below inside
    (sym (ap (λ (plan : List ℕ). slice_index plan q) before.plan) ∙ same ∙ ap (λ (plan : List ℕ). slice_index plan r) before.plan) in
    record {
      keeps = reads_then before.keeps (c.in_ok-fill_cipher.ensures.made no_content).keeps;
      set = c.in_ok-fill_cipher.ensures.set ∙ before.set;
      inputs = c.in_ok-fill_cipher.ensures.inputs ∙ before.inputs;
      plan = c.in_ok-fill_cipher.ensures.plan ∙ before.plan;
      plains = c.in_ok-fill_cipher.ensures.plains ∙ before.plains;
      places = c.in_ok-fill_cipher.ensures.places ∙ before.places;
      of_context = λ q below.
          one_more (λ _ (cipher : CipherValue). IsCipherOf (whole_context set) cipher) old new r q c.in_ok-fill_cipher.ensures.plan c.in_ok-fill_cipher.ensures.others (apart q below)
          (subst (λ (z : SetName). IsCipherOf (whole_context z) (input_of new r)) before.set c.in_ok-fill_cipher.ensures.of_context) (λ _. before.of_context q below);
      parts = λ q below.
          one_more (λ _ (cipher : CipherValue). cipher.parts ≡ 2) old new r q c.in_ok-fill_cipher.ensures.plan c.in_ok-fill_cipher.ensures.others (apart q (omega arith)) c.in_ok-fill_cipher.ensures.parts
          (λ differ. before.parts q (omega arith));
      told = λ files told contents held q below.
          let at = slice_get-get_or c.args.ciphers.now r _ c.loop-r-test.true in
          let read = (c.in_ok-fill_cipher.ensures.made (slice_index_or contents r no_content)).ok files (before.keeps.files ∙ told) (held.each r _ at) in
          one_more (λ i (cipher : CipherValue). HasWordsOf n set cipher (slice_index_or contents i no_content)) old new r q c.in_ok-fill_cipher.ensures.plan c.in_ok-fill_cipher.ensures.others (apart q (omega arith))
          (subst (λ (z : SetName). HasWordsOf n z (input_of new r) (slice_index_or contents r no_content)) before.set read)
          (λ differ. before.told files told contents held q (omega arith));
    }

pub returns-clause-made : goal.returns-clause-made
returns-clause-made g c = λ contents.
    let space = c.loop-r.space in
    let before = c.loop-r.invariant in
    record {
      keeps = before.keeps;
      ok = λ files told held r below. subst (λ (z : SetName). HasWordsOf g.row.N z (input_of space r) (slice_index_or contents r no_content)) (sym before.set)
          (before.told files told contents held r (omega (arith, below, before.inputs, c.requires.count, c.loop-r-test.false)));
      err = tt;
      reads = tt;
    }
