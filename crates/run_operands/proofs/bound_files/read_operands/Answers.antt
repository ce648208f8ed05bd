use Rattle.std.proofs.Common.{◌≡◌, inr, ℕ, ◌+◌, ◌<◌, ◌≤◌, List, [], ◌∷◌, ◌++◌, length, map, ap, sym, subst, ◌∙◌, arith}
use Rattle.std.specs.String.{string_bytes}
use Rattle.std.proofs.lemmas.List.{length-append, length-map}
use Rattle.std.proofs.lemmas.Result.{err_from_is_err_and}
use Rattle.outer_io.specs.Store.{OnlyReads}
use Rattle.command_words.specs.Form.{binding_name}
use Rattle.command_words.specs.Line.{word_at}
use Rattle.command_words.specs.declared.form.Form.TheVariants.{Run}
use Rattle.command_model.specs.Bindings.{kind_at, input_named}
use Rattle.command_stages.proofs.Causes.{reads_nothing}
use Rattle.command_stages.proofs.Ways.{operand_named, reads_then}
use Rattle.run_operands.specs.declared.bound_files.Operand.{Operand}
use Rattle.run_operands.specs.BoundFiles.{FitsKind}
use Rattle.run_operands.specs.BoundReads.{FitInputs}
use Rattle.run_operands.proofs.Places.{each_push}
use Rattle.run_operands.proofs.BoundReading.{Progress, progress_begun, progress_next, progress_more, progress_ended, behind}
use Rattle.run_operands.proofs.bound_files.read_operands.Goals as goal

pub loop-word-init : goal.loop-word-init
loop-word-init g c =
    let state = g.S.Store.state c.args.store.now in
    let words = map string_bytes c.args.words.now in
    let script = c.args.script.now in
    let items = c.new-operands.ensures.items in
    record {
      keeps = reads_nothing state;
      count = ap (λ (operands : List Operand). 3 + length operands) items;
      way = λ rest begun formed way. subst (Progress script words rest begun state 3) (sym items) (progress_begun script words rest begun state way);
      fits = subst (FitInputs script words) (sym items) (λ p operand at. absurd (cc));
    }

pub returns-in_err-operand-clause-came : goal.returns-in_err-operand-clause-came
returns-in_err-operand-clause-came g c = λ rest begun formed way.
    let words = map string_bytes c.args.words.now in
    let script = c.args.script.now in
    let word = c.loop-word.word in
    let from : 3 ≤ word = omega arith in
    let within : word < length words = omega (arith, length-map c.args.words.now string_bytes) in
    let progress = c.loop-word.invariant.way rest begun formed way in
    let came = c.in_err-operand.ensures.came (behind script words rest progress.joined word) begun (operand_named Run words word formed (inr (from, within)))
    (progress_next script words rest begun (g.S.Store.state c.loop-word.store) word c.loop-word.operands.items from within progress) in
    let p = err_from_is_err_and c.from_residual.result c.from_residual.ensures.1 in
    rw (p.1, p.2) record { ok = tt; err = came.err }

pub loop-word-preserved : goal.loop-word-preserved
loop-word-preserved g c =
    let state = g.S.Store.state in
    let words = map string_bytes c.args.words.now in
    let script = c.args.script.now in
    let word = c.loop-word.word in
    let before = c.loop-word.operands.items in
    let operand = c.in_ok-operand.operand in
    let from : 3 ≤ word = omega arith in
    let within : word < length words = omega (arith, length-map c.args.words.now string_bytes) in
    let items : c.push.new.self.items ≡ before ++ operand ∷ [] = c.in-Ok.ensures.items in
    let keeps : OnlyReads (state c.args.store.now) (state c.read_operand.new.store) = reads_then c.loop-word.invariant.keeps c.in_ok-operand.ensures.keeps in
    record {
      keeps = keeps;
      count = omega (arith, ap length items, length-append before (operand ∷ []), c.loop-word.invariant.count);
      way = λ rest begun formed way.
          let progress = c.loop-word.invariant.way rest begun formed way in
          let came = c.in_ok-operand.ensures.came (behind script words rest progress.joined word) begun (operand_named Run words word formed (inr (from, within)))
          (progress_next script words rest begun (state c.loop-word.store) word before from within progress) in
          subst (Progress script words rest begun (state c.read_operand.new.store) (word + 1)) (sym items)
          (progress_more script words rest begun (state c.loop-word.store) (state c.read_operand.new.store) word before operand c.loop-word.invariant.count progress came);
      fits = subst (FitInputs script words) (sym items)
          (each_push (λ p o. FitsKind script.set (kind_at script (input_named script (binding_name (word_at words (3 + p))))) o) before operand
          c.loop-word.invariant.fits
          (subst (λ (w : ℕ). FitsKind script.set (kind_at script (input_named script (binding_name (word_at words w)))) operand) (sym c.loop-word.invariant.count)
          c.in_ok-operand.ensures.fits));
    }

pub returns-clause-came : goal.returns-clause-came
returns-clause-came g c = λ rest begun formed way.
    let words = map string_bytes c.args.words.now in
    let script = c.args.script.now in
    let word = c.loop-word.word in
    let progress = c.loop-word.invariant.way rest begun formed way in
    let all : length words ≡ word = omega (arith, length-map c.args.words.now string_bytes) in
    record {
      ok = (
        progress.planned,
        (
          progress.seen,
          (progress.bound, (progress.again, progress_ended script words rest begun (g.S.Store.state c.loop-word.store) word c.loop-word.operands.items all (omega arith) progress)),
        ),
      );
      err = tt;
    }
