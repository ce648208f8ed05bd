use Rattle.std.proofs.Common.{◌≡◌, ◌≢◌, map, sym, subst}
use Rattle.std.specs.String.{string_bytes}
use Rattle.outer_io.specs.Store.{Files}
use Rattle.command_words.specs.Line.{word_at}
use Rattle.command_words.specs.declared.status.Status.{Status}
use Rattle.command_words.specs.declared.status.Status.TheVariants.{WriteFault}
use Rattle.command_stages.specs.Operands.{HasContent, HasContentAt}
use Rattle.command_stages.specs.Stages.{Unmade}
use Rattle.command_stages.proofs.Scanning.{reading_fault}
use Rattle.command_stages.proofs.Writing.{unmade_again}
use Rattle.key_commands.proofs.reread.public_again.Goals as goal

pub returns-in-Err-clause-made : goal.returns-in-Err-clause-made
returns-in-Err-clause-made g c = λ content.
    let words = map string_bytes c.args.words.now in
    let word = c.args.word in
    let old = g.S.Store.state c.args.store.now in
    let new = g.S.Store.state c.read_public.new.store in
    let same : Files → Type 0 = λ files. HasContent words files word c.args.head.now content in
    let name : word_at words word ≡ c.name_of.result.now = sym c.name_of.ensures in
    record {
      keeps = c.in-Err.ensures.keeps;
      ok = tt;
      err = subst (Unmade (λ w. w ≡ word) same old new) (sym c.status_of.ensures)
          (unmade_again word same old new c.in-Err.fault c.in-Err.ensures.cause c.in-Err.ensures.only (λ files told held.
          let here = subst (λ n. HasContentAt files n c.args.head.now content) name held in
          (c.in-Err.ensures.told files told content here.there here.is_file here.head_is).never));
      reads = subst (λ (status : Status). status ≢ WriteFault) (sym c.status_of.ensures) (reading_fault word c.in-Err.fault);
    }
