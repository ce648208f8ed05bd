use Rattle.std.proofs.Common.{map, sym, subst, List, ℕ}
use Rattle.std.specs.String.{string_bytes}
use Rattle.outer_io.specs.Sink.{Puts}
use Rattle.outer_io.proofs.Sinking.{Puts_stop, Puts_then}
use Rattle.command_words.specs.Line.{numbered}
use Rattle.command_words.specs.Status.{parts_of}
use Rattle.command_words.proofs.Words.{text_about-split}
use Rattle.command_words.proofs.line.put_text.Goals as goal

pub returns-in-Ok : goal.returns-in-Ok
returns-in-Ok g c =
    let parts = parts_of c.args.status in
    let words = map string_bytes c.args.words.now in
    let state = g.O.Sink.state in
    subst (λ (text : List ℕ). Puts (state c.args.out.now) (state c.put_word.new.out) text c.put_word.result) (sym (text_about-split words (numbered parts.text parts.number) parts.whole parts.word))
    (Puts_then _ _ _ _ _ _ _ c.in-Ok.ensures (rw (← c.word.ensures) (rw (← c.whole.ensures) c.put_word.ensures)))

pub returns-in-Err : goal.returns-in-Err
returns-in-Err g c =
    let parts = parts_of c.args.status in
    let words = map string_bytes c.args.words.now in
    rw (text_about-split words (numbered parts.text parts.number) parts.whole parts.word) (Puts_stop _ _ _ _ _ c.in-Err.ensures)
